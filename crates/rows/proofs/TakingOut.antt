-- A row taken out of the columns of its table, and links moved down with it.
use Prim.Native.Nat.{ℕ, ◌+◌, ◌*◌}
use mathlib.Core.List.{List}
use lib.ListN.{get_or}
use Rattle.meaning.specs.Rows.{at_table, moved_down}
use Rattle.instance.specs.Decoded.{rows_of}
use Rattle.agreement.specs.Changes.{skipping}
use Rattle.rows.proofs.Places.{Worked}

-- ---- taken out: the first k columns
module _ (home counts : List ℕ) (c x : ℕ) (l : List ℕ) where
  abbrev pub Taken : ℕ → List ℕ → Type 0
  Taken k r = Worked (rows_of home counts) (λ j i. get_or l (512 * j + at_table c (get_or home j 0) (skipping x) i) 0) k l r

-- ---- moved down: the links of the first k edges
module _ (source target counts : List ℕ) (c x : ℕ) (l : List ℕ) where
  abbrev pub Moved : ℕ → List ℕ → Type 0
  Moved k r = Worked (rows_of source counts) (λ j i. at_table c (get_or target j 0) (moved_down x) (get_or l (512 * j + i) 0)) k l r
