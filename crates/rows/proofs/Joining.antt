-- Columns put behind others in a working array.
use Prim.Native.Nat.{ℕ, ◌+◌, ◌-◌, ◌*◌, ◌<◌}
use mathlib.Core.Path.{◌≡◌, ap₂, ◌∙◌}
use mathlib.Core.Bool.{cond}
use mathlib.Core.List.{List, ◌++◌}
use native.Mathlib.Omega.{arith}
use borrow.Author.Tests.{lt-ltb, le-ltb}
use lib.Dec.{ltb}
use lib.ListN.{get_or}
use Rattle.meaning.proofs.Tabulate.{tabulate-same, tabulate-plus}
use Rattle.instance.specs.Decoded.{column_of}
use Rattle.rows.proofs.Places.{Worked}

module _ (a b : ℕ → ℕ) (list l : List ℕ) where
  -- number x of column k: one of the a k numbers of l, or behind them one of the list
  abbrev pub joined_at : ℕ → ℕ → ℕ
  joined_at k x = cond (ltb x (a k)) (get_or l (512 * k + x) 0) (get_or list (512 * k + (x - a k)) 0)

  abbrev pub Joining : ℕ → List ℕ → Type 0
  Joining k r = Worked (λ j. a j + b j) joined_at k l r

  module _ {k : ℕ} {r : List ℕ} (u : Joining k r) where
    pub joining-done : (j : ℕ) → j < k → column_of r (512 * j) (a j + b j) ≡ column_of l (512 * j) (a j) ++ column_of list (512 * j) (b j)
    joining-done j h =
        tabulate-plus (a j) (b j) (λ i. get_or r (512 * j + i) 0)
        ∙ ap₂ (λ (x y : List ℕ). x ++ y)
        (tabulate-same (a j) (λ i m. u.each j h i (omega arith) ∙ rw (lt-ltb i (a j) m)))
        (tabulate-same (b j) (λ i m. u.each j h (a j + i) (omega arith) ∙ behind i))
      where
        behind : (i : ℕ) → joined_at j (a j + i) ≡ get_or list (512 * j + i) 0
        behind i = let e : a j + i - a j ≡ i = omega arith in rw (le-ltb (a j + i) (a j) (omega arith), e)
