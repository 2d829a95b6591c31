-- Rows copied table by table.
use Prim.Native.Nat.{ℕ, ◌+◌, ◌<◌}
use mathlib.Core.Path.{◌≡◌, ◌∙◌}
use mathlib.Core.List.{List}
use borrow.Author.Count.{below_more}
use lib.ListN.{get_or}
use Rattle.instance.specs.declared.tables.Table.{Table}
use Rattle.instance.specs.Stored.{Copied}
use Rattle.matching.specs.Compared.{first_in, count_in}
use Rattle.matching.specs.Turned.{Moveable, Moved}

pub moved_more : {n : ℕ} {from to : List Table} {list l : List ℕ} → Moveable n from to list l → {c : ℕ} {out r : List ℕ} → Moved c from to list out → c < n
    → Copied list (first_in from c) (count_in from c) (first_in to c) out r → Moved (c + 1) from to list r
moved_more {from = from} {to = to} {list = list} m {c} {out} {r} u h v = record {
  each = below_more (λ k. (x : ℕ) → x < count_in from k → get_or r (first_in to k + x) 0 ≡ get_or list (first_in from k + x) 0) c
      (λ k l x i. v.other (first_in to k + x) (λ y j. m.apart k c l h x y i j) ∙ u.each k l x i)
      v.each;
}
