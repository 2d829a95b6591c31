-- Working arrays that do for the instances of a schema.
use Prim.Native.Nat.{ℕ, ◌≤◌}
use mathlib.Core.Path.{◌≡◌}
use mathlib.Core.Bool.{true}
use mathlib.Core.List.{List}
use native.Mathlib.Omega.{arith}
use borrow.Author.Tests.{leb-true}
use lib.Dec.{leb}
use lib.ListN.{length}
use Rattle.meaning.proofs.Tabulate.{and_both}
use Rattle.schema.specs.declared.Schema.{Schema}
use Rattle.schema.specs.Judged.{Sound}
use Rattle.instance.specs.Decoded.{Room, RoomFor, has_few_columns}

module _ {t : Schema} {links values : List ℕ} where
  pub room_for : Sound t → Room links values → RoomFor t links values
  room_for A R = record { for_links = omega (arith, A.limits.edges, R.for_links); for_values = omega (arith, A.limits.attributes, R.for_values) }

  pub few-room : has_few_columns t ≡ true → length links ≡ 2048 → length values ≡ 2048 → RoomFor t links values
  few-room h a b =
      let d = and_both (leb t.graph.edges 4) (leb t.attributes 4) h in
      let e : t.graph.edges ≤ 4 = leb-true _ _ d.0 in
      let m : t.attributes ≤ 4 = leb-true _ _ d.1 in
      record { for_links = omega arith; for_values = omega arith }
