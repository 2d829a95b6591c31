-- `sigma::columns::place_column` meets its contract.
use Prim.Native.Nat.{ℕ, ◌+◌, ◌<◌}
use mathlib.Core.Path.{◌≡◌}
use lib.ListN.{get_or}
use Rattle.theory.specs.Instance.{follow}
use Rattle.schema.specs.Decoded.{front_of}
use Rattle.instance.specs.Followed.{link_in}
use Rattle.sigma.proofs.columns.place_column.Given as goal

abbrev pub invariant-loop-x : goal.invariant-loop-x
invariant-loop-x l = (i : ℕ) → i < l.x → get_or l.place-items i 0 ≡ l.first + follow (link_in l.links) (front_of l.n l.edges) i
