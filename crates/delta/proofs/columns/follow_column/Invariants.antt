-- `delta::columns::follow_column` meets its contract.
use Prim.Native.Nat.{ℕ, ◌<◌}
use mathlib.Core.Path.{◌≡◌}
use lib.ListN.{get_or}
use Rattle.theory.specs.Instance.{follow}
use Rattle.schema.specs.Decoded.{front_of}
use Rattle.instance.specs.Followed.{link_in}
use Rattle.delta.proofs.columns.follow_column.Given as goal

abbrev pub invariant-loop-x : goal.invariant-loop-x
invariant-loop-x l = (i : ℕ) → i < l.x → get_or l.row-items i 0 ≡ follow (link_in l.links) (front_of l.n l.edges) i
