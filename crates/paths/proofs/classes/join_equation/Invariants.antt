-- `paths::classes::join_equation` meets its contract. The invariant: the pairs behind the paths before the one at hand are joined, and that one ends at the
-- equation's start.
use Prim.Native.Nat.{ℕ, ◌-◌, ◌<◌}
use mathlib.Core.Path.{◌≡◌}
use lib.ListN.{get_or}
use Rattle.std.specs.Prelude.{Some, unwrap_or}
use Rattle.paths.specs.Classes.{pairs_at}
use Rattle.paths.proofs.Joining.{Turns}
use Rattle.paths.proofs.classes.join_equation.Given as goal

abbrev pub invariant-loop-at : goal.invariant-loop-at
invariant-loop-at l = Turns (pairs_at l.fn.p l.nodes l.left l.right) l.fn.p.count l.initial.of (unwrap_or l.at l.fn.p.count) l.of × ((u : ℕ) → l.at ≡ Some u → (u < l.fn.p.count) × (get_or l.fn.p.end u 0 ≡ l.left.start))

abbrev pub decreases-loop-at : goal.decreases-loop-at
decreases-loop-at l = l.fn.p.count - unwrap_or l.at l.fn.p.count
