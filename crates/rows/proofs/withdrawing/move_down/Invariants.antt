-- `rows::withdrawing::move_down` meets its contract.
use Prim.Native.Nat.{ℕ, ◌<◌, ◌≤◌}
use mathlib.Core.Path.{◌≡◌}
use lib.ListN.{get_or}
use Rattle.meaning.specs.Rows.{moved_down}
use Rattle.rows.proofs.withdrawing.move_down.Given as goal

abbrev pub invariant-loop-r : goal.invariant-loop-r
invariant-loop-r l = ((k : ℕ) → k < l.r-index → get_or l.r-items k 0 ≡ moved_down l.x (get_or l.initial.r-items k 0)) × ((k : ℕ) → l.r-index ≤ k → get_or l.r-items k 0 ≡ get_or l.initial.r-items k 0)
