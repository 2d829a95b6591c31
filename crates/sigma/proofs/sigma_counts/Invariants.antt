-- `sigma::sigma_counts` meets its contract.
use Prim.Native.Nat.{ℕ, ◌<◌}
use mathlib.Core.Path.{◌≡◌}
use lib.ListN.{get_or}
use Rattle.lifts.specs.Lifts.{joined_before}
use Rattle.sigma.proofs.sigma_counts.Given as goal

abbrev pub invariant-loop-d : goal.invariant-loop-d
invariant-loop-d l = (i : ℕ) → i < l.d → get_or l.count-items i 0 ≡ joined_before l.f.node l.run.counts i l.n
