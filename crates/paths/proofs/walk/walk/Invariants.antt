-- `paths::walk::walk` meets its contract. The invariant: from path x on, the edges that are left lead to the same number.
use mathlib.Core.Path.{◌≡◌}
use lib.ListN.{get_or, drop}
use Rattle.theory.specs.Numbering.{tabulate}
use Rattle.paths.specs.PathWalks.{walk_from, WalkIn}
use Rattle.paths.proofs.walk.walk.Given as goal

abbrev pub invariant-loop-e : goal.invariant-loop-e
invariant-loop-e l = (walk_from l.first l.rank l.from (tabulate l.n (λ k. get_or l.edges k 0)) ≡ walk_from l.first l.rank l.x (drop l.e-index (tabulate l.n (λ k. get_or l.edges k 0)))) × WalkIn l.first l.rank l.x (drop l.e-index (tabulate l.n (λ k. get_or l.edges k 0)))
