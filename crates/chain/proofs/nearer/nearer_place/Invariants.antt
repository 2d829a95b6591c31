-- `chain::nearer::nearer_place` meets its contract. The invariant: no place before b has a landing k steps away.
use Rattle.chain.proofs.LeastSteps.{NoneBefore}
use Rattle.chain.proofs.nearer.nearer_place.Given as goal

abbrev pub invariant-loop-b : goal.invariant-loop-b
invariant-loop-b l = NoneBefore l.p.end l.p.last l.p.first l.p.rank l.prefix l.n l.old l.new l.of l.k l.b
