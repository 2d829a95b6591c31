-- `chain::places::walk_rest` meets its contract.
use Rattle.chain.proofs.Collecting.{Walking}
use Rattle.chain.proofs.places.walk_rest.Given as goal

abbrev pub invariant-loop-j : goal.invariant-loop-j
invariant-loop-j l = Walking l.p.last l.p.first l.p.rank l.prefix l.i l.n l.y l.x l.j
