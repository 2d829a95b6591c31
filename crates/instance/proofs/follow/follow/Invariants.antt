-- `instance::follow::follow` meets its contract.
use Rattle.instance.proofs.Walking.{Walked}
use Rattle.instance.proofs.follow.follow.Given as goal

abbrev pub invariant-loop-edge : goal.invariant-loop-edge
invariant-loop-edge l = Walked l.links l.edges l.n l.row l.edge-index l.x
