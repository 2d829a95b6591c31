-- `schema::well_formed::follow` meets its contract. The invariant: the edges so far are followed, and lead to node.
use Rattle.schema.proofs.Following.{Gone}
use Rattle.schema.proofs.well_formed.follow.Given as goal

abbrev pub invariant-loop-edge : goal.invariant-loop-edge
invariant-loop-edge l = Gone l.g l.fn.p l.edge-index l.node
