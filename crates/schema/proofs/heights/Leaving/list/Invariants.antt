-- `schema::heights::Leaving::list` meets its contract. The invariant: the first e edges are listed.
use Rattle.schema.specs.Decoded.{graph_of}
use Rattle.schema.proofs.NodeHeights.{Listing}
use Rattle.schema.proofs.heights.Leaving.list.Given as goal

abbrev pub invariant-loop-e : goal.invariant-loop-e
invariant-loop-e l = Listing (graph_of l.g) l.before l.last l.e
