-- `mapping::edges::path_edges` meets its contract.
use Rattle.mapping.proofs.PathEdges.{Walked}
use Rattle.mapping.proofs.edges.path_edges.Given as goal

abbrev pub invariant-loop-k : goal.invariant-loop-k
invariant-loop-k l = Walked l.paths.last l.paths.parent l.i l.length l.edges l.k l.x
