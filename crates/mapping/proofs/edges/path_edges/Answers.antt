-- `mapping::edges::path_edges` meets its contract.
use native.Mathlib.Omega.{arith}
use Rattle.mapping.proofs.PathEdges.{walked_more}
use Rattle.mapping.proofs.edges.path_edges.Goals as goal

pub loop-k-preserved : goal.loop-k-preserved
loop-k-preserved c = walked_more c.loop-k.invariant (omega arith) c.from-x.ensures (omega (arith, c.from-x.ensures))
