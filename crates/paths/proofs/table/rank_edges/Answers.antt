-- `paths::table::rank_edges` meets its contract. The invariant: the first e edges have their ranks, and each node the number of those that leave it.
use Prim.Native.Nat.{◌≤◌}
use mathlib.Core.Path.{◌≡◌}
use native.Mathlib.Omega.{arith}
use lib.ListN.{length, get_or}
use Rattle.schema.specs.Decoded.{graph_of}
use Rattle.schema.proofs.GraphEdges.{edges-count}
use Rattle.paths.proofs.Filling.{ranking-low, ranking-more}
use Rattle.paths.proofs.table.rank_edges.Goals as goal

pub overflow_add-seen : goal.overflow_add-seen
overflow_add-seen c = let h : get_or c.loop-e.seen c.from-node.result 0 ≤ 31 = rw c.from-node.ensures (ranking-low c.requires c.loop-e.invariant (omega arith)) in omega arith

pub loop-e-preserved : goal.loop-e-preserved
loop-e-preserved c = rw c.from-node.ensures (ranking-more c.requires c.loop-e.invariant (omega arith))

pub returns : goal.returns
returns c =
    let g = c.args.g in
    let e : c.loop-e.e ≡ length (graph_of g).edges = omega (arith, edges-count g.edges g.source g.target) in
    rw e at c.loop-e.invariant.ranks
