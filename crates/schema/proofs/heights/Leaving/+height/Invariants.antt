-- `schema::heights::Leaving::node_height` and `edges_height`, which call each other, meet their contracts. The measure falls with each edge, and by more with each node.
use Prim.Native.Nat.{◌+◌, ◌*◌}
use Rattle.schema.specs.Heights.{end_of}
use Rattle.schema.proofs.heights.Leaving.+height.Given as goal

abbrev pub decreases-edges_height : goal.decreases-edges_height
decreases-edges_height l = 34 * l.depth + end_of l.edge + 1

abbrev pub decreases-node_height : goal.decreases-node_height
decreases-node_height l = 34 * l.depth
