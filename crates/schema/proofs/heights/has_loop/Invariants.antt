-- `schema::heights::has_loop` meets its contract. The invariant: from no node before n can as many edges be followed as there are nodes.
use Rattle.meaning.specs.Schema.{has_path_of}
use Rattle.meaning.proofs.Heights.{Missed}
use Rattle.schema.specs.Decoded.{graph_of}
use Rattle.schema.proofs.heights.has_loop.Given as goal

abbrev pub invariant-loop-n : goal.invariant-loop-n
invariant-loop-n l = Missed (has_path_of (graph_of l.g) l.g.nodes) l.g.nodes l.n
