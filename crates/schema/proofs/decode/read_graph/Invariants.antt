-- `schema::decode::read_graph` meets its contract. The invariant: the first i edges are read.
use Rattle.schema.specs.Decoded.{Column}
use Rattle.schema.proofs.decode.read_graph.Given as goal

abbrev pub invariant-loop-i : goal.invariant-loop-i
invariant-loop-i l = Column l.s 22 8 4 32 l.i l.source × Column l.s 26 8 4 32 l.i l.target
