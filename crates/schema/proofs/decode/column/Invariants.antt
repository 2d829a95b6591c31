-- `schema::decode::column` meets its contract. The invariant: the first i fields are read.
use Rattle.schema.specs.Decoded.{Column}
use Rattle.schema.proofs.decode.column.Given as goal

abbrev pub invariant-loop-i : goal.invariant-loop-i
invariant-loop-i l = Column l.s l.at l.step l.width 16 l.i l.out
