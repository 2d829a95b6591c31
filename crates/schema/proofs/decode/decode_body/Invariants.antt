-- `schema::decode::decode_body` meets its contract: where the edges and attributes lie in the sheet, the equations decide, then the tail.
use Rattle.schema.specs.Decoded.{counts_of}
use Rattle.schema.proofs.Decoding.{Kept}
use Rattle.schema.proofs.decode.decode_body.Given as goal

abbrev pub invariant-loop-i : goal.invariant-loop-i
invariant-loop-i l = Kept (counts_of l.fn.c) l.s l.t l.i l.p
