-- `text::lines::put_part` meets its contract.
use native.Mathlib.Omega.{arith}
use Rattle.text.proofs.Pieces.{space-room, number-room, part-written}
use Rattle.text.proofs.lines.put_part.Goals as goal

pub bounds-out-at : goal.bounds-out-at
bounds-out-at c = space-room c.args.n c.requires

pub overflow_add-at : goal.overflow_add-at
overflow_add-at c = omega (arith, space-room c.args.n c.requires)

pub put_decimal-requires : goal.put_decimal-requires
put_decimal-requires c = record { room = omega (arith, (number-room c.args.n c.requires).room) }

pub returns : goal.returns
returns c = part-written c.args.n c.put_decimal.ensures
