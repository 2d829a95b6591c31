-- `text::decimal::put_decimal` meets its contract. The measure is the number, which falls to its tenth.
use native.Mathlib.Omega.{arith}
use Rattle.text.proofs.Digits.{one-room, one_written, front-room, last-room, last_written}
use Rattle.text.proofs.decimal.+put_decimal.Goals as goal

pub bounds-out-at : goal.bounds-out-at
bounds-out-at t c = one-room c.args.n c.requires c.if-n-lt10.true

pub overflow_add-result : goal.overflow_add-result
overflow_add-result t c = omega (arith, one-room c.args.n c.requires c.if-n-lt10.true)

pub returns-then-n-lt10 : goal.returns-then-n-lt10
returns-then-n-lt10 t c = one_written c.args.n c.requires c.if-n-lt10.true c.digit.ensures

pub put_decimal-next-requires : goal.put_decimal-next-requires
put_decimal-next-requires t c = (omega arith, front-room c.args.n c.requires c.if-n-lt10.false c.ranges.n.fits)

pub bounds-out-next : goal.bounds-out-next
bounds-out-next t c = last-room c.args.n c.requires c.if-n-lt10.false c.ranges.n.fits c.put_decimal-next.ensures

pub overflow_add-result-2 : goal.overflow_add-result-2
overflow_add-result-2 t c = omega (arith, last-room c.args.n c.requires c.if-n-lt10.false c.ranges.n.fits c.put_decimal-next.ensures, c.put_decimal-next.auto.out)

pub returns : goal.returns
returns t c = last_written c.args.n c.requires c.if-n-lt10.false c.ranges.n.fits c.put_decimal-next.ensures c.digit-2.ensures
