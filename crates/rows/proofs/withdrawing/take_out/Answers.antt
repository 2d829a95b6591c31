-- `rows::withdrawing::take_out` meets its contract.
use mathlib.Core.Path.{◌≡◌}
use native.Mathlib.Omega.{arith}
use Rattle.rows.proofs.Places.{taking-none, taking-more, taking-done}
use Rattle.rows.proofs.withdrawing.take_out.Goals as goal

pub loop-i-init : goal.loop-i-init
loop-i-init c = taking-none _ _ _

pub loop-i-preserved : goal.loop-i-preserved
loop-i-preserved c = taking-more c.loop-i.invariant (omega arith) (omega (arith, c.loop-i.invariant.long))

pub returns : goal.returns
returns c = let e : c.loop-i.i ≡ c.args.n = omega (arith, c.loop-i-test.false) in taking-done (rw e at c.loop-i.invariant)
