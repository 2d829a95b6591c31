-- `instance::copy::copy_column` meets its contract.
use native.Mathlib.Omega.{arith}
use Rattle.instance.proofs.Storing.{copied_none, copied_more}
use Rattle.instance.proofs.copy.copy_column.Goals as goal

pub loop-i-init : goal.loop-i-init
loop-i-init c = copied_none _ _ _ _

pub loop-i-preserved : goal.loop-i-preserved
loop-i-preserved c = copied_more c.loop-i.invariant (omega (arith, c.loop-i.invariant.long))
