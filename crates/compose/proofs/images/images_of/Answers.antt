-- `compose::images::images_of` meets its contract.
use native.Mathlib.Omega.{arith}
use Rattle.instance.proofs.Storing.{counts-done}
use Rattle.compose.proofs.Joining.{looked-up}
use Rattle.compose.proofs.images.images_of.Goals as goal

pub returns : goal.returns
returns c = looked-up c.args.l.now c.args.image.now c.requires.0 (counts-done c.loop-i.invariant (omega (arith, c.loop-i-test.false, c.requires.1)))
