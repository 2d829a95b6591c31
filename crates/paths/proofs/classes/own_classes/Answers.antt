-- `paths::classes::own_classes` meets its contract. The invariant: the first i numbers are written.
use mathlib.Core.Path.{◌≡◌, refl}
use native.Mathlib.Omega.{arith}
use Rattle.paths.proofs.Filling.{filled-start, filled_more}
use Rattle.paths.proofs.Joining.{own-numbers}
use Rattle.paths.proofs.classes.own_classes.Goals as goal

pub loop-i-init : goal.loop-i-init
loop-i-init c = filled-start 256 (λ k. k)

pub loop-i-preserved : goal.loop-i-preserved
loop-i-preserved c = filled_more c.loop-i.invariant (omega arith) refl

pub returns : goal.returns
returns c = let e : c.loop-i.i ≡ 256 = omega arith in own-numbers (rw e at c.loop-i.invariant)
