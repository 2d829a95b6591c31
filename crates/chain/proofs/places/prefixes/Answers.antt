-- `chain::places::prefixes` meets its contract.
use Prim.Native.Nat.{◌+◌, ◌-◌}
use mathlib.Core.Path.{◌≡◌}
use native.Mathlib.Omega.{arith}
use Rattle.chain.proofs.Collecting.{collected-more}
use Rattle.chain.proofs.places.prefixes.Goals as goal

pub loop-i-preserved : goal.loop-i-preserved
loop-i-preserved c = let e : c.loop-i.i - 1 + 1 ≡ c.loop-i.i = omega arith in rw e (collected-more c.loop-i.invariant (omega arith) c.from-y.ensures (omega arith))
