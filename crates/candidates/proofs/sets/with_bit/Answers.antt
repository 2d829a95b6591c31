-- `candidates::sets::with_bit` meets its contract: below 64 the shift of 0 or 1 loses no bit.
use mathlib.Core.Path.{ap}
use Prim.Native.Nat.{ℕ, zero, suc, ◌*◌, ◌^◌, ◌<◌}
use native.Mathlib.Nat.{mod-eq_of_lt}
use native.Mathlib.Omega.{arith}
use lib.Bits.{bit_or}
use lib.Pow.{pow-lt}
use Rattle.candidates.proofs.sets.with_bit.Goals as goal

small : (b i : ℕ) → b < 2 → i < 64 → b * 2 ^ i < 2 ^ 64
small zero i h l = omega arith
small (suc zero) i h l = omega (arith, pow-lt {j = 64} l)
small (suc (suc b)) i h l = absurd (omega arith)

pub returns : goal.returns
returns c = ap (bit_or c.args.set) (mod-eq_of_lt (small c.args.b c.args.i c.requires.1 c.requires.0))
