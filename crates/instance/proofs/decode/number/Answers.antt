-- `instance::decode::number` meets its contract.
use Prim.Native.Nat.{◌^◌, ◌≤◌}
use native.Mathlib.Omega.{arith}
use lib.Pow.{pow_mono}
use Rattle.bits.proofs.Reading.{field_below}
use Rattle.instance.proofs.decode.number.Goals as goal

pub overflow_cast-result : goal.overflow_cast-result
overflow_cast-result c = let a = c.args in omega (arith, c.field_at.ensures, field_below a.s.now a.at 9)

pub overflow_cast-result-in-32 : goal.overflow_cast-result-in-32
overflow_cast-result-in-32 c = let a = c.args in omega (arith, c.field_at-in-32.ensures, field_below a.s.now a.at 32)

pub overflow_cast-result-in_default : goal.overflow_cast-result-in_default
overflow_cast-result-in_default c =
    let a = c.args in
    let m : 2 ^ a.width ≤ 2 ^ 32 = pow_mono c.requires.narrow in
    omega (arith, c.field_at-in_default.ensures, field_below a.s.now a.at a.width)
