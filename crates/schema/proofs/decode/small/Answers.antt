-- `schema::decode::small` meets its contract: a field of at most 8 bits is a byte.
use native.Mathlib.Omega.{arith}
use lib.Pow.{pow_mono}
use Prim.Native.Nat.{◌^◌, ◌≤◌}
use Rattle.bits.proofs.Reading.{field_below}
use Rattle.schema.proofs.decode.small.Goals as goal

pub overflow_cast-result : goal.overflow_cast-result
overflow_cast-result c =
    let a = c.args in
    let m : 2 ^ a.width ≤ 2 ^ 8 = pow_mono c.requires.0 in
    omega (arith, c.field_at.ensures, field_below a.s.now a.at a.width)
