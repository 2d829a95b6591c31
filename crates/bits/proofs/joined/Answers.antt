-- `bits::joined` meets its contract: the number is below 2 ^ 40.
use mathlib.Core.Path.{◌≡◌}
use Prim.Native.Nat.{ℕ, ◌+◌, ◌*◌, ◌%◌, ◌^◌, ◌≤◌, ◌<◌}
use native.Mathlib.Nat.{mod-lt}
use native.Mathlib.Omega.{arith}
use lib.Arith.{digits_lt}
use lib.Pow.{pow_pos, pow_mono}
use Rattle.bits.proofs.joined.Goals.{After-bound-m}
use Rattle.bits.proofs.joined.Goals as goal

record Small (head m value : ℕ) : Type 0 where
  some : 0 < m
  whole : head * m + value % m < 2 ^ 40

small : (head width value m : ℕ) → m ≡ 2 ^ width → width ≤ 32 → head < 256 → Small head m value
small head width value m e l h =
    let p : 0 < m = rw e (pow_pos width) in
    let t : m ≤ 2 ^ 32 = rw e (pow_mono {j = 32} l) in
    record { some = p; whole = omega (arith, digits_lt h (mod-lt value p)) }

facts : (c : After-bound-m) → Small c.args.head c.bound-m.result c.args.value
facts c = small _ c.args.width _ _ c.bound-m.ensures (omega arith) (omega arith)

pub overflow_mul-result : goal.overflow_mul-result
overflow_mul-result c = omega (arith, facts c)

pub nonzero_rem-result : goal.nonzero_rem-result
nonzero_rem-result c = omega (arith, facts c)

pub overflow_add-result : goal.overflow_add-result
overflow_add-result c = omega (arith, facts c)

pub returns : goal.returns
returns c = rw c.bound-m.ensures
