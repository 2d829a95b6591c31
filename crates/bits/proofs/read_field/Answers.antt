-- `bits::read_field` meets its contract. The invariant: acc is the bytes read so far, as one field.
use mathlib.Core.Path.{◌≡◌, refl}
use mathlib.Core.List.{List}
use Prim.Native.Nat.{ℕ, ◌+◌, ◌-◌, ◌*◌, ◌/◌, ◌%◌, ◌^◌, ◌<◌}
use native.Mathlib.Nat.{lt_of_lt_of_le}
use native.Mathlib.Omega.{arith}
use lib.ListN.{get_or, take, drop}
use lib.Pow.{pow_mono}
use Rattle.std.proofs.Common.{get_or-take, get_or-drop}
use Rattle.bits.specs.Field.{Bytes, field}
use Rattle.bits.proofs.Reading.{field_below, field_cut, field_next}
use Rattle.bits.proofs.read_field.Goals.{In-loop-byte}
use Rattle.bits.proofs.read_field.Goals as goal

next : (s : List ℕ) (k n i acc x : ℕ) → Bytes s → i < n → acc ≡ field s (8 * k) (8 * i) → x ≡ get_or (take n (drop k s)) i 0
    → acc * 256 + x ≡ field s (8 * k) (8 * (i + 1))
next s k n i acc x b h e f = rw (e, f, get_or-take, get_or-drop) (field_next s k i (b (k + i)))

last : (s : List ℕ) (at width n acc m : ℕ) → n ≡ (at % 8 + width + 7) / 8 → acc ≡ field s (8 * (at / 8)) (8 * n)
    → m ≡ 2 ^ width → acc / 2 ^ ((8 - (at % 8 + width) % 8) % 8) % m ≡ field s at width
last s at width n acc m d e f =
    let w : 8 * n ≡ at % 8 + (width + (8 - (at % 8 + width) % 8) % 8) = omega arith in
    let p : 8 * (at / 8) + at % 8 ≡ at = omega arith in
    rw (e, f, w) (rw p at (field_cut s (8 * (at / 8)) (at % 8) width ((8 - (at % 8 + width) % 8) % 8)))

-- before the last byte no more than four are read
small : (c : In-loop-byte) → c.loop-byte.acc < 2 ^ 32
small c = rw c.loop-byte.invariant (lt_of_lt_of_le (field_below _ _ _) (pow_mono {j = 32} (omega arith)))

pub loop-byte-init : goal.loop-byte-init
unfolding field
loop-byte-init c = refl

pub overflow_mul-acc : goal.overflow_mul-acc
overflow_mul-acc c = omega (arith, small c)

pub overflow_add-acc : goal.overflow_add-acc
overflow_add-acc c = omega (arith, small (goal.at.overflow_add-acc c).In-loop-byte)

pub loop-byte-preserved : goal.loop-byte-preserved
loop-byte-preserved c = next c.args.s.now _ _ c.loop-byte.byte-index _ _ (λ j. omega (arith, c.type_inv.s j)) (omega arith) c.loop-byte.invariant c.from.ensures

pub returns : goal.returns
returns c = last _ _ _ c.loop-byte.byte-index _ _ (omega arith) c.loop-byte.invariant c.bound.ensures
