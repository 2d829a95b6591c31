-- Fields side by side: only the lowest bits of a value count, bits that are written as they are stay, and a field behind the bits of a byte before it.
use mathlib.Core.Path.{◌≡◌, refl, sym, ap, ◌∙◌}
use mathlib.Core.List.{List}
use Prim.Native.Nat.{ℕ, zero, suc, ◌+◌, ◌-◌, ◌*◌, ◌/◌, ◌%◌, ◌^◌, ◌<◌, ◌≤◌}
use native.Mathlib.Nat.{mod-lt, lt_of_lt_of_le}
use native.Mathlib.Numerals.{add-one}
use native.Mathlib.Omega.{arith}
use lib.ListN.{length, get_or, set}
use lib.Pow.{pow_pos, pow_mono, mod-pow-add, mod-mod-pow, high, low}
use lib.Seq.{get_or-set_other, set-get_or, set_comm}
use Rattle.bits.specs.Field.{Bytes, bit, field}
use Rattle.bits.specs.Put.{with_bits, set_bit, put, put_head}
use Rattle.bits.proofs.Reading.{bit_below, field_below}
use Rattle.bits.proofs.Replacing.{with_bits_all, with_bits-kept}
use Rattle.bits.proofs.Writing.{length-put, put-bytes, put-split, put_byte}

-- ---- values with the same lowest bits
set_bit-mod : (s : List ℕ) (p u v : ℕ) → u % 2 ≡ v % 2 → set_bit s p u ≡ set_bit s p v
unfolding set_bit with_bits
set_bit-mod s p u v e = rw e

put-mod : (s : List ℕ) (p w u v : ℕ) → u % 2 ^ w ≡ v % 2 ^ w → put s p w u ≡ put s p w v
unfolding put
put-mod s p zero u v e = refl
put-mod s p (suc w) u v e =
    let a : u % 2 ^ suc w ≡ u / 2 % 2 ^ w * 2 + u % 2 = rw (add-one w) at (mod-pow-add u w 1) in
    let b : v % 2 ^ suc w ≡ v / 2 % 2 ^ w * 2 + v % 2 = rw (add-one w) at (mod-pow-add v w 1) in
    let h : u / 2 % 2 ^ w ≡ v / 2 % 2 ^ w = omega arith in
    let l : u % 2 ≡ v % 2 = omega arith in
    rw (put-mod s p w (u / 2) (v / 2) h) (set_bit-mod (put s p w (v / 2)) (p + w) u v l)

-- ---- bits written as they are
set_bit-kept : (s : List ℕ) (p v : ℕ) → bit s p ≡ v % 2 → set_bit s p v ≡ s
unfolding set_bit bit
set_bit-kept s p v e = rw (with_bits-kept (get_or s (p / 8) 0) (7 - p % 8) v e) (set-get_or s (p / 8) 0)

put-field : (s : List ℕ) (p w : ℕ) → put s p w (field s p w) ≡ s
unfolding put field
put-field s p zero = refl
put-field s p (suc w) =
    let b = bit_below s (p + w) in
    let h : (field s p w * 2 + bit s (p + w)) / 2 ≡ field s p w = omega arith in
    rw (h, put-field s p w) (set_bit-kept s (p + w) (field s p w * 2 + bit s (p + w)) (omega arith))

pub head_small : (s : List ℕ) (p : ℕ) → field s (8 * (p / 8)) (p % 8) < 256
head_small s p = lt_of_lt_of_le (field_below s (8 * (p / 8)) (p % 8)) (pow_mono {j = 8} (omega arith))

pub put_head-field : (s : List ℕ) (p : ℕ) → put_head s p (field s (8 * (p / 8)) (p % 8)) ≡ s
unfolding put_head
put_head-field s p = put-field s (8 * (p / 8)) (p % 8)

-- ---- whole bytes, the last one first
set_bit-set : (s : List ℕ) (i b p v : ℕ) → p < 8 * i → set_bit (set s i b) p v ≡ set (set_bit s p v) i b
unfolding set_bit
set_bit-set s i b p v l =
    rw (get_or-set_other s i (p / 8) b 0 (λ e. omega arith)) (set_comm s i (p / 8) b _ (λ e. omega arith))

put-set : (s : List ℕ) (i b p w v : ℕ) → p + w ≤ 8 * i → put (set s i b) p w v ≡ set (put s p w v) i b
unfolding put
put-set s i b p zero v l = refl
put-set s i b p (suc w) v l = rw (put-set s i b p w (v / 2) (omega arith)) (set_bit-set (put s p w (v / 2)) i b (p + w) v (omega arith))

pub put_last : (s : List ℕ) (k j v : ℕ) → k < j → j ≤ length s → Bytes s
    → put (set s (j - 1) (v % 256)) (8 * k) (8 * (j - 1 - k)) (v / 256) ≡ put s (8 * k) (8 * (j - k)) v
put_last s k j v l m b =
    let t = put s (8 * k) (8 * (j - 1 - k)) (v / 256) in
    let n : 8 * (j - k) ≡ 8 * (j - 1 - k) + 8 = omega arith in
    let p : 8 * k + 8 * (j - 1 - k) ≡ 8 * (j - 1) + 0 = omega arith in
    let i : j - 1 < length t = rw length-put (omega arith) in
    put-set s (j - 1) (v % 256) (8 * k) (8 * (j - 1 - k)) (v / 256) (omega arith)
    ∙ sym (rw (n, put-split s (8 * k) (8 * (j - 1 - k)) 8 v, p, put_byte t (j - 1) 0 8 0 v refl i, with_bits_all v (put-bytes s (8 * k) (8 * (j - 1 - k)) (v / 256) b (j - 1))))

-- ---- a field behind the bits of its byte before it
module _ (s : List ℕ) (at width value head : ℕ) {x : ℕ} (x-is : x ≡ head * 2 ^ width + value % 2 ^ width) where
  -- both are one field
  both : put s (8 * (at / 8)) (at % 8 + width) x ≡ put (put_head s at head) at width value
  unfolding put_head
  both =
      let r = mod-lt value (pow_pos width) in
      let h : x / 2 ^ width ≡ head = rw x-is (high head width r) in
      let l : x % 2 ^ width ≡ value % 2 ^ width = rw x-is (low head width r) in
      let p : 8 * (at / 8) + at % 8 ≡ at = omega arith in
      rw (put-split s (8 * (at / 8)) (at % 8) width x, h, p) (put-mod (put s (8 * (at / 8)) (at % 8) head) at width x value l)

  -- of which the full bytes are written first
  pub appended : {out : List ℕ} {j left : ℕ} → at / 8 ≤ j → 8 * j + left ≡ at + width → left < 8 → out ≡ put s (8 * (at / 8)) (8 * (j - at / 8)) (x / 2 ^ left)
      → put_head out (at + width) (x % 256) ≡ put (put_head s at head) at width value
  unfolding put_head
  appended {out} {j} {left} f l h e =
      let q : (at + width) / 8 ≡ j = omega arith in
      let r : (at + width) % 8 ≡ left = omega arith in
      let n : 8 * (j - at / 8) + left ≡ at % 8 + width = omega arith in
      let p : 8 * (at / 8) + 8 * (j - at / 8) ≡ 8 * j = omega arith in
      let d : 8 - left + left ≡ 8 = omega arith in
      let m : x % 256 % 2 ^ left ≡ x % 2 ^ left = ap (λ (k : ℕ). x % 2 ^ k % 2 ^ left) (sym d) ∙ mod-mod-pow x (8 - left) left in
      let a : put out (8 * j) left x ≡ put s (8 * (at / 8)) (at % 8 + width) x = rw (e, ← p, ← n) (sym (put-split s (8 * (at / 8)) (8 * (j - at / 8)) left x)) in
      rw (q, r) (put-mod out (8 * j) left (x % 256) x m ∙ a ∙ both)
