-- Laws of decimal numbers: digit after digit, and how many.
use Prim.Native.Nat.{ℕ, zero, suc, ◌+◌, ◌/◌, ◌%◌, ◌^◌, ◌≤◌, ◌<◌}
use mathlib.Core.Path.{◌≡◌, sym, ap, ◌∙◌}
use mathlib.Core.List.{List, [], ◌∷◌, ◌++◌}
use native.Mathlib.Omega.{arith}
use native.Mathlib.Nat.{pow-suc}
use native.Mathlib.Decide.{dec_le}
use borrow.Author.Tests.{lt-ltb, le-ltb}
use lib.ListN.{length, set, length-append}
use Rattle.meaning.specs.Program.{digit, digits_within}
use Rattle.text.specs.Appended.{Room, Appended, digits}
use Rattle.text.proofs.Appending.{appended-byte, appended_then, room-first, room-then}

tenth : (k n : ℕ) → n < 10 ^ suc k → n / 10 < 10 ^ k
tenth k n h = let e = pow-suc 10 k in omega arith

-- ---- the two cases

within-one : (fuel n : ℕ) → n < 10 → digits_within fuel n ≡ digit n ∷ []
within-one zero n h = ap (λ (k : ℕ). digit k ∷ []) (omega arith)
within-one (suc fuel) n h = rw (lt-ltb n 10 h, digits_within)

within_more : (fuel n : ℕ) → 10 ≤ n → digits_within (suc fuel) n ≡ digits_within fuel (n / 10) ++ (digit (n % 10) ∷ [])
within_more fuel n h = rw (le-ltb n 10 h, digits_within)

-- one more than enough fuel changes nothing
fuel-enough : (fuel n : ℕ) → n < 10 ^ suc fuel → digits_within (suc fuel) n ≡ digits_within fuel n
fuel-enough zero n h = within-one 1 n h ∙ sym (within-one 0 n h)
fuel-enough (suc fuel) n h =
    elim (dec_le 10 n) [
      | yes l ↦ within_more (suc fuel) n l ∙ ap (λ (w : List ℕ). w ++ (digit (n % 10) ∷ [])) (fuel-enough fuel (n / 10) (tenth (suc fuel) n h)) ∙ sym (within_more fuel n l)
      | no l ↦ within-one (suc (suc fuel)) n (omega arith) ∙ sym (within-one (suc fuel) n (omega arith))
    ]

digits-one : (n : ℕ) → n < 10 → digits n ≡ digit n ∷ []
unfolding digits
digits-one n h = within-one 9 n h

digits_more : (n : ℕ) → 10 ≤ n → n < 2 ^ 32 → digits n ≡ digits (n / 10) ++ (digit (n % 10) ∷ [])
unfolding digits
digits_more n h l = within_more 8 n h ∙ ap (λ (w : List ℕ). w ++ (digit (n % 10) ∷ [])) (sym (fuel-enough 8 (n / 10) (omega arith)))

-- ---- how many

module _ (fuel n : ℕ) where
  within-cases : (k : ℕ) → (10 ≤ n → length (digits_within fuel (n / 10)) ≤ k) → length (digits_within (suc fuel) n) ≤ suc k
  within-cases k shorter =
      elim (dec_le 10 n) [
        | yes l ↦ let e = length-append (digits_within fuel (n / 10)) (digit (n % 10) ∷ []) in rw (within_more fuel n l) (omega (arith, shorter l))
        | no l ↦ rw (within-one (suc fuel) n (omega arith)) (omega arith)
      ]

within-length : (k fuel n : ℕ) → n < 10 ^ suc k → length (digits_within fuel n) ≤ suc k
within-length k zero n h = omega arith
within-length zero (suc fuel) n h = within-cases fuel n 0 (λ l. absurd (omega arith))
within-length (suc k) (suc fuel) n h = within-cases fuel n (suc k) (λ l. within-length k fuel (n / 10) (tenth (suc k) n h))

within_all : (fuel n : ℕ) → length (digits_within fuel n) ≤ suc fuel
within_all zero n = omega arith
within_all (suc fuel) n = within-cases fuel n (suc fuel) (λ l. within_all fuel (n / 10))

pub digits-length : (k n : ℕ) → n < 10 ^ suc k → length (digits n) ≤ suc k
unfolding digits
digits-length k n h = within-length k 9 n h

pub digits-few : (n : ℕ) → length (digits n) ≤ 10
unfolding digits
digits-few n = within_all 9 n

-- ---- written digit after digit

module _ {l : List ℕ} {at : ℕ} (n : ℕ) (R : Room l at (digits n)) where
  module _ (h : n < 10) where
    pub one-room : at < length l
    one-room = let e : length (digits n) ≡ 1 = ap length (digits-one n h) in omega (arith, R.room)

    pub one_written : {b : ℕ} → b ≡ digit n → Appended l at (digits n) (at + 1) (set l at b)
    one_written {b} e = rw (digits-one n h, e) (appended-byte l at (digit n))

  module _ (h : 10 ≤ n) (few : n < 2 ^ 32) where
    more_room : Room l at (digits (n / 10) ++ (digit (n % 10) ∷ []))
    more_room = rw (digits_more n h few) at R

    pub front-room : Room l at (digits (n / 10))
    front-room = room-first (digits (n / 10)) (digit (n % 10) ∷ []) more_room

    module _ {r : ℕ} {m : List ℕ} (A : Appended l at (digits (n / 10)) r m) where
      pub last-room : r < length m
      last-room = let R' = room-then A (digit (n % 10) ∷ []) more_room in omega (arith, R'.room)

      pub last_written : {b : ℕ} → b ≡ digit (n % 10) → Appended l at (digits n) (r + 1) (set m r b)
      last_written {b} e = rw (digits_more n h few, e) (appended_then A (appended-byte m r (digit (n % 10))))
