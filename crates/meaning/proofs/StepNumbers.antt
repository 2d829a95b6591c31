-- A step as one number: that of the 10 bits that its three numbers take in a chain's sheet.
use Prim.Native.Nat.{ℕ, ◌+◌, ◌*◌, ◌/◌, ◌%◌, ◌<◌}
use mathlib.Core.Path.{◌≡◌, refl, ap, ◌∙◌}
use mathlib.Core.List.{List, [], ◌∷◌, ◌++◌, map, append_assoc}
use native.Mathlib.Omega.{arith}
use lib.ListN.{length, length-map}
use Rattle.bits.specs.Pack.{digits, bits_of, pack}
use Rattle.bits.proofs.Digits.{digits_append}
use Rattle.bits.proofs.Packing.{pack-same}
use Rattle.meaning.specs.Lists.{concat_map}
use Rattle.meaning.specs.PathChain.{Step}
use Rattle.meaning.specs.Formats.{fields_of, step_fields, chain_sheet}

abbrev pub step_of : ℕ → Step
step_of n = record { equation = n / 32; direction = n / 16 % 2; before = n % 16 }

-- ---- the number of a step

pub step-of : (q d b : ℕ) → d < 2 → b < 16 → step_of (32 * q + 16 * d + b) ≡ record { equation = q; direction = d; before = b }
step-of q d b d-in b-in =
    let n : ℕ = 32 * q + 16 * d + b in
    let e : n / 32 ≡ q = omega arith in
    let f : n / 16 % 2 ≡ d = omega arith in
    let g : n % 16 ≡ b = omega arith in
    λ i. record { equation = e i; direction = f i; before = g i }

-- ---- packed, the numbers are the sheet of their steps

-- the 5 lowest bits
low-digits : (n : ℕ) → digits 1 (n / 16) ++ digits 4 n ≡ digits 1 (n / 16 % 2) ++ digits 4 (n % 16)
unfolding digits
low-digits n =
    let a : n / 16 % 2 ≡ n / 16 % 2 % 2 = omega arith in
    let b : n / 2 / 2 / 2 % 2 ≡ n % 16 / 2 / 2 / 2 % 2 = omega arith in
    let c : n / 2 / 2 % 2 ≡ n % 16 / 2 / 2 % 2 = omega arith in
    let d : n / 2 % 2 ≡ n % 16 / 2 % 2 = omega arith in
    let e : n % 2 ≡ n % 16 % 2 = omega arith in
    λ i. a i ∷ b i ∷ c i ∷ d i ∷ e i ∷ []

-- the 10 bits are those of the three numbers
step-digits : (n : ℕ) → digits 10 n ≡ digits 5 (n / 32) ++ (digits 1 (n / 16 % 2) ++ digits 4 (n % 16))
step-digits n = digits_append 5 5 n ∙ ap (λ (l : List ℕ). digits 5 (n / 32) ++ l) (digits_append 1 4 n ∙ low-digits n)

steps-bits : (l : List ℕ) → bits_of (fields_of 10 l) ≡ bits_of (concat_map step_fields (map step_of l))
unfolding bits_of
steps-bits [] = refl
steps-bits (n ∷ l) =
    let rest = bits_of (concat_map step_fields (map step_of l)) in
    rw (step-digits n, steps-bits l)
    (append_assoc (digits 5 (n / 32)) (digits 1 (n / 16 % 2) ++ digits 4 (n % 16)) rest
    ∙ ap (λ (x : List ℕ). digits 5 (n / 32) ++ x) (append_assoc (digits 1 (n / 16 % 2)) (digits 4 (n % 16)) rest))

pub chain-packed : (l : List ℕ) → pack ((8, length l) ∷ fields_of 10 l) ≡ chain_sheet (map step_of l)
unfolding bits_of
chain-packed l =
    rw (length-map l step_of)
    (pack-same ((8, length l) ∷ fields_of 10 l) ((8, length l) ∷ concat_map step_fields (map step_of l))
    (ap (λ (x : List ℕ). digits 8 (length l) ++ x) (steps-bits l)))
