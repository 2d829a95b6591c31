-- Laws of columns: stored in an array, and read one after the other; and sums of rows.
use Prim.Native.Nat.{ℕ, zero, suc, ◌+◌, ◌*◌, ◌≤◌, ◌<◌}
use mathlib.Core.Path.{◌≡◌, refl, ap, ◌∙◌}
use mathlib.Core.List.{List, [], ◌∷◌, ◌++◌}
use native.Mathlib.Omega.{arith}
use native.Mathlib.Nat.{mul-suc, mul-add, mul-le-mul_left, not-suc-le-zero, le_trans}
use native.Mathlib.Numerals.{add-one}
use lib.ListN.{get_or, replicate}
use Rattle.theory.specs.Numbering.{tabulate}
use Rattle.meaning.specs.Lists.{sum_of}
use Rattle.meaning.specs.Sheet.{Reader, in_turn}
use Rattle.meaning.proofs.Tabulate.{tabulate-more, tabulate-same, tabulate-store}
use Rattle.instance.specs.Decoded.{columns_of}
use Rattle.instance.specs.Stored.{Stored}

-- ---- sums
sum_of-append : (a b : List ℕ) → sum_of (a ++ b) ≡ sum_of a + sum_of b
sum_of-append [] b = omega arith
sum_of-append (x ∷ a) b = omega (arith, sum_of-append a b)

pub sum_of-more : (n : ℕ) (f : ℕ → ℕ) → sum_of (tabulate (n + 1) f) ≡ sum_of (tabulate n f) + f n
sum_of-more n f = ap (λ (m : ℕ). sum_of (tabulate m f)) (add-one n) ∙ ap sum_of (tabulate-more n f) ∙ sum_of-append (tabulate n f) (f n ∷ []) ∙ omega arith

pub sum_of-part : (n : ℕ) (f : ℕ → ℕ) (c : ℕ) → c < n → f c ≤ sum_of (tabulate n f)
sum_of-part zero f c h = absurd (not-suc-le-zero h)
sum_of-part (suc n) f zero h = omega arith
sum_of-part (suc n) f (suc c) h = le_trans (sum_of-part n (λ i. f (suc i)) c (omega arith)) (omega arith)

pub sum_of-front : (n : ℕ) (f : ℕ → ℕ) (k : ℕ) → k < n → sum_of (tabulate k f) + f k ≤ sum_of (tabulate n f)
sum_of-front zero f k h = absurd (not-suc-le-zero h)
sum_of-front (suc n) f zero h = omega arith
sum_of-front (suc n) f (suc k) h = omega (arith, sum_of-front n (λ i. f (suc i)) k (omega arith))

pub sum_of-few : (b n : ℕ) (f : ℕ → ℕ) → ((k : ℕ) → k < n → f k ≤ b) → sum_of (tabulate n f) ≤ b * n
sum_of-few b zero f h = omega arith
sum_of-few b (suc n) f h = rw mul-suc (omega (arith, h 0 (omega arith), sum_of-few b n (λ i. f (suc i)) (λ k l. h (suc k) (omega arith))))

pub none-stands : (n c : ℕ) → ◌≡◌ {A = ℕ} (get_or (replicate n 0) c 0) 0
none-stands zero c = refl
none-stands (suc n) zero = refl
none-stands (suc n) (suc c) = none-stands n c

-- ---- positions of fields of one width
pub field-ends : (width n i : ℕ) → i < n → width * i + width ≤ width * n
field-ends width n i l = let m : width * suc i ≤ width * n = mul-le-mul_left width l in let q = mul-suc width i in omega arith

pub width_few : (width n : ℕ) → width ≤ 32 → n ≤ 512 → width * n ≤ 16384
width_few width n w h = let a : width * n ≤ width * 512 = mul-le-mul_left width h in omega arith

pub column-ends : (width n : ℕ) (rows : ℕ → ℕ) (k : ℕ) → k < n → width * sum_of (tabulate k rows) + width * rows k ≤ width * sum_of (tabulate n rows)
column-ends width n rows k l =
    let m : width * (sum_of (tabulate k rows) + rows k) ≤ width * sum_of (tabulate n rows) = mul-le-mul_left width (sum_of-front n rows k l) in
    omega (arith, mul-add width (sum_of (tabulate k rows)) (rows k))

-- ---- one column more
module _ (rows : ℕ → ℕ) (k : ℕ) {g : ℕ → ℕ} {l r : List ℕ} (few : (j : ℕ) → j < k → rows j ≤ 512) where
  pub columns-more : Stored g (rows k) (512 * k) l r → columns_of (k + 1) rows r ≡ columns_of k rows l ++ (tabulate (rows k) g ∷ [])
  columns-more u =
      tabulate-store k
      (λ j h. tabulate-same (rows j) (λ i m. u.below (512 * j + i) (let z = few j h in omega arith)))
      (tabulate-same (rows k) u.each)

-- ---- a reader for each of n things goes by what it is for each
module _ {A B C : Type 0} where
  pub in_turn-same : (m : A → Reader C) (k : B → Reader C) (n : ℕ) (f : ℕ → A) (g : ℕ → B) → ((i : ℕ) → i < n → m (f i) ≡ k (g i)) → in_turn m (tabulate n f) ≡ in_turn k (tabulate n g)
  in_turn-same m k zero f g h = refl
  in_turn-same m k (suc n) f g h =
      rw (h 0 (omega arith), in_turn-same m k n (λ i. f (suc i)) (λ i. g (suc i)) (λ i l. h (suc i) (omega arith)))
