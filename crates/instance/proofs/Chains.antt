-- Chains of iterators: what `all` answers over a column and over the numbers below n, in the words of the definitions.
use Prim.Native.Nat.{ℕ, zero, suc, ◌+◌, ◌-◌, ◌≤◌}
use mathlib.Core.Path.{◌≡◌, refl, ap, ap₂, ◌∙◌}
use mathlib.Core.Bool.{Bool, ◌&&◌}
use mathlib.Core.List.{List, [], ◌∷◌, map}
use native.Mathlib.Omega.{arith}
use lib.ListN.{length, get_or, take, drop}
use Rattle.std.proofs.lemmas.List.Sums.{sum_by-cons}
use Rattle.std.specs.List.{list_all, range_with_len, sum}
use Rattle.theory.specs.Numbering.{tabulate}
use Rattle.meaning.specs.Lists.{all, sum_of}
use Rattle.meaning.proofs.Tabulate.{tabulate-same}
use Rattle.schema.specs.Decoded.{front_of}
use Rattle.instance.specs.Decoded.{column_of}

-- ---- lists
front-column : (n : ℕ) (l : List ℕ) → n ≤ length l → take n l ≡ column_of l 0 n
front-column zero l h = refl
front-column (suc n) [] h = absurd (omega arith)
front-column (suc n) (x ∷ l) h =
    ap (λ (k : List ℕ). x ∷ k) (front-column n l (omega arith) ∙ tabulate-same n (λ i m. ap (λ (j : ℕ). get_or (x ∷ l) j 0) (let e : suc (0 + i) ≡ 0 + suc i = omega arith in e)))

drop-column : (base n : ℕ) (l : List ℕ) → base + n ≤ length l → take n (drop base l) ≡ column_of l base n
drop-column zero n l h = front-column n l (omega arith)
drop-column (suc b) n [] h = absurd (omega arith)
drop-column (suc b) n (x ∷ l) h =
    drop-column b n l (omega arith) ∙ tabulate-same n (λ i m. ap (λ (j : ℕ). get_or (x ∷ l) j 0) (let e : suc (b + i) ≡ suc b + i = omega arith in e))

-- a part of a list is a column of it
pub part-column : (l : List ℕ) (base n : ℕ) → base + n ≤ length l → take (base + n - base) (drop base l) ≡ column_of l base n
part-column l base n h = ap (λ (k : ℕ). take k (drop base l)) (let e : base + n - base ≡ n = omega arith in e) ∙ drop-column base n l h

pub range-tabulate : (a n : ℕ) → range_with_len a n ≡ tabulate n (λ i. a + i)
range-tabulate a zero = refl
range-tabulate a (suc n) =
    ap₂ (λ (x : ℕ) (k : List ℕ). x ∷ k) (let e : a ≡ a + 0 = omega arith in e)
    (range-tabulate (a + 1) n ∙ tabulate-same n (λ i m. let e : a + 1 + i ≡ a + suc i = omega arith in e))

-- ---- sums
sum-list : (xs : List ℕ) → sum (map (λ x. x) xs) ≡ sum_of xs
sum-list [] = refl
sum-list (x ∷ xs) = sum_by-cons (λ y. y) x (map (λ y. y) xs) ∙ ap (λ (k : ℕ). x + k) (sum-list xs)

pub sum-front : (n : ℕ) (l : List ℕ) → n ≤ length l → sum (map (λ x. x) (take n l)) ≡ sum_of (front_of n l)
sum-front n l h = sum-list (take n l) ∙ ap sum_of (front-column n l h ∙ tabulate-same n (λ i m. ap (λ (j : ℕ). get_or l j 0) (let e : 0 + i ≡ i = omega arith in e)))

-- ---- tests of all
all-list : {A : Type 0} (g : A → Bool) (xs : List A) → list_all g xs ≡ all g xs
all-list g [] = refl
all-list g (x ∷ xs) = ap (λ (b : Bool). g x && b) (all-list g xs)

pub all-part : (g : ℕ → Bool) (l : List ℕ) (base n : ℕ) → base + n ≤ length l → list_all g (take (base + n - base) (drop base l)) ≡ all g (column_of l base n)
all-part g l base n h = all-list g _ ∙ ap (all g) (part-column l base n h)

pub all-below : (g : ℕ → Bool) (n : ℕ) → list_all g (range_with_len 0 n) ≡ all g (tabulate n (λ i. i))
all-below g n = all-list g _ ∙ ap (all g) (range-tabulate 0 n ∙ tabulate-same n (λ i m. let e : 0 + i ≡ i = omega arith in e))
