-- What a chain's test of each item says of the list that is made of them.
use Prim.Native.Nat.{ℕ, zero, suc, ◌+◌, ◌≤◌}
use mathlib.Core.Path.{◌≡◌, refl, ap, ap₂, ◌∙◌}
use mathlib.Core.Bool.{Bool, ◌&&◌}
use mathlib.Core.List.{List, [], ◌∷◌}
use native.Mathlib.Omega.{arith}
use native.Mathlib.Nat.{not-suc-le-zero, le_of_suc-le-suc}
use lib.ListN.{length, get_or, take}
use Rattle.std.specs.List.{list_all, range_with_len}
use Rattle.theory.specs.Numbering.{tabulate}
use Rattle.meaning.specs.Lists.{all}

module _ {A : Type 0} (test : ℕ → Bool) (g : A → Bool) where
  all-from : (n a : ℕ) (f : ℕ → A) → ((i : ℕ) → test (a + i) ≡ g (f i)) → list_all test (range_with_len a n) ≡ all g (tabulate n f)
  all-from zero a f h = refl
  all-from (suc n) a f h =
      ap₂ (λ (x y : Bool). x && y) (ap test (let e : a ≡ a + 0 = omega arith in e) ∙ h 0)
      (all-from n (a + 1) (λ i. f (suc i)) (λ i. ap test (let e : a + 1 + i ≡ a + suc i = omega arith in e) ∙ h (suc i)))

  -- the items are the numbers below n
  pub all-range : (n : ℕ) (f : ℕ → A) → ((i : ℕ) → test i ≡ g (f i)) → list_all test (range_with_len 0 n) ≡ all g (tabulate n f)
  all-range n f h = all-from n 0 f (λ i. ap test (let e : 0 + i ≡ i = omega arith in e) ∙ h i)

  -- the items are the first n of a list
  pub all-front : (n : ℕ) (l : List ℕ) (f : ℕ → A) → n ≤ length l → ((i : ℕ) → test (get_or l i 0) ≡ g (f i)) → list_all test (take n l) ≡ all g (tabulate n f)
  all-front zero l f m h = refl
  all-front (suc n) [] f m h = absurd (not-suc-le-zero m)
  all-front (suc n) (x ∷ l) f m h = ap₂ (λ (x y : Bool). x && y) (h 0) (all-front n l (λ i. f (suc i)) (le_of_suc-le-suc m) (λ i. h (suc i)))
