-- What chains of iterators over the numbers below n give, by the lists of `meaning`.
use Prim.Native.Nat.{ℕ, zero, suc, ◌+◌}
use mathlib.Core.Path.{◌≡◌, refl, ap, ◌∙◌}
use mathlib.Core.Bool.{Bool, true, false, ◌&&◌, cond}
use mathlib.Core.List.{List, [], ◌∷◌}
use native.Mathlib.Numerals.{add-one}
use lib.ListN.{length}
use Rattle.std.specs.Prelude.{Some, unwrap_or}
use Rattle.std.specs.List.{list_all, filter as kept, find, range_with_len}
use Rattle.meaning.specs.Lists.{range, upto, cons_if, filter, all, head_or}

range-is : (a n : ℕ) → range_with_len a n ≡ range a n
range-is a zero = refl
range-is a (suc n) = ap (λ (l : List ℕ). a ∷ l) (range-is (a + 1) n ∙ ap (λ (x : ℕ). range x n) (add-one a))

module _ (g : ℕ → Bool) where
  all-is : (l : List ℕ) → list_all g l ≡ all g l
  all-is [] = refl
  all-is (x ∷ l) = ap (λ (b : Bool). g x && b) (all-is l)

  filter-is : (l : List ℕ) → kept g l ≡ filter g l
  filter-is [] = refl
  filter-is (x ∷ l) = go (g x) (filter-is l)
    where
      go : (b : Bool) → kept g l ≡ filter g l → cond b (x ∷ kept g l) (kept g l) ≡ cons_if b x (filter g l)
      go true e = ap (λ (m : List ℕ). x ∷ m) e
      go false e = e

  find-is : (none : ℕ) (l : List ℕ) → unwrap_or (find g l) none ≡ head_or none (filter g l)
  find-is none [] = refl
  find-is none (x ∷ l) = go (g x) (find-is none l)
    where
      go : (b : Bool) → unwrap_or (find g l) none ≡ head_or none (filter g l) → unwrap_or (cond b (Some x) (find g l)) none ≡ head_or none (cons_if b x (filter g l))
      go true e = refl
      go false e = e

  pub all_below : (n : ℕ) → list_all g (range_with_len 0 n) ≡ all g (upto n)
  all_below n = all-is (range_with_len 0 n) ∙ ap (all g) (range-is 0 n)

  pub count_below : (n : ℕ) → length (kept g (range_with_len 0 n)) ≡ length (filter g (upto n))
  count_below n = ap length (filter-is (range_with_len 0 n) ∙ ap (filter g) (range-is 0 n))

  pub first_below : (none n : ℕ) → unwrap_or (find g (range_with_len 0 n)) none ≡ head_or none (filter g (upto n))
  first_below none n = find-is none (range_with_len 0 n) ∙ ap (λ (l : List ℕ). head_or none (filter g l)) (range-is 0 n)
