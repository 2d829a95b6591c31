-- Lists that are filtered, counted and searched.
use Prim.Native.Nat.{ℕ, suc, ◌+◌, ◌<◌, ◌≤◌}
use mathlib.Core.Path.{◌≡◌, refl, ap, ◌∙◌}
use mathlib.Core.Bool.{Bool, true, false, ◌&&◌}
use mathlib.Core.List.{List, [], ◌∷◌, ◌++◌, Memᴰ}
use native.Mathlib.Omega.{arith}
use native.Mathlib.Numerals.{add-one}
use lib.ListN.{length, drop, length-append}
use Rattle.theory.specs.Numbering.{tabulate}
use Rattle.theory.proofs.Numbering.{tabulate-length}
use Rattle.meaning.specs.Lists.{cons_if, filter, all, head_or, position}
use Rattle.meaning.proofs.Tabulate.{tabulate-more, rest_more, rest-done}
use Rattle.meaning.proofs.Heights.{filter-one}

module _ {A : Type 0} (f g : A → Bool) where
  -- a filter behind a filter
  pub filter-filter : (l : List A) → filter g (filter f l) ≡ filter (λ x. f x && g x) l
  filter-filter [] = refl
  filter-filter (x ∷ l) = go (f x) (filter-filter l)
    where
      go : (b : Bool) → filter g (filter f l) ≡ filter (λ y. f y && g y) l → filter g (cons_if b x (filter f l)) ≡ cons_if (b && g x) x (filter (λ y. f y && g y) l)
      go true e = ap (cons_if (g x) x) e
      go false e = e

  pub filter_same : (l : List A) → ((x : A) → Memᴰ x l → f x ≡ g x) → filter f l ≡ filter g l
  filter_same [] h = refl
  filter_same (x ∷ l) h = ap (λ (b : Bool). cons_if b x (filter f l)) (h x (Memᴰ.head refl)) ∙ ap (cons_if (g x) x) (filter_same l (λ y m. h y (Memᴰ.tail m)))

  -- two tests
  pub all_both : (l : List A) → all (λ x. f x && g x) l ≡ (all f l && all g l)
  all_both [] = refl
  all_both (x ∷ l) = ap (λ (b : Bool). (f x && g x) && b) (all_both l) ∙ go (f x) (g x) (all f l) (all g l)
    where
      go : (a b c d : Bool) → ((a && b) && (c && d)) ≡ ((a && c) && (b && d))
      go true true c d = refl
      go true false true d = refl
      go true false false d = refl
      go false b c d = refl

-- ---- those of n numbers that pass, one number more
module _ (g : ℕ → Bool) (h : ℕ → ℕ) (n : ℕ) where
  one_more : tabulate (n + 1) h ≡ tabulate n h ++ (h n ∷ [])
  one_more = ap (λ (m : ℕ). tabulate m h) (add-one n) ∙ tabulate-more n h

  pub count-more : g (h n) ≡ true → length (filter g (tabulate (n + 1) h)) ≡ length (filter g (tabulate n h)) + 1
  count-more e = rw (one_more, filter-one g (tabulate n h) (h n), e) (length-append (filter g (tabulate n h)) (h n ∷ []))

  pub count-skip : g (h n) ≡ false → length (filter g (tabulate (n + 1) h)) ≡ length (filter g (tabulate n h))
  count-skip e = rw (one_more, filter-one g (tabulate n h) (h n), e) (length-append (filter g (tabulate n h)) [] ∙ (omega arith))

  pub count_low : length (filter g (tabulate n h)) ≤ n
  count_low = omega (arith, within (tabulate n h), tabulate-length n h)
    where
      within : (l : List ℕ) → length (filter g l) ≤ length l
      within [] = omega arith
      within (x ∷ l) = go (g x) (within l)
        where
          go : (b : Bool) → length (filter g l) ≤ length l → length (cons_if b x (filter g l)) ≤ suc (length l)
          go true k = omega arith
          go false k = omega arith

-- ---- a loop that searches n numbers for one that passes: the first i have not
pub record Searched (g : ℕ → Bool) (h : ℕ → ℕ) (n none i : ℕ) : Type 0 where
  pub some : i ≤ n
  pub first : head_or none (filter g (tabulate n h)) ≡ head_or none (filter g (drop i (tabulate n h)))
  pub place : position g (tabulate n h) ≡ i + position g (drop i (tabulate n h))

pub searched-start : (g : ℕ → Bool) (h : ℕ → ℕ) (n none : ℕ) → Searched g h n none 0
searched-start g h n none = record { some = omega arith; first = refl; place = omega arith }

module _ {g : ℕ → Bool} {h : ℕ → ℕ} {n none i : ℕ} (s : Searched g h n none i) where
  pub searched-more : i < n → g (h i) ≡ false → Searched g h n none (i + 1)
  searched-more l e = record {
    some = omega arith;
    first = s.first ∙ rw (rest_more h n i l, e);
    place = s.place ∙ rw (rest_more h n i l, e) (omega arith);
  }

  pub searched-hit : i < n → g (h i) ≡ true → (head_or none (filter g (tabulate n h)) ≡ h i) × (position g (tabulate n h) ≡ i)
  searched-hit l e = (s.first ∙ rw (rest_more h n i l, e), s.place ∙ rw (rest_more h n i l, e) (omega arith))

  pub searched-done : n ≤ i → (head_or none (filter g (tabulate n h)) ≡ none) × (position g (tabulate n h) ≡ n)
  searched-done l = let z = s.some in let e : i ≡ n = omega arith in (s.first ∙ rw (rest-done h n i l), s.place ∙ rw (rest-done h n i l) (omega arith))
