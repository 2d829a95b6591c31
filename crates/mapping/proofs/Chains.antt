-- What a chain of iterators gives, by the lists of `meaning`.
use Prim.Native.Nat.{ℕ, zero, suc, ◌+◌, ◌≤◌}
use mathlib.Core.Path.{◌≡◌, refl, sym, ap, ◌∙◌}
use mathlib.Core.Bool.{Bool, true, false, cond, not}
use mathlib.Core.List.{List, [], ◌∷◌}
use native.Mathlib.Omega.{arith}
use native.Mathlib.Nat.{le_of_suc-le-suc}
use lib.ListN.{length, get_or, take}
use lib.Dec.{ltb}
use borrow.Author.Tests.{ltb-false}
use Rattle.std.specs.Prelude.{Some, None, unwrap_or}
use Rattle.std.specs.List as std
use Rattle.std.specs.List.{count_by, position_or_len}
use Rattle.std.proofs.lemmas.List.Sums.{length-filter}
use Rattle.theory.specs.Numbering.{tabulate}
use Rattle.meaning.specs.Lists.{cons_if, filter, position}

module _ {A : Type 0} where
  -- the first n of a list, place by place
  pub front : (n : ℕ) (l : List A) (d : A) → n ≤ length l → take n l ≡ tabulate n (λ i. get_or l i d)
  front zero l d h = refl
  front (suc n) [] d h = absurd (omega arith)
  front (suc n) (x ∷ l) d h = ap (λ (t : List A). x ∷ t) (front n l d (le_of_suc-le-suc h))

  module _ (g : A → Bool) where
    filter-is : (l : List A) → std.filter g l ≡ filter g l
    filter-is [] = refl
    filter-is (x ∷ l) = go (g x) (filter-is l)
      where
        go : (b : Bool) → std.filter g l ≡ filter g l → cond b (x ∷ std.filter g l) (std.filter g l) ≡ cons_if b x (filter g l)
        go true e = ap (λ (t : List A). x ∷ t) e
        go false e = e

    pub count-is : (l : List A) → count_by g l ≡ length (filter g l)
    count-is l = sym (length-filter g l) ∙ ap (λ (t : List A). length t) (filter-is l)

    pub position-is : (l : List A) → position_or_len g l ≡ position g l
    position-is [] = refl
    position-is (x ∷ l) = go (g x) (position-is l)
      where
        go : (b : Bool) → position_or_len g l ≡ position g l → cond (not b) (1 + position_or_len g l) 0 ≡ cond b 0 (suc (position g l))
        go true e = refl
        go false e = omega arith

    -- the place found, or n where there is none
    pub position-or : (l : List A) (n : ℕ) → length l ≡ n → unwrap_or (cond (ltb (position_or_len g l) (length l)) (Some (position_or_len g l)) None) n ≡ position g l
    position-or l n e = go (ltb (position_or_len g l) (length l)) refl ∙ position-is l
      where
        within : (l : List A) → position_or_len g l ≤ length l
        within [] = omega arith
        within (x ∷ l) = one (g x) (within l)
          where
            one : (b : Bool) → position_or_len g l ≤ length l → cond (not b) (1 + position_or_len g l) 0 ≤ suc (length l)
            one true h = omega arith
            one false h = omega arith

        go : (b : Bool) → ltb (position_or_len g l) (length l) ≡ b → unwrap_or (cond b (Some (position_or_len g l)) None) n ≡ position_or_len g l
        go true h = refl
        go false h = omega (arith, ltb-false _ _ h, within l)
