-- Test 13 decides whether the attribute mapping is a bijection.
use Prim.Native.Nat.{ℕ, zero, suc, ◌<◌}
use mathlib.Core.Path.{◌≡◌, refl, sym, ap, ◌∙◌}
use mathlib.Core.Bool.{Bool, true, false}
use mathlib.Core.List.{List, [], ◌∷◌}
use mathlib.Core.Logic.{◌↔◌}
use native.Mathlib.Omega.{arith}
use native.Mathlib.Nat.{not-suc-le-zero}
use lib.ListN.{length, get_or}
use lib.Dec.{eqb}
use borrow.Author.Tests.{eqb-true, eq-eqb}
use Rattle.theory.specs.Mapping.{Bijective}
use Rattle.theory.proofs.Order.{mem-get_or, mem-position}
use Rattle.meaning.specs.Lists.{filter, cons_if}
use Rattle.meaning.specs.Category.{Category}
use Rattle.meaning.specs.Formats.{Mapping}
use Rattle.meaning.specs.Views.{attribute_image, mapping_of}
use Rattle.meaning.specs.Pi.{is_bijective, attribute_to}
use Rattle.meaning.proofs.Lists.{no_bool, test-false, filter-in, all-upto, upto_all, position_in, position-passes}
use Rattle.agreement.specs.Valid.{ValidMapping}

module _ {A : Type 0} (f : A → Bool) (z : A) where
  -- i is the one place of l whose element passes
  record Only (l : List A) (i : ℕ) : Type 0 where
    inside : i < length l
    passes : f (get_or l i z) ≡ true
    one : (j : ℕ) → j < length l → f (get_or l j z) ≡ true → j ≡ i

  none_passes : (l : List A) → length (filter f l) ≡ 0 → (j : ℕ) → j < length l → f (get_or l j z) ≡ true → ⊥
  none_passes l e j h p = not-suc-le-zero (rw e at (mem-position z (get_or l j z) (filter f l) (filter-in f l (mem-get_or z l j h) p)).1)

  passes_none : (l : List A) → ((j : ℕ) → j < length l → f (get_or l j z) ≡ true → ⊥) → length (filter f l) ≡ 0
  passes_none [] h = refl
  passes_none (x ∷ l) h = rw (test-false (f x) (h 0 (omega arith))) (passes_none l (λ j k. h (suc j) (omega arith)))

  one_passes : (l : List A) → length (filter f l) ≡ 1 → (i : ℕ) × Only l i
  one_passes [] e = absurd (omega arith)
  one_passes (x ∷ l) e = go (f x) refl e (one_passes l)
    where
      first : f x ≡ true → length (filter f l) ≡ 0 → Only (x ∷ l) 0
      first p e = record { inside = omega arith; passes = p; one = at }
        where
          at : (j : ℕ) → j < suc (length l) → f (get_or (x ∷ l) j z) ≡ true → j ≡ 0
          at zero h q = refl
          at (suc j) h q = absurd (none_passes l e j (omega arith) q)

      later : f x ≡ false → (i : ℕ) → Only l i → Only (x ∷ l) (suc i)
      later p i o = record { inside = omega arith; passes = o.passes; one = at }
        where
          at : (j : ℕ) → j < suc (length l) → f (get_or (x ∷ l) j z) ≡ true → j ≡ suc i
          at zero h q = absurd (no_bool (sym q ∙ p))
          at (suc j) h q = ap suc (o.one j (omega arith) q)

      go : (b : Bool) → f x ≡ b → length (cons_if b x (filter f l)) ≡ 1 → (length (filter f l) ≡ 1 → (i : ℕ) × Only l i) → (i : ℕ) × Only (x ∷ l) i
      go true p e below = (0, first p (omega arith))
      go false p e below = let r = below e in (suc r.0, later p r.0 r.1)

  passes-one : (l : List A) (i : ℕ) → Only l i → length (filter f l) ≡ 1
  passes-one [] i o = absurd (not-suc-le-zero o.inside)
  passes-one (x ∷ l) zero o = rw o.passes (ap suc (passes_none l (λ j h p. absurd (omega (arith, o.one (suc j) (omega arith) p)))))
  passes-one (x ∷ l) (suc i) o =
      rw (test-false (f x) (λ p. omega (arith, o.one 0 (omega arith) p)))
      (passes-one l i (record { inside = omega (arith, o.inside); passes = o.passes; one = λ j h p. omega (arith, o.one (suc j) (omega arith) p) }))

module _ {S T : Category} {F : Mapping} (v : ValidMapping S T F) where
  pub bijective-iff : (is_bijective T.schema F ≡ true) ↔ Bijective (mapping_of S.schema T.schema F)
  bijective-iff = (to, back)
    where
      pairs : ℕ → Bool
      pairs b = eqb (length (filter (eqb b) F.attributes)) 1

      image-of : is_bijective T.schema F ≡ true → (b : ℕ) → b < length T.schema.attributes → (a : ℕ) × Only (eqb b) 0 F.attributes a
      image-of h b l = one_passes (eqb b) 0 F.attributes (eqb-true (length (filter (eqb b) F.attributes)) 1 (upto_all pairs (length T.schema.attributes) h b l))

      to : is_bijective T.schema F ≡ true → Bijective (mapping_of S.schema T.schema F)
      to h = record {
        onto = λ b l. let r = image-of h b l in (r.0, rw v.attributes at r.1.inside, sym (eqb-true b (attribute_image F r.0) r.1.passes));
        one = λ a k i j e.
            let b = attribute_image F a in
            let r = image-of h b (v.is.attribute-in a i) in
            r.1.one a (rw v.attributes i) (eq-eqb b b refl) ∙ sym (r.1.one k (rw v.attributes j) (eq-eqb b (attribute_image F k) e));
      }

      back : Bijective (mapping_of S.schema T.schema F) → is_bijective T.schema F ≡ true
      back k = all-upto pairs (length T.schema.attributes) (λ b l.
          let r = k.onto b l in
          eq-eqb (length (filter (eqb b) F.attributes)) 1 (passes-one (eqb b) 0 F.attributes r.0 (record {
            inside = rw v.attributes r.1;
            passes = eq-eqb b (attribute_image F r.0) (sym r.2);
            one = λ j h p. k.one j r.0 (rw v.attributes at h) r.1 (sym (eqb-true b (attribute_image F j) p) ∙ sym r.2);
          })))

  -- the attribute of S whose image is that of a is a
  pub attribute_to-image : Bijective (mapping_of S.schema T.schema F) → (a : ℕ) → a < length S.schema.attributes → attribute_to F (attribute_image F a) ≡ a
  attribute_to-image k a h =
      let b = attribute_image F a in
      let i : a < length F.attributes = rw v.attributes h in
      let p = position_in (eqb b) F.attributes (mem-get_or 0 F.attributes a i) (eq-eqb b b refl) in
      k.one (attribute_to F b) a (rw v.attributes at p) h (sym (eqb-true b (attribute_image F (attribute_to F b)) (position-passes (eqb b) F.attributes 0 p)))
