-- Class numbers joined under the lower: what has one number keeps one, what is joined gets one, and each path keeps the number of an equal path that is
-- not a later one.
use Prim.Native.Nat.{ℕ, ◌<◌, ◌≤◌, min, max}
use mathlib.Core.Path.{◌≡◌, refl, sym, ap, ◌∙◌}
use mathlib.Core.Bool.{Bool, true, false, cond}
use mathlib.Core.List.{List}
use native.Mathlib.Omega.{arith}
use lib.ListN.{length, get_or, length-map}
use lib.Dec.{leb, eqb}
use borrow.Author.Tests.{eqb-true, eqb-false, leb-true, leb-false}
use Rattle.theory.specs.Schema.{same}
use Rattle.meaning.specs.Lists.{upto}
use Rattle.meaning.specs.Schema.{Schema}
use Rattle.meaning.proofs.Lists.{upto-length, upto-get_or, get_d_map}
use Rattle.agreement.specs.Paths.{path_count}
use Rattle.agreement.proofs.FirstPaths.{equal_paths-sym, equal_paths-trans}
use Rattle.agreement.proofs.Classes.{EqualNumbers, Classified}
use Rattle.paths.specs.Classes.{renamed_to, join_classes}

-- ---- class numbers a and b joined under the lower

abbrev joined_to : ℕ → ℕ → ℕ → ℕ
joined_to a b = renamed_to (max a b) (min a b)

joined_to-lower : (a b x : ℕ) → joined_to a b x ≤ x
joined_to-lower a b x = go (eqb x (max a b)) refl
  where
    go : (t : Bool) → eqb x (max a b) ≡ t → cond t (min a b) x ≤ x
    go true e = let h = eqb-true x (max a b) e in omega arith
    go false e = omega arith

joined_to-both : (a b : ℕ) → joined_to a b a ≡ joined_to a b b
joined_to-both a b = go (eqb a (max a b)) (eqb b (max a b)) refl refl
  where
    go : (s t : Bool) → eqb a (max a b) ≡ s → eqb b (max a b) ≡ t → cond s (min a b) a ≡ cond t (min a b) b
    go true true p q = refl
    go true false p q = let h = eqb-true a (max a b) p in omega arith
    go false true p q = let h = eqb-true b (max a b) q in omega arith
    go false false p q = let h = eqb-false a (max a b) p in let k = eqb-false b (max a b) q in absurd (omega arith)

pub join-length : (a b : ℕ) (l : List ℕ) → length (join_classes a b l) ≡ length l
join-length a b l = length-map l (joined_to a b)

-- what has one number keeps one number
pub join-keeps : (a b : ℕ) (l : List ℕ) (i j : ℕ) → i < length l → j < length l → get_or l i 0 ≡ get_or l j 0 → get_or (join_classes a b l) i 0 ≡ get_or (join_classes a b l) j 0
join-keeps a b l i j h k e = get_d_map (joined_to a b) l 0 0 i h ∙ ap (joined_to a b) e ∙ sym (get_d_map (joined_to a b) l 0 0 j k)

-- and what is joined gets one number
pub join-joins : (l : List ℕ) (i j : ℕ) → i < length l → j < length l → get_or (join_classes (get_or l i 0) (get_or l j 0) l) i 0 ≡ get_or (join_classes (get_or l i 0) (get_or l j 0) l) j 0
join-joins l i j h k =
    let f = joined_to (get_or l i 0) (get_or l j 0) in
    get_d_map f l 0 0 i h ∙ joined_to-both (get_or l i 0) (get_or l j 0) ∙ sym (get_d_map f l 0 0 j k)

-- ---- numbers of equal paths

module _ (S : Schema) where
  pub classified-start : Classified S (upto (path_count S.graph))
  classified-start = record {
    whole = upto-length (path_count S.graph);
    lower = λ i h. let e = upto-get_or (path_count S.graph) i 0 h in omega arith;
    equal = λ i h. rw (upto-get_or (path_count S.graph) i 0 h) (record { starts = refl; chain = same });
  }

  joined_to-equal : (a b : ℕ) → EqualNumbers S a b → (x i : ℕ) → EqualNumbers S i x → EqualNumbers S i (joined_to a b x)
  joined_to-equal a b r x i h = go (eqb x (max a b)) refl
    where
      low : (t : Bool) → leb a b ≡ t → EqualNumbers S (max a b) (min a b)
      low true e = let k = leb-true a b e in let p : max a b ≡ b = omega arith in let q : min a b ≡ a = omega arith in rw (p, q) (equal_paths-sym r)
      low false e = let k = leb-false a b e in let p : max a b ≡ a = omega arith in let q : min a b ≡ b = omega arith in rw (p, q) r

      go : (t : Bool) → eqb x (max a b) ≡ t → EqualNumbers S i (cond t (min a b) x)
      go true e = equal_paths-trans (rw (eqb-true x (max a b) e) at h) (low (leb a b) refl)
      go false e = h

  pub classified-join : (l : List ℕ) (i j : ℕ) → i < path_count S.graph → j < path_count S.graph → EqualNumbers S i j → Classified S l → Classified S (join_classes (get_or l i 0) (get_or l j 0) l)
  classified-join l i j hi hj r s = record {
    whole = join-length a b l ∙ s.whole;
    lower = λ k h. let e = at k h in let u = joined_to-lower a b (get_or l k 0) in let v = s.lower k h in omega arith;
    equal = λ k h. rw (at k h) (joined_to-equal a b (equal_paths-trans (equal_paths-sym (s.equal i hi)) (equal_paths-trans r (s.equal j hj))) (get_or l k 0) k (s.equal k h));
  }
    where
      a : ℕ
      a = get_or l i 0

      b : ℕ
      b = get_or l j 0

      at : (k : ℕ) → k < path_count S.graph → get_or (join_classes a b l) k 0 ≡ joined_to a b (get_or l k 0)
      at k h = get_d_map (joined_to a b) l 0 0 k (rw s.whole h)
