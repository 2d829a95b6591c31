-- The class of a path has exactly the paths to which a chain of steps leads, and its first path is the theory's.
use Prim.Native.Nat.{ℕ, zero, suc, ◌<◌, ◌≤◌}
use mathlib.Core.Path.{◌≡◌, refl, sym, ◌∙◌, subst}
use mathlib.Core.Bool.{Bool}
use mathlib.Core.List.Memᴰ
use mathlib.Core.List.{List, [], ◌∷◌, ◌++◌, map, Memᴰ}
use mathlib.Core.Logic.{◌⊎◌, inl, inr, ◌↔◌}
use native.Mathlib.Omega.{arith}
use native.Mathlib.Decide.{dec_lt}
use Rattle.theory.specs.Schema.{IsPath, Chain, same, more, Lex, PathBefore}
use Rattle.theory.specs.Pi.{Sorted}
use Rattle.theory.proofs.Schema.{chain-trans, chain-sym, chain-path}
use Rattle.meaning.specs.Lists.{any, head_or, concat_map}
use Rattle.meaning.specs.Schema.{Path, path, identical, Schema, all_paths}
use Rattle.meaning.specs.PathChain.{made, steps}
use Rattle.meaning.specs.PathEquality.{among, reached, class_of, first_path}
use Rattle.meaning.specs.Views.{schema_of}
use Rattle.meaning.proofs.Lists.{filter-in, filter-of, any-in, any_of, concat_map-in, concat_map-of, sorted_filter}
use Rattle.agreement.specs.Paths.{EqualPaths, FirstEqual, WellFormed, Before, path_count}
use Rattle.agreement.specs.PathChains.{IsDistance}
use Rattle.agreement.proofs.Paths.{schema_is, same-starts, all_paths-each, all_paths-sorted, before-asymmetric, identical-iff}
use Rattle.agreement.proofs.Steps.{steps-listed, made-step, made-path, step_back}
use Rattle.agreement.proofs.Distances.{distance-zero, distance_next, distance-exists, distance-few}

-- ---- equal paths

module _ {S : Schema} where
  pub equal_paths-sym : {p q : Path} → EqualPaths S p q → EqualPaths S q p
  equal_paths-sym {p} {q} h = record { starts = sym h.starts; chain = subst (λ (n : ℕ). Chain (schema_of S) n q.edges p.edges) h.starts (chain-sym h.chain) }

  pub equal_paths-trans : {p q r : Path} → EqualPaths S p q → EqualPaths S q r → EqualPaths S p r
  equal_paths-trans {p} {q} {r} h k = record {
    starts = h.starts ∙ k.starts;
    chain = chain-trans h.chain (subst (λ (n : ℕ). Chain (schema_of S) n q.edges r.edges) (sym h.starts) k.chain);
  }

-- from one start, the order of all paths is the theory's
pub before-path_before : (p q : Path) → p.start ≡ q.start → Before p q → PathBefore p.edges q.edges
before-path_before p q e (inl h) = inl h
before-path_before p q e (inr h) = inr (h.0, go h.1)
  where
    go : (p.start < q.start) ⊎ ((p.start ≡ q.start) × Lex p.edges q.edges) → Lex p.edges q.edges
    go (inl k) = absurd (omega arith)
    go (inr k) = k.1

pub path_before-before : (p q : Path) → p.start ≡ q.start → PathBefore p.edges q.edges → Before p q
path_before-before p q e (inl h) = inl h
path_before-before p q e (inr h) = inr (h.0, inr (e, h.1))

-- ---- where steps lead

module _ (S : Schema) where
  -- the paths that one step makes of p
  abbrev after : Path → List Path
  after p = map (made S p) (steps S p)

  among-iff : (l : List Path) (q : Path) → Memᴰ q (among S.graph l) ↔ (Memᴰ q (all_paths S.graph) × Memᴰ q l)
  among-iff l q = (
    λ m.
        let f = filter-of test (all_paths S.graph) m in
        let a = any_of (identical q) l f.1 in
        (f.0, subst (λ (x : Path). Memᴰ x l) (sym ((identical-iff q a.0).0 a.2)) a.1),
    λ h. filter-in test (all_paths S.graph) h.0 (any-in (identical q) l h.1 ((identical-iff q q).1 refl)),
  )
    where
      test : Path → Bool
      test q = any (identical q) l

  pub reached_in : (k : ℕ) (p q : Path) → Memᴰ q (reached S k p) → Memᴰ q (all_paths S.graph)
  reached_in zero p q m = ((among-iff (p ∷ []) q).0 m).0
  reached_in (suc k) p q m = ((among-iff (reached S k p ++ concat_map after (reached S k p)) q).0 m).0

  reached-sorted : (k : ℕ) (p : Path) → Sorted Before (reached S k p)
  reached-sorted zero p = sorted_filter Before (λ q. any (identical q) (p ∷ [])) (all_paths S.graph) (all_paths-sorted S.graph)
  reached-sorted (suc k) p = sorted_filter Before (λ q. any (identical q) (reached S k p ++ concat_map after (reached S k p))) (all_paths S.graph) (all_paths-sorted S.graph)

  -- where k steps lead, k + 1 steps at most lead
  reached-more : (k : ℕ) (p q : Path) → Memᴰ q (reached S k p) → Memᴰ q (reached S (suc k) p)
  reached-more k p q m = (among-iff (reached S k p ++ concat_map after (reached S k p)) q).1 (reached_in k p q m, Memᴰ.append_left (concat_map after (reached S k p)) m)

  reached-later : (k n : ℕ) (p q : Path) → k ≤ n → Memᴰ q (reached S k p) → Memᴰ q (reached S n p)
  reached-later k zero p q l m = let e : k ≡ 0 = omega arith in rw e at m
  reached-later k (suc n) p q l m = go (dec_lt n k) (λ h. reached-later k n p q h m)
    where
      go : Dec (n < k) → (k ≤ n → Memᴰ q (reached S n p)) → Memᴰ q (reached S (suc n) p)
      go (yes a) below = let e : k ≡ suc n = omega arith in rw e at m
      go (no a) below = reached-more n p q (below (omega arith))

module _ (S : Schema) (wf : WellFormed S) (p : Path) where
  -- a chain leads to each reached path
  reached-equal : (k : ℕ) (q : Path) → Memᴰ q (reached S k p) → EqualPaths S p q
  reached-equal zero q m = subst (EqualPaths S p) (sym (Memᴰ.eq_of_singleton ((among-iff S (p ∷ []) q).0 m).1)) (record { starts = refl; chain = same })
  reached-equal (suc k) q m = go (reached-equal k) (Memᴰ.append_cases (reached S k p) ((among-iff S (reached S k p ++ concat_map (after S) (reached S k p)) q).0 m).1)
    where
      go : ((r : Path) → Memᴰ r (reached S k p) → EqualPaths S p r) → Memᴰ q (reached S k p) ⊎ Memᴰ q (concat_map (after S) (reached S k p)) → EqualPaths S p q
      go below (inl i) = below q i
      go below (inr i) =
          let a = concat_map-of (after S) (reached S k p) i in
          let b = Memᴰ.of_map (made S a.0) (steps S a.0) a.2 in
          let s = made-step S (same-starts S wf.fits) a.0 b.0 ((steps-listed S a.0 b.0).0 b.1) in
          equal_paths-trans (below a.0 a.1) (subst (EqualPaths S a.0) b.2 (record { starts = refl; chain = more s same }))

  -- and each path k steps away is reached
  distance-reached : (k : ℕ) (q : Path) → IsPath (schema_of S) q.start q.edges → IsDistance S p q k → Memᴰ q (reached S k p)
  distance-reached zero q h d = (among-iff S (p ∷ []) q).1 ((all_paths-each S wf q).1 h, Memᴰ.head (distance-zero S p q d))
  distance-reached (suc k) q h d =
      let t = distance_next d in
      let r = made S q t.0 in
      let m = distance-reached k r (made-path S wf q t.0 h t.1) t.2 in
      let u = step_back S wf q t.0 h t.1 in
      let i = concat_map-in (after S) (reached S k p) m (Memᴰ.map (made S r) ((steps-listed S r u.0).1 u.1)) in
      (among-iff S (reached S k p ++ concat_map (after S) (reached S k p)) q).1 ((all_paths-each S wf q).1 h, Memᴰ.append_right (reached S k p) (subst (λ (x : Path). Memᴰ x (concat_map (after S) (reached S k p))) u.2 i))

  module _ (h : IsPath (schema_of S) p.start p.edges) where
    equal-path : (q : Path) → EqualPaths S p q → IsPath (schema_of S) q.start q.edges
    equal-path q e = subst (λ (n : ℕ). IsPath (schema_of S) n q.edges) e.starts (chain-path (schema_is S wf.fits) p.start e.chain h).0

    -- the class of p
    pub class-iff : (q : Path) → Memᴰ q (class_of S p) ↔ EqualPaths S p q
    class-iff q = (reached-equal (path_count S.graph) q, back)
      where
        back : EqualPaths S p q → Memᴰ q (class_of S p)
        back e =
            let k = equal-path q e in
            let d = distance-exists S wf q p (equal_paths-sym e) in
            let l = distance-few S wf q p k d.1 in
            reached-later S d.0 (path_count S.graph) p q (omega arith) (distance-reached d.0 q k d.1)

-- ---- the first path

pub class-sorted : (S : Schema) (p : Path) → Sorted Before (class_of S p)
class-sorted S p = reached-sorted S (path_count S.graph) p

head_or-first : {A : Type 0} (Before : A → A → Type 0) (d : A) (l : List A) → Sorted Before l → {x : A} → Memᴰ x l → Memᴰ (head_or d l) l × ((x ≡ head_or d l) ⊎ Before (head_or d l) x)
head_or-first Before d [] s m = absurd (Memᴰ.not-nil m)
head_or-first Before d (y ∷ l) s {x} m = (Memᴰ.head refl, go (Memᴰ.cases_cons m))
  where
    go : (x ≡ y) ⊎ Memᴰ x l → (x ≡ y) ⊎ Before y x
    go (inl e) = inl e
    go (inr i) = inr (s.0 x i)

module _ (S : Schema) (wf : WellFormed S) (p : Path) (h : IsPath (schema_of S) p.start p.edges) where
  -- a chain leads to it
  pub first-equal : EqualPaths S p (first_path S p)
  first-equal =
      let m = (class-iff S wf p h p).1 (record { starts = refl; chain = same }) in
      (class-iff S wf p h (first_path S p)).0 (head_or-first Before (path 0 []) (class_of S p) (class-sorted S p) m).0

  -- and to no path before it
  pub first-least : (q : Path) → EqualPaths S p q → Before q (first_path S p) → ⊥
  first-least q e b = go (head_or-first Before (path 0 []) (class_of S p) (class-sorted S p) ((class-iff S wf p h q).1 e)).1
    where
      go : (q ≡ first_path S p) ⊎ Before (first_path S p) q → ⊥
      go (inl i) = before-asymmetric q q (rw (← i) at b) (rw (← i) at b)
      go (inr i) = before-asymmetric q (first_path S p) b i

  pub first-path : IsPath (schema_of S) (first_path S p).start (first_path S p).edges
  first-path = equal-path S wf p h (first_path S p) first-equal

  pub first-is : FirstEqual S p (first_path S p)
  first-is = record {
    equal = first-equal;
    first = record {
      path = (chain-path (schema_is S wf.fits) p.start first-equal.chain h).0;
      least = λ q c b.
          first-least (path p.start q) (record { starts = refl; chain = chain-trans first-equal.chain c })
          (path_before-before (path p.start q) (first_path S p) first-equal.starts b);
    };
  }
