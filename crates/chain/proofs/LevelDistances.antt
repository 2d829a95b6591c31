-- What the levels of a list mean: marked level after level, each path has its distance.
use Prim.Native.Nat.{ℕ, suc, ◌<◌, ◌≤◌}
use mathlib.Core.Path.{◌≡◌, refl, sym, ap, ◌∙◌, subst}
use mathlib.Core.Bool.{Bool, true, false}
use mathlib.Core.List.{List, Memᴰ}
use mathlib.Core.Logic.{inl, inr}
use native.Mathlib.Omega.{arith}
use native.Mathlib.Decide.{ℕ_discrete, dec_lt}
use lib.ListN.{length, get_or, set, replicate, length-set, length-replicate, get_or-replicate}
use lib.Seq.{get_or-set_same, get_or-set_other}
use Rattle.theory.specs.Schema.{IsPath}
use Rattle.meaning.specs.Schema as meaning
use Rattle.meaning.specs.Schema.{Path}
use Rattle.meaning.specs.PathChain.{Step, is_step, made}
use Rattle.meaning.specs.Views as views
use Rattle.agreement.specs.Paths.{path_count, path_at, number_of}
use Rattle.agreement.specs.PathChains.{IsDistance}
use Rattle.agreement.proofs.Paths.{all_paths-each, path_at-in, number_at}
use Rattle.agreement.proofs.Steps.{step_back}
use Rattle.agreement.proofs.Distances.{distance_self, distance-zero, distance-one, distance_next, distance-near, distance-exists, distance-few}
use Rattle.schema.specs.declared.Schema.{Schema}
use Rattle.schema.specs.Decoded.{graph_of, schema_of}
use Rattle.schema.specs.Judged.{Sound}
use Rattle.paths.specs.declared.Paths.{Paths}
use Rattle.paths.specs.Table.{IsTable}
use Rattle.paths.proofs.TablePaths.{formed}
use Rattle.chain.specs.Places.{step_number}
use Rattle.chain.specs.Levels.{mark, path_steps, level, Linked, Reaches}
use Rattle.chain.proofs.StepPlaces.{step-number-path, step-number-none}
use Rattle.chain.proofs.LevelSteps.{path_steps-in, path_steps-of}
use Rattle.chain.proofs.Marking.{Cases, mark-cases, mark_all-keeps, level-keeps, level-there}

-- ---- levels that are right

-- entries up to m are distances to path y, distances up to k are entries, and what is behind m is of no level
pub record Labelled (S : meaning.Schema) (y k m : ℕ) (l : List ℕ) : Type 0 where
  pub long : length l ≡ 256
  pub right : (z : ℕ) → z < path_count S.graph → get_or l z 0 ≤ m → IsDistance S (path_at S.graph y) (path_at S.graph z) (get_or l z 0)
  pub whole : (z j : ℕ) → z < path_count S.graph → j ≤ k → IsDistance S (path_at S.graph y) (path_at S.graph z) j → get_or l z 0 ≡ j
  pub rest : (z : ℕ) → z < path_count S.graph → m < get_or l z 0 → get_or l z 0 ≡ 256

-- path y alone is at distance 0
pub labelled-start : (S : meaning.Schema) (y : ℕ) → y < path_count S.graph → path_count S.graph ≤ 256 → Labelled S y 0 0 (set (replicate 256 256) y 0)
labelled-start S y h few = record {
  long = length-set l y 0 ∙ length-replicate {A = ℕ} 256 256;
  right = λ z i b. right z i b (ℕ_discrete z y);
  whole = whole;
  rest = λ z i b. rest z i b (ℕ_discrete z y);
}
  where
    l : List ℕ
    l = replicate 256 256

    here : get_or (set l y 0) y 0 ≡ 0
    here = get_or-set_same l y 0 0 (omega (arith, length-replicate {A = ℕ} 256 256))

    other : (z : ℕ) → z < path_count S.graph → (z ≡ y → ⊥) → get_or (set l y 0) z 0 ≡ 256
    other z i n = get_or-set_other l y z 0 0 n ∙ get_or-replicate 256 z 256 0 (omega arith)

    right : (z : ℕ) → z < path_count S.graph → get_or (set l y 0) z 0 ≤ 0 → Dec (z ≡ y) → IsDistance S (path_at S.graph y) (path_at S.graph z) (get_or (set l y 0) z 0)
    right z i b (yes e) = rw (e, here) (distance_self S (path_at S.graph y))
    right z i b (no n) = absurd (omega (arith, other z i n))

    whole : (z j : ℕ) → z < path_count S.graph → j ≤ 0 → IsDistance S (path_at S.graph y) (path_at S.graph z) j → get_or (set l y 0) z 0 ≡ j
    whole z j i b d =
        let e : j ≡ 0 = omega arith in
        let q = distance-zero S (path_at S.graph y) (path_at S.graph z) (subst (IsDistance S (path_at S.graph y) (path_at S.graph z)) e d) in
        let r : z ≡ y = sym (number_at S.graph z i) ∙ ap (number_of S.graph) q ∙ number_at S.graph y h in
        ap (λ (w : ℕ). get_or (set l y 0) w 0) r ∙ here ∙ sym e

    rest : (z : ℕ) → z < path_count S.graph → 0 < get_or (set l y 0) z 0 → Dec (z ≡ y) → get_or (set l y 0) z 0 ≡ 256
    rest z i b (yes e) = absurd (omega (arith, here, ap (λ (w : ℕ). get_or (set l y 0) w 0) e))
    rest z i b (no n) = other z i n

-- no path is of level k + 1 yet
labelled-open : {S : meaning.Schema} {y k : ℕ} {l : List ℕ} → Labelled S y k k l → k < 255 → Labelled S y k (suc k) l
labelled-open {S} {y} {k} {l} h b = record {
  long = h.long;
  right = λ z i a. h.right z i (low z i a (dec_lt k (get_or l z 0)));
  whole = h.whole;
  rest = λ z i a. h.rest z i (omega arith);
}
  where
    low : (z : ℕ) → z < path_count S.graph → get_or l z 0 ≤ suc k → Dec (k < get_or l z 0) → get_or l z 0 ≤ k
    low z i a (yes e) = absurd (omega (arith, h.rest z i e))
    low z i a (no e) = omega arith

-- a path of no level that is at distance k + 1
labelled-mark : {S : meaning.Schema} {y k : ℕ} {l : List ℕ} → Labelled S y k (suc k) l → k < 255 → (w : ℕ) → w < 256 → get_or l w 0 ≡ 256
    → IsDistance S (path_at S.graph y) (path_at S.graph w) (suc k) → Labelled S y k (suc k) (set l w (suc k))
labelled-mark {S} {y} {k} {l} h b w low e d = record {
  long = length-set l w (suc k) ∙ h.long;
  right = λ z i a. right z i a (ℕ_discrete z w);
  whole = λ z j i a v. whole z j i a v (ℕ_discrete z w);
  rest = λ z i a. rest z i a (ℕ_discrete z w);
}
  where
    here : (z : ℕ) → z ≡ w → get_or (set l w (suc k)) z 0 ≡ suc k
    here z q = ap (λ (v : ℕ). get_or (set l w (suc k)) v 0) q ∙ get_or-set_same l w (suc k) 0 (omega (arith, h.long))

    other : (z : ℕ) → (z ≡ w → ⊥) → get_or (set l w (suc k)) z 0 ≡ get_or l z 0
    other z n = get_or-set_other l w z (suc k) 0 n

    right : (z : ℕ) → z < path_count S.graph → get_or (set l w (suc k)) z 0 ≤ suc k → Dec (z ≡ w) → IsDistance S (path_at S.graph y) (path_at S.graph z) (get_or (set l w (suc k)) z 0)
    right z i a (yes q) = rw (here z q, q) d
    right z i a (no n) = rw (other z n) (h.right z i (omega (arith, other z n)))

    whole : (z j : ℕ) → z < path_count S.graph → j ≤ k → IsDistance S (path_at S.graph y) (path_at S.graph z) j → Dec (z ≡ w) → get_or (set l w (suc k)) z 0 ≡ j
    whole z j i a v (yes q) = absurd (omega (arith, h.whole z j i a v, ap (λ (v : ℕ). get_or l v 0) q))
    whole z j i a v (no n) = other z n ∙ h.whole z j i a v

    rest : (z : ℕ) → z < path_count S.graph → suc k < get_or (set l w (suc k)) z 0 → Dec (z ≡ w) → get_or (set l w (suc k)) z 0 ≡ 256
    rest z i a (yes q) = absurd (omega (arith, here z q))
    rest z i a (no n) = other z n ∙ h.rest z i (omega (arith, other z n))

-- ---- one level more

module _ (t : Schema) (p : Paths) (sound : Sound t) (table : IsTable (graph_of t.graph) p) (y : ℕ) where
  abbrev S : meaning.Schema
  S = schema_of t

  abbrev at : ℕ → Path
  at z = path_at S.graph z

  counted : {z : ℕ} → z < path_count S.graph → z < p.count
  counted i = omega (arith, table.counted)

  uncounted : {z : ℕ} → z < p.count → z < path_count S.graph
  uncounted i = omega (arith, table.counted)

  is-path : {z : ℕ} → z < path_count S.graph → IsPath (views.schema_of S) (at z).start (at z).edges
  is-path {z} i = (all_paths-each S (formed sound) (at z)).0 (path_at-in S.graph z i)

  -- a number below 256 is that of a step
  number_step : (x : ℕ) (s : Step) → step_number S x s < 256 → is_step S (at x) s ≡ true
  number_step x s h = go (is_step S (at x) s) refl
    where
      go : (b : Bool) → is_step S (at x) s ≡ b → is_step S (at x) s ≡ true
      go true e = e
      go false e = absurd (omega (arith, step-number-none t p sound table x s e))

  module _ (k : ℕ) (k-low : k < 255) where
    -- what a step makes of a path at distance k, where it is of no level up to k, is at distance k + 1
    mark-labelled : (x : ℕ) → x < path_count S.graph → IsDistance S (at y) (at x) k → (s : Step) (l : List ℕ) → Labelled S y k (suc k) l → Labelled S y k (suc k) (mark (suc k) (step_number S x s) l)
    mark-labelled x i d s l h = go (mark-cases (suc k) (step_number S x s) l)
      where
        distance : (w : ℕ) → w ≡ step_number S x s → w < 256 → get_or l w 0 ≡ 256 → IsDistance S (at y) (at w) (suc k)
        distance w z b e =
            let f = number_step x s (omega arith) in
            let r = step-number-path t p sound table x (counted i) s f in
            let u = step_back S (formed sound) (at x) s (is-path i) f in
            let made-is : at w ≡ made S (at x) s = ap at z ∙ r.1 in
            let n : w < path_count S.graph = uncounted (omega (arith, r.0)) in
            subst (λ (q : Path). IsDistance S (at y) q (suc k)) (sym made-is)
            (distance-near u.0 u.1 (subst (λ (q : Path). IsDistance S (at y) q k) (sym u.2) d)
            (λ j c v. let o = h.whole w j n c (subst (λ (q : Path). IsDistance S (at y) q j) (sym made-is) v) in omega arith))

        go : {m : List ℕ} → Cases (suc k) (step_number S x s) l m → Labelled S y k (suc k) m
        go (inl c) = subst (Labelled S y k (suc k)) (sym c.2) (labelled-mark h k-low (step_number S x s) c.0 c.1 (distance (step_number S x s) refl c.0 c.1))
        go (inr c) = subst (Labelled S y k (suc k)) (sym c.1) h

    level-labelled : (l : List ℕ) → Labelled S y k (suc k) l → Labelled S y k (suc k) (level S k p.count l)
    level-labelled =
        level-keeps S k (Labelled S y k (suc k)) p.count (λ x i l e h.
        let d : IsDistance S (at y) (at x) k = subst (IsDistance S (at y) (at x)) e (h.right x (uncounted i) (omega arith)) in
        mark_all-keeps (Labelled S y k (suc k)) (suc k) (path_steps S x) (λ w m o g.
        let s = path_steps-of S x w m in
        subst (λ (v : ℕ). Labelled S y k (suc k) (mark (suc k) v o)) (sym s.1) (mark-labelled x (uncounted i) d s.0 o g))
        l h)

    -- after the level each path at distance k + 1 is in it: a step makes it of one at distance k
    pub labelled-level : (l : List ℕ) → Labelled S y k k l → Labelled S y (suc k) (suc k) (level S k p.count l)
    labelled-level l h = record { long = g.long; right = g.right; whole = λ z j i a d. whole z j i a d (dec_lt k j); rest = g.rest }
      where
        m : List ℕ
        m = level S k p.count l

        g : Labelled S y k (suc k) m
        g = level-labelled l (labelled-open h k-low)

        -- path z is what a step makes of a path x at distance k
        reached : (z : ℕ) → z < path_count S.graph → IsDistance S (at y) (at z) (suc k) → get_or m z 0 ≡ 256 → ⊥
        reached z i d =
            let n = distance_next d in
            let r = step-number-path t p sound table z (counted i) n.0 n.1 in
            let x = step_number S z n.0 in
            let e : get_or l x 0 ≡ k = h.whole x k (uncounted r.0) (omega arith) (subst (λ (q : Path). IsDistance S (at y) q k) (sym r.1) n.2) in
            let u = step_back S (formed sound) (at z) n.0 (is-path i) n.1 in
            let f : is_step S (at x) u.0 ≡ true = subst (λ (q : Path). is_step S q u.0 ≡ true) (sym r.1) u.1 in
            let b = step-number-path t p sound table x r.0 u.0 f in
            let back : at (step_number S x u.0) ≡ at z = b.1 ∙ ap (λ (q : Path). made S q u.0) r.1 ∙ u.2 in
            let same : step_number S x u.0 ≡ z = sym (number_at S.graph (step_number S x u.0) (uncounted b.0)) ∙ ap (number_of S.graph) back ∙ number_at S.graph z i in
            level-there S k k-low p.count x z l h.long r.0 e (subst (λ (v : ℕ). Memᴰ v (path_steps S x)) same (path_steps-in S x u.0 f)) (omega (arith, counted i, table.few))

        whole : (z j : ℕ) → z < path_count S.graph → j ≤ suc k → IsDistance S (at y) (at z) j → Dec (k < j) → get_or m z 0 ≡ j
        whole z j i a d (no n) = g.whole z j i (omega arith) d
        whole z j i a d (yes n) = last (dec_lt (suc k) (get_or m z 0))
          where
            last : Dec (suc k < get_or m z 0) → get_or m z 0 ≡ j
            last (yes b) = let e : j ≡ suc k = omega arith in absurd (reached z i (subst (IsDistance S (at y) (at z)) e d) (g.rest z i b))
            last (no b) = distance-one (g.right z i (omega arith)) d

  -- ---- until path x is reached

  module _ (x : ℕ) (linked : Linked S x y) {k : ℕ} {l : List ℕ} (h : Labelled S y k k l) where
    distance-low : {j : ℕ} → IsDistance S (at y) (at x) j → j ≤ 255
    distance-low d = let a = distance-few S (formed sound) (at x) (at y) (is-path linked.x_in) d in omega (arith, table.few, table.counted)

    -- where it is of no level, its distance is more than k
    pub labelled-low : get_or l x 0 ≡ 256 → k < 255
    labelled-low e = go (dec_lt k n.0)
      where
        n : (j : ℕ) × IsDistance S (at y) (at x) j
        n = distance-exists S (formed sound) (at x) (at y) linked.equal

        go : Dec (k < n.0) → k < 255
        go (yes a) = omega (arith, distance-low n.1)
        go (no a) = absurd (omega (arith, h.whole x n.0 linked.x_in (omega arith) n.1, distance-low n.1))

    pub labelled-reaches : (get_or l x 0 ≡ 256 → ⊥) → Reaches S x y l
    labelled-reaches f = record {
      long = h.long;
      x_in = linked.x_in;
      y_in = linked.y_in;
      here = here;
      few = distance-low here;
      near = λ z j i a. (
        λ e. subst (IsDistance S (at y) (at z)) e (h.right z i (omega (arith, low (dec_lt k (get_or l x 0))))),
        λ d. h.whole z j i (omega (arith, low (dec_lt k (get_or l x 0)))) d,
      );
    }
      where
        low : Dec (k < get_or l x 0) → get_or l x 0 ≤ k
        low (yes a) = absurd (f (h.rest x linked.x_in a))
        low (no a) = omega arith

        here : IsDistance S (at y) (at x) (get_or l x 0)
        here = h.right x linked.x_in (low (dec_lt k (get_or l x 0)))
