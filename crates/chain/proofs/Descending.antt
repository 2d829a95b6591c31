-- From a path down the levels: where each step is the least that comes one nearer, the steps taken begin the first of the shortest chains.
use Prim.Native.Nat.{ℕ, suc, ◌+◌, ◌<◌, ◌≤◌}
use mathlib.Core.Path.{◌≡◌, refl, sym, ap, ap₂, ◌∙◌, subst}
use mathlib.Core.Bool.{Bool, true, false}
use mathlib.Core.List.{List, [], ◌∷◌, ◌++◌, map, map-append, append_assoc, append-nil}
use mathlib.Core.Option.{some}
use native.Mathlib.Omega.{arith}
use lib.ListN.{length, get_or, set, length-set}
use lib.Seq.{get_or-set_same, get_or-set_other}
use lib.Dec.{ltb, eqb}
use borrow.Author.Tests.{eqb-true, eq-eqb, lt-ltb, ltb-true}
use Rattle.meaning.specs.Lists as lists
use Rattle.meaning.specs.Schema as meaning
use Rattle.meaning.specs.PathChain.{Step, is_numbered, stands_in, is_step, made, chains}
use Rattle.meaning.proofs.Lists.{no_bool, and_intro}
use Rattle.meaning.proofs.Tabulate.{and_both, tabulate-store}
use Rattle.meaning.proofs.StepNumbers.{step_of}
use Rattle.agreement.specs.Paths.{path_count, path_at}
use Rattle.agreement.specs.PathChains.{StepBefore, IsDistance}
use Rattle.agreement.proofs.Distances.{chain-nothing, chains-first, distance-in, distance_next, distance-far}
use Rattle.schema.specs.declared.Schema.{Schema}
use Rattle.schema.specs.Decoded.{front_of, graph_of, schema_of}
use Rattle.schema.specs.Judged.{Sound}
use Rattle.paths.specs.declared.Paths.{Paths}
use Rattle.paths.specs.Table.{IsTable}
use Rattle.chain.specs.declared.nearer.Move.{Move}
use Rattle.chain.specs.Places.{step_number}
use Rattle.chain.specs.Levels.{Reaches}
use Rattle.chain.specs.Nearer.{is_at, StepFound, NoStep, Descends, Descended}
use Rattle.chain.proofs.StepPlaces.{step-number-path, step-number-none}

-- i of n steps are taken, from path x to path at: with them in front, the first of the shortest chains from there is the first from path x
pub record Descending (S : meaning.Schema) (l : List ℕ) (x n : ℕ) (old : List ℕ) (at i : ℕ) (steps : List ℕ) : Type 0 where
  pub at_in : at < path_count S.graph
  pub away : i + get_or l at 0 ≡ n
  pub so_far : (y : ℕ) → Reaches S x y l → {c : List Step} → lists.first (chains S (get_or l at 0) (path_at S.graph at) (path_at S.graph y)) ≡ some c
      → lists.first (chains S n (path_at S.graph x) (path_at S.graph y)) ≡ some (map step_of (front_of i steps) ++ c)
  pub long : length steps ≡ length old

-- ---- a path's number in the list of distances

at_true : (l : List ℕ) (y k : ℕ) → y < 256 → get_or l y 0 ≡ k → is_at l y k ≡ true
at_true l y k h e = and_intro (lt-ltb y 256 h) (eq-eqb (get_or l y 0) k e)

true-at : (l : List ℕ) (y k : ℕ) → is_at l y k ≡ true → (y < 256) × (get_or l y 0 ≡ k)
true-at l y k e = let b = and_both (ltb y 256) (eqb (get_or l y 0) k) e in (ltb-true y 256 b.0, eqb-true (get_or l y 0) k b.1)

numbered : (S : meaning.Schema) (w : meaning.Path) (u : Step) → is_step S w u ≡ true → is_numbered S w u ≡ true
numbered S w u e = (and_both (is_numbered S w u) (stands_in S w u) e).0

-- ---- the beginning and the end

-- a path that is no farther than path x is as far as the list says
reached : {S : meaning.Schema} {l : List ℕ} {x y at : ℕ} → Reaches S x y l → at < path_count S.graph → get_or l at 0 ≤ get_or l x 0 → IsDistance S (path_at S.graph y) (path_at S.graph at) (get_or l at 0)
reached {l = l} {at = at} r h e = (r.near at (get_or l at 0) h e).0 refl

module _ {S : meaning.Schema} {l : List ℕ} {x n : ℕ} where
  pub descending-start : (steps : List ℕ) → Descends S l x n → Descending S l x n steps x 0 steps
  descending-start steps d = record {
    at_in = d.reaches.x_in;
    away = omega (arith, d.away);
    so_far = λ y r {c} e. ap (λ (k : ℕ). lists.first (chains S k (path_at S.graph x) (path_at S.graph y))) d.away ∙ e;
    long = refl;
  }

  pub descending-done : {old steps : List ℕ} {at i : ℕ} → Descends S l x n → Descending S l x n old at i steps → n ≤ i → Descended S l x n steps
  descending-done {old} {steps} {at} {i} d h all y r =
      let zero : get_or l at 0 ≡ 0 = omega (arith, h.away) in
      let same : i ≡ n = omega (arith, h.away) in
      let p : meaning.Path = path_at S.graph at in
      let q : meaning.Path = path_at S.graph y in
      let e : IsDistance S q p 0 = subst (IsDistance S q p) zero (reached r h.at_in (omega (arith, h.away, d.away))) in
      let f : lists.first (chains S (get_or l at 0) p q) ≡ some [] = ap (λ (k : ℕ). lists.first (chains S k p q)) zero ∙ e.first ∙ ap (λ (c : List Step). some c) (chain-nothing S p q (distance-in e)).1 in
      h.so_far y r f ∙ ap (λ (c : List Step). some c) (append-nil (map step_of (front_of i steps))) ∙ ap (λ (k : ℕ). some (map step_of (front_of k steps))) same

-- ---- one step

module _ (t : Schema) (p : Paths) (sound : Sound t) (table : IsTable (graph_of t.graph) p) (l : List ℕ) (x n : ℕ) (start : Descends (schema_of t) l x n)
    (old : List ℕ) (at i : ℕ) (steps : List ℕ) (so : Descending (schema_of t) l x n old at i steps) (k : ℕ) (above : get_or l at 0 ≡ suc k) where
  abbrev S : meaning.Schema
  S = schema_of t

  abbrev here : meaning.Path
  here = path_at S.graph at

  at_low : at < p.count
  at_low = omega (arith, so.at_in, table.counted)

  -- where path at is one step too far, a step that comes to distance k makes a path that is seen to be at k
  module _ {y : ℕ} (reaches : Reaches S x y l) where
    abbrev there : meaning.Path
    there = path_at S.graph y

    far : IsDistance S there here (suc k)
    far = subst (IsDistance S there here) above (reached reaches so.at_in (omega (arith, so.away, start.away)))

    seen : (u : Step) → is_step S here u ≡ true → IsDistance S there (made S here u) k → is_at l (step_number S at u) k ≡ true
    seen u e d =
        let w = step-number-path t p sound table at at_low u e in
        let z = step_number S at u in
        at_true l z k (omega (arith, w.0, table.few))
        ((reaches.near z k (omega (arith, w.0, table.counted)) (omega (arith, above, so.away, start.away))).1 (subst (λ (v : meaning.Path). IsDistance S there v k) (sym w.1) d))

  -- so there is one
  pub no_step : NoStep S l at k → ⊥
  no_step next =
      let s = distance_next (far start.reaches) in
      no_bool (sym (seen start.reaches s.0 s.1 s.2) ∙ next.none s.0 (numbered S here s.0 s.1))

  module _ {r : Move} (found : StepFound S l at k r) where
    made-step : is_step S here (step_of r.step) ≡ true
    made-step = go (is_step S here (step_of r.step)) refl
      where
        go : (b : Bool) → is_step S here (step_of r.step) ≡ b → b ≡ true
        go true e = refl
        go false e = absurd (omega (arith, (true-at l r.path k found.near).0, found.path, step-number-none t p sound table at (step_of r.step) e))

    made_at : (r.path < p.count) × (path_at S.graph r.path ≡ made S here (step_of r.step))
    made_at = subst (λ (z : ℕ). (z < p.count) × (path_at S.graph z ≡ made S here (step_of r.step))) (sym found.path) (step-number-path t p sound table at at_low (step_of r.step) made-step)

    -- no step before it begins a chain of k steps more
    none_before : {y : ℕ} → Reaches S x y l → (u : Step) → is_step S here u ≡ true → StepBefore u (step_of r.step) → chains S k (made S here u) (path_at S.graph y) ≡ []
    none_before reaches u e b = distance-far u (far reaches) e (λ d. no_bool (sym (seen reaches u e d) ∙ found.first_such u (numbered S here u e) b))

    module _ (room : i < length steps) {new : List ℕ} (stored : new ≡ set steps i r.step) where
      front-more : front_of (i + 1) new ≡ front_of i steps ++ (r.step ∷ [])
      front-more = ap (front_of (i + 1)) stored ∙ tabulate-store i (λ j h. get_or-set_other steps i j r.step 0 (λ e. absurd (omega arith))) (get_or-set_same steps i r.step 0 room)

      longer : {y : ℕ} → Reaches S x y l → {c : List Step} → lists.first (chains S (get_or l r.path 0) (path_at S.graph r.path) (path_at S.graph y)) ≡ some c
          → lists.first (chains S n (path_at S.graph x) (path_at S.graph y)) ≡ some (map step_of (front_of (i + 1) new) ++ c)
      longer {y} reaches {c} e =
          let q : meaning.Path = path_at S.graph y in
          let s : Step = step_of r.step in
          let d : get_or l r.path 0 ≡ k = (true-at l r.path k found.near).1 in
          let f : lists.first (chains S k (made S here s) q) ≡ some c = ap₂ (λ (j : ℕ) (w : meaning.Path). lists.first (chains S j w q)) (sym d) (sym made_at.1) ∙ e in
          let g : lists.first (chains S (suc k) here q) ≡ some (s ∷ c) = chains-first S k here q s made-step (none_before reaches) f in
          let h : map step_of (front_of (i + 1) new) ++ c ≡ map step_of (front_of i steps) ++ (s ∷ c) =
          ap (λ (a : List ℕ). map step_of a ++ c) front-more ∙ ap (λ (a : List Step). a ++ c) (map-append step_of (front_of i steps) (r.step ∷ [])) ∙ append_assoc (map step_of (front_of i steps)) (s ∷ []) c in
          so.so_far y reaches (ap (λ (j : ℕ). lists.first (chains S j here q)) above ∙ g) ∙ ap (λ (a : List Step). some a) (sym h)

      pub descending-more : Descending S l x n old r.path (i + 1) new
      descending-more = record {
        at_in = omega (arith, made_at.0, table.counted);
        away = omega (arith, so.away, above, (true-at l r.path k found.near).1);
        so_far = λ y reaches {c} e. longer reaches e;
        long = ap length stored ∙ length-set steps i r.step ∙ so.long;
      }
