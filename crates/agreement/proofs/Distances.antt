-- How many steps away a path is: the chains of k steps, and the least k for which there are some. Equal paths have a distance, and it is below the number of paths.
use Prim.Native.Nat.{ℕ, zero, suc, ◌<◌, ◌≤◌}
use mathlib.Core.Path.{◌≡◌, refl, sym, ap, ◌∙◌, subst}
use mathlib.Core.Bool.{Bool, true, false}
use mathlib.Core.List.{List, [], ◌∷◌, ◌++◌, map, Memᴰ}
use mathlib.Core.Option.{none, some, some-injective, none-ne-some}
use mathlib.Core.Logic.{◌⊎◌, inl, inr}
use native.Mathlib.Omega.{arith}
use native.Mathlib.Nat.{not-suc-le-zero}
use native.Mathlib.Decide.{dec_lt}
use Rattle.theory.specs.Schema.{IsPath, Chain, same, more, chain_length}
use Rattle.theory.specs.Pi.{Sorted}
use Rattle.meaning.specs.Lists as lists
use Rattle.meaning.specs.Lists.{upto, cons_if, concat_map}
use Rattle.meaning.specs.Schema.{Path, path, identical, Schema, all_paths}
use Rattle.meaning.specs.PathChain.{Step, is_step, made, steps, chains, first_chain}
use Rattle.meaning.specs.Views.{schema_of}
use Rattle.meaning.proofs.Lists.{no_bool, concat_map-in, concat_map-of, in-upto, sorted-upto}
use Rattle.agreement.specs.Paths.{EqualPaths, WellFormed, SameStarts, path_count, number_of, path_at}
use Rattle.agreement.specs.PathChains.{StepBefore, IsDistance}
use Rattle.agreement.proofs.Paths.{same-starts, all_paths-each, identical-iff, number_in, number-path}
use Rattle.agreement.proofs.Loops.{repeated}
use Rattle.agreement.proofs.Steps.{steps-listed, steps-sorted, stepped-some, each_step, made-step, made-path}

-- ---- the first of a list

module _ {A : Type 0} where
  pub first-in : (l : List A) {x : A} → lists.first l ≡ some x → Memᴰ x l
  first-in [] {x} e = absurd (none-ne-some x e)
  first-in (y ∷ l) {x} e = mathlib.Core.List.Memᴰ.head (sym (some-injective y x e))

  in-first : (l : List A) {x : A} → Memᴰ x l → (y : A) × (lists.first l ≡ some y)
  in-first [] m = absurd (mathlib.Core.List.Memᴰ.not-nil m)
  in-first (y ∷ l) m = (y, refl)

  none_in : (l : List A) → ((x : A) → Memᴰ x l → ⊥) → l ≡ []
  none_in [] h = refl
  none_in (y ∷ l) h = absurd (h y (mathlib.Core.List.Memᴰ.head refl))

  not_in : (l : List A) {x : A} → l ≡ [] → Memᴰ x l → ⊥
  not_in l {x} e m = mathlib.Core.List.Memᴰ.not-nil (subst (Memᴰ x) e m)

  first-append : (l m : List A) {x : A} → lists.first l ≡ some x → lists.first (l ++ m) ≡ some x
  first-append [] m {x} e = absurd (none-ne-some x e)
  first-append (y ∷ l) m e = e

module _ {A B : Type 0} where
  first-map : (f : A → B) (l : List A) {x : A} → lists.first l ≡ some x → lists.first (map f l) ≡ some (f x)
  first-map f [] {x} e = absurd (none-ne-some x e)
  first-map f (y ∷ l) {x} e = ap (λ (a : A). some (f a)) (some-injective y x e)

  -- of lists in order, the first that has an element has the first element of all
  first-concat_map : (Before : A → A → Type 0) (f : A → List B) (l : List A) {a : A} {b : B} → Sorted Before l → Memᴰ a l → ((x : A) → Memᴰ x l → Before x a → f x ≡ [])
      → lists.first (f a) ≡ some b → lists.first (concat_map f l) ≡ some b
  first-concat_map Before f [] s m h e = absurd (mathlib.Core.List.Memᴰ.not-nil m)
  first-concat_map Before f (x ∷ l) {a} {b} s m h e = go (λ k. first-concat_map Before f l s.1 k (λ y i. h y (mathlib.Core.List.Memᴰ.tail i)) e) (mathlib.Core.List.Memᴰ.cases_cons m)
    where
      go : (Memᴰ a l → lists.first (concat_map f l) ≡ some b) → (a ≡ x) ⊎ Memᴰ a l → lists.first (f x ++ concat_map f l) ≡ some b
      go below (inl q) = first-append (f x) (concat_map f l) (rw q at e)
      go below (inr k) = ap (λ (m : List B). lists.first (m ++ concat_map f l)) (h x (mathlib.Core.List.Memᴰ.head refl) (s.0 a k)) ∙ below k

-- ---- chains of k steps

pub chain-here : (S : Schema) (p : Path) → Memᴰ [] (chains S 0 p p)
chain-here S p = go (identical p p) ((identical-iff p p).1 refl)
  where
    go : (t : Bool) → t ≡ true → Memᴰ {A = List Step} [] (cons_if t [] [])
    go true e = mathlib.Core.List.Memᴰ.head refl
    go false e = absurd (no_bool (sym e))

-- a chain of no step leads from a path to itself
pub chain-nothing : (S : Schema) (p q : Path) {c : List Step} → Memᴰ c (chains S 0 p q) → (p ≡ q) × (c ≡ [])
chain-nothing S p q {c} m = go (identical p q) refl m
  where
    nil : Memᴰ c ([] ∷ []) → c ≡ []
    nil (mathlib.Core.List.Memᴰ.head e) = e
    nil (mathlib.Core.List.Memᴰ.tail k) = absurd (mathlib.Core.List.Memᴰ.not-nil k)

    go : (t : Bool) → identical p q ≡ t → Memᴰ c (cons_if t [] []) → (p ≡ q) × (c ≡ [])
    go true e k = ((identical-iff p q).0 e, nil k)
    go false e k = absurd (mathlib.Core.List.Memᴰ.not-nil k)

-- a chain of more steps: its first step and the others
pub record Longer (S : Schema) (k : ℕ) (p q : Path) (c : List Step) : Type 0 where
  pub step : Step
  pub others : List Step
  pub is-step : is_step S p step ≡ true
  pub goes_on : Memᴰ others (chains S k (made S p step) q)
  pub whole : step ∷ others ≡ c

module _ (S : Schema) where
  -- the chains that begin with t
  abbrev onward : ℕ → Path → Path → Step → List (List Step)
  onward k p q t = map (λ c. t ∷ c) (chains S k (made S p t) q)

  pub chain_more : (k : ℕ) (p q : Path) (t : Step) {c : List Step} → is_step S p t ≡ true → Memᴰ c (chains S k (made S p t) q) → Memᴰ (t ∷ c) (chains S (suc k) p q)
  chain_more k p q t e m = concat_map-in (onward k p q) (steps S p) ((steps-listed S p t).1 e) (mathlib.Core.List.Memᴰ.map (λ (c : List Step). t ∷ c) m)

  pub chain-longer : (k : ℕ) (p q : Path) {c : List Step} → Memᴰ c (chains S (suc k) p q) → Longer S k p q c
  chain-longer k p q m =
      let a = concat_map-of (onward k p q) (steps S p) m in
      let b = mathlib.Core.List.Memᴰ.of_map (λ (c : List Step). a.0 ∷ c) (chains S k (made S p a.0) q) a.2 in
      record { step = a.0; others = b.0; is-step = (steps-listed S p a.0).0 a.1; goes_on = b.1; whole = b.2 }

  -- without a chain of k + 1 steps from p there is none of k steps from where a step leads
  chains-less : (k : ℕ) (p q : Path) (t : Step) → is_step S p t ≡ true → chains S (suc k) p q ≡ [] → chains S k (made S p t) q ≡ []
  chains-less k p q t e h = none_in (chains S k (made S p t) q) (λ c m. not_in (chains S (suc k) p q) h (chain_more k p q t e m))

  pub chains-first : (k : ℕ) (p q : Path) (t : Step) {c : List Step} → is_step S p t ≡ true → ((u : Step) → is_step S p u ≡ true → StepBefore u t → chains S k (made S p u) q ≡ [])
      → lists.first (chains S k (made S p t) q) ≡ some c → lists.first (chains S (suc k) p q) ≡ some (t ∷ c)
  chains-first k p q t {c} e h f =
      first-concat_map StepBefore (onward k p q) (steps S p) (steps-sorted S p) ((steps-listed S p t).1 e)
      (λ u m b. ap (map (λ (c : List Step). u ∷ c)) (h u ((steps-listed S p u).0 m) b)) (first-map (λ (c : List Step). t ∷ c) (chains S k (made S p t) q) f)

-- ---- distances

-- the first of some chains, where there are none of fewer steps
distance-made : (S : Schema) (p q : Path) (k : ℕ) {c : List Step} → Memᴰ c (chains S k p q) → ((j : ℕ) → j < k → chains S j p q ≡ []) → IsDistance S q p k
distance-made S p q k m h = let f = in-first (chains S k p q) m in record { chain = f.0; first = f.1; none_shorter = h }

-- where there is a chain there is a shortest one
module _ (S : Schema) (p q : Path) where
  -- a distance below n, or no chain of fewer than n steps
  abbrev Tried : ℕ → Type 0
  Tried n = ((j : ℕ) × (j < n) × IsDistance S q p j) ⊎ ((j : ℕ) → j < n → chains S j p q ≡ [])

  tried : (n : ℕ) → Tried n
  tried zero = inr (λ j l. absurd (not-suc-le-zero l))
  tried (suc n) = go (tried n) (chains S n p q) refl
    where
      go : Tried n → (l : List (List Step)) → chains S n p q ≡ l → Tried (suc n)
      go (inl d) l e = inl (d.0, omega (arith, d.1), d.2)
      go (inr h) [] e = inr (λ j k. last j k (dec_lt j n))
        where
          last : (j : ℕ) → j < suc n → Dec (j < n) → chains S j p q ≡ []
          last j k (yes a) = h j a
          last j k (no a) = let i : j ≡ n = omega arith in rw i e
      go (inr h) (c ∷ l) e = inl (n, omega arith, distance-made S p q n (subst (Memᴰ c) (sym e) (mathlib.Core.List.Memᴰ.head refl)) h)

  pub distance_least : (k : ℕ) {c : List Step} → Memᴰ c (chains S k p q) → (j : ℕ) × (j ≤ k) × IsDistance S q p j
  distance_least k m = go (tried (suc k))
    where
      go : Tried (suc k) → (j : ℕ) × (j ≤ k) × IsDistance S q p j
      go (inl d) = (d.0, omega (arith, d.1), d.2)
      go (inr h) = absurd (not_in (chains S k p q) (h k (omega arith)) m)

-- the chain of a distance is one of those of as many steps
pub distance-in : {S : Schema} {q p : Path} {k : ℕ} (d : IsDistance S q p k) → Memᴰ d.chain (chains S k p q)
distance-in {S} {q} {p} {k} d = first-in (chains S k p q) d.first

pub distance_self : (S : Schema) (q : Path) → IsDistance S q q 0
distance_self S q = distance-made S q q 0 (chain-here S q) (λ j l. absurd (not-suc-le-zero l))

pub distance-zero : (S : Schema) (q p : Path) → IsDistance S q p 0 → p ≡ q
distance-zero S q p d = (chain-nothing S p q (distance-in d)).0

pub distance-one : {S : Schema} {q p : Path} {j k : ℕ} → IsDistance S q p j → IsDistance S q p k → j ≡ k
distance-one {S} {q} {p} {j} {k} d e = go (dec_lt j k) (dec_lt k j)
  where
    go : Dec (j < k) → Dec (k < j) → j ≡ k
    go (yes a) b = absurd (not_in (chains S j p q) (e.none_shorter j a) (distance-in d))
    go (no a) (yes b) = absurd (not_in (chains S k p q) (d.none_shorter k b) (distance-in e))
    go (no a) (no b) = omega arith

-- some step leads one step nearer
pub distance_next : {S : Schema} {q p : Path} {k : ℕ} → IsDistance S q p (suc k) → (t : Step) × (is_step S p t ≡ true) × IsDistance S q (made S p t) k
distance_next {S} {q} {p} {k} d =
    let l = chain-longer S k p q (distance-in d) in
    (l.step, l.is-step, distance-made S (made S p l.step) q k l.goes_on (λ j i. chains-less S j p q l.step l.is-step (d.none_shorter (suc j) (omega arith))))

-- from a path that is not nearer, a step to a path at distance k begins a shortest chain
pub distance-near : {S : Schema} {q p : Path} {k : ℕ} (t : Step) → is_step S p t ≡ true → IsDistance S q (made S p t) k → ((j : ℕ) → j ≤ k → IsDistance S q p j → ⊥) → IsDistance S q p (suc k)
distance-near {S} {q} {p} {k} t e d h =
    distance-made S p q (suc k) (chain_more S k p q t e (distance-in d)) (λ j l.
    none_in (chains S j p q) (λ c m. let n = distance_least S p q j m in h n.0 (omega (arith, n.1)) n.2))

-- a step to a path that is not one step nearer begins none
pub distance-far : {S : Schema} {q p : Path} {k : ℕ} (u : Step) → IsDistance S q p (suc k) → is_step S p u ≡ true → (IsDistance S q (made S p u) k → ⊥) → chains S k (made S p u) q ≡ []
distance-far {S} {q} {p} {k} u d e h =
    none_in (chains S k (made S p u) q) (λ c m. h (distance-made S (made S p u) q k m (λ j i. chains-less S j p q u e (d.none_shorter (suc j) (omega arith)))))

-- ---- distances and equal paths

module _ (S : Schema) (starts : SameStarts S) where
  -- the theory's chain, step by step
  pub chain-numbers : (n : ℕ) {a b : List ℕ} (d : Chain (schema_of S) n a b) → (c : List Step) × Memᴰ c (chains S (chain_length d) (path n a) (path n b))
  chain-numbers n (same {p}) = ([], chain-here S (path n p))
  chain-numbers n (more {p} {q} {r} t d) =
      let u = each_step S starts (path n p) (path n q) refl t in
      let e = (stepped-some S (path n p) (path n q) u.0).0 u.1 in
      let c = chain-numbers n d in
      (u.0 ∷ c.0, chain_more S (chain_length d) (path n p) (path n r) u.0 e.0 (subst (λ (x : Path). Memᴰ c.0 (chains S (chain_length d) x (path n r))) (sym e.1) c.1))

  -- and back
  pub chains-chain : (k : ℕ) (p q : Path) {c : List Step} → Memᴰ c (chains S k p q) → (p.start ≡ q.start) × (d : Chain (schema_of S) p.start p.edges q.edges) × (chain_length d ≡ k)
  chains-chain zero p q m = subst (λ (x : Path). (p.start ≡ x.start) × (d : Chain (schema_of S) p.start p.edges x.edges) × (chain_length d ≡ 0)) (chain-nothing S p q m).0 (refl, same, refl)
  chains-chain (suc k) p q m =
      let l = chain-longer S k p q m in
      let r = chains-chain k (made S p l.step) q l.goes_on in
      (r.0, more (made-step S starts p l.step l.is-step) r.1, ap suc r.2)

module _ (S : Schema) (wf : WellFormed S) (p q : Path) where
  pub distance-exists : EqualPaths S p q → (k : ℕ) × IsDistance S q p k
  distance-exists h =
      let c = chain-numbers S (same-starts S wf.fits) p.start h.chain in
      let n = chain_length h.chain in
      let m : Memᴰ c.0 (chains S n p q) = subst (λ (s : ℕ). Memᴰ c.0 (chains S n p (path s q.edges))) h.starts c.1 in
      let l = distance_least S p q n m in
      (l.0, l.2)

  pub chains-equal : (k : ℕ) {c : List Step} → Memᴰ c (chains S k p q) → EqualPaths S p q
  chains-equal k m = let d = chains-chain S (same-starts S wf.fits) k p q m in record { starts = d.0; chain = d.1 }

  pub distance-equal : {k : ℕ} → IsDistance S q p k → EqualPaths S p q
  distance-equal {k} d = chains-equal k (distance-in d)

  pub no_chain : (EqualPaths S p q → ⊥) → first_chain S p q ≡ none
  no_chain h = ap lists.first (none_in (concat_map of_length (upto (path_count S.graph))) (λ c m. let a = concat_map-of of_length (upto (path_count S.graph)) m in h (chains-equal a.0 a.2)))
    where
      of_length : ℕ → List (List Step)
      of_length k = chains S k p q

-- ---- a distance is below the number of paths

module _ (S : Schema) (wf : WellFormed S) (q : Path) where
  -- a path at distance i from q, for each i up to p's
  along : (k : ℕ) (p : Path) → IsPath (schema_of S) p.start p.edges → IsDistance S q p k → (i : ℕ) → (r : Path) × (i ≤ k → IsPath (schema_of S) r.start r.edges × IsDistance S q r i)
  along zero p h d i = (p, λ l. let e : i ≡ 0 = omega arith in rw e (h, d))
  along (suc k) p h d i =
      let t = distance_next d in
      go (dec_lt k i) (along k (made S p t.0) (made-path S wf p t.0 h t.1) t.2 i)
    where
      go : Dec (k < i) → (r : Path) × (i ≤ k → IsPath (schema_of S) r.start r.edges × IsDistance S q r i) → (r : Path) × (i ≤ suc k → IsPath (schema_of S) r.start r.edges × IsDistance S q r i)
      go (yes a) b = (p, λ l. let e : i ≡ suc k = omega arith in rw e (h, d))
      go (no a) b = (b.0, λ l. b.1 (omega arith))

pub distance-few : (S : Schema) (wf : WellFormed S) (p q : Path) {k : ℕ} → IsPath (schema_of S) p.start p.edges → IsDistance S q p k → k < path_count S.graph
distance-few S wf p q {k} h d = go (dec_lt k (path_count S.graph))
  where
    at : ℕ → Path
    at i = (along S wf q k p h d i).0

    listed : (i : ℕ) → i ≤ k → Memᴰ (at i) (all_paths S.graph)
    listed i l = (all_paths-each S wf (at i)).1 ((along S wf q k p h d i).1 l).0

    -- no path is met twice
    once : (i j : ℕ) → i < j → j ≤ k → number_of S.graph (at i) ≡ number_of S.graph (at j) → ⊥
    once i j l b e =
        let r : at i ≡ at j = sym (number-path S.graph (listed i (omega arith))) ∙ ap (path_at S.graph) e ∙ number-path S.graph (listed j b) in
        let a : IsDistance S q (at j) i = subst (λ (x : Path). IsDistance S q x i) r ((along S wf q k p h d i).1 (omega arith)).1 in
        let n = distance-one a ((along S wf q k p h d j).1 b).1 in
        omega arith

    go : Dec (k < path_count S.graph) → k < path_count S.graph
    go (yes a) = a
    go (no a) =
        let r = repeated (path_count S.graph) (λ i. number_of S.graph (at i)) (λ i l. number_in S.graph (listed i (omega arith))) in
        absurd (once r.low r.high r.less (omega (arith, r.inside)) r.same)

-- so the first chain is among those of as many steps
pub distance-chain : (S : Schema) (wf : WellFormed S) (p q : Path) {k : ℕ} → IsPath (schema_of S) p.start p.edges → (d : IsDistance S q p k) → first_chain S p q ≡ lists.first (chains S k p q)
distance-chain S wf p q {k} h d =
    first-concat_map ◌<◌ (λ j. chains S j p q) (upto (path_count S.graph)) (sorted-upto (path_count S.graph)) (in-upto (path_count S.graph) k (distance-few S wf p q h d)) (λ j m l. d.none_shorter j l) d.first
    ∙ sym d.first
