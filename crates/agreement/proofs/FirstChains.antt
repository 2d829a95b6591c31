-- The first chain leads from one path to the other, is as short as any and the first of those, and is the only one of that kind; unequal paths have none.
use Prim.Native.Nat.{ℕ, zero, suc, ◌<◌, ◌≤◌}
use mathlib.Core.Path.{◌≡◌, refl, sym, ap, ◌∙◌, subst}
use mathlib.Core.Bool.{Bool, true, false, ◌&&◌}
use mathlib.Core.List.Memᴰ
use mathlib.Core.List.{List, [], ◌∷◌, ◌++◌, map, Memᴰ}
use mathlib.Core.Option.{Option, none, some, Option-elim, some-injective, none-ne-some}
use mathlib.Core.Logic.{◌⊎◌, inl, inr, ◌↔◌}
use native.Mathlib.Omega.{arith}
use native.Mathlib.Decide.{dec_lt}
use lib.ListN.{length}
use lib.Dec.{leb, ltb}
use borrow.Author.Tests.{leb-true, ltb-true}
use Rattle.theory.specs.Schema.{IsPath, Chain, chain_length, Lex}
use Rattle.theory.specs.Pi.{Sorted}
use Rattle.theory.proofs.Order.{lex-irreflexive, lex-asym, lex-compare, sorted-map}
use Rattle.meaning.specs.Lists as lists
use Rattle.meaning.specs.Lists.{upto, cons_if}
use Rattle.meaning.specs.Schema.{Path, path, identical, Schema}
use Rattle.meaning.specs.PathChain.{Step, is_numbered, stands_in, is_step, made, stepped, steps, chains, first_chain}
use Rattle.meaning.specs.Views.{schema_of}
use Rattle.meaning.proofs.Tabulate.{and_both}
use Rattle.meaning.proofs.Lists.{concat_map-of, sorted-concat_map}
use Rattle.agreement.specs.Paths.{EqualPaths, WellFormed, path_count}
use Rattle.agreement.specs.PathChains.{step_numbers, chain_numbers, StepBefore, led_to, ChainsAgree, IsFirstChain, IsDistance}
use Rattle.agreement.proofs.Paths.{same-starts, path-short}
use Rattle.agreement.proofs.Steps.{steps-sorted, stepped-some, made-path}
use Rattle.agreement.proofs.Distances.{first-in, chain-here, chain-nothing, chain_more, chain-longer, chain-numbers, chains-chain, chains-equal, distance-in, distance-exists, distance-few, distance-chain, no_chain}

-- ---- where the listed chains lead

module _ (S : Schema) where
  led-more : (p : Path) (t : Step) (c : List Step) → is_step S p t ≡ true → led_to S p (t ∷ c) ≡ led_to S (made S p t) c
  unfolding Option-elim
  led-more p t c e = ap (λ (x : Option Path). Option-elim x none (λ q. led_to S q c)) ((stepped-some S p (made S p t) t).1 (e, refl))

  -- a listed chain leads to q
  in-led : (k : ℕ) (p q : Path) {c : List Step} → Memᴰ c (chains S k p q) → (led_to S p c ≡ some q) × (length c ≡ k)
  in-led zero p q m = let e = chain-nothing S p q m in rw (e.0, e.1) (refl, refl)
  in-led (suc k) p q m =
      let l = chain-longer S k p q m in
      let r = in-led k (made S p l.step) q l.goes_on in
      subst (λ (x : List Step). (led_to S p x ≡ some q) × (length x ≡ suc k)) l.whole (led-more p l.step l.others l.is-step ∙ r.0, ap suc r.1)

  -- and each that leads to q is listed
  led-in : (p q : Path) (c : List Step) → led_to S p c ≡ some q → Memᴰ c (chains S (length c) p q)
  unfolding Option-elim
  led-in p q [] e = rw (some-injective p q e) (chain-here S q)
  led-in p q (t ∷ c) e = go (stepped S p t) refl e (λ r. led-in r q c)
    where
      go : (x : Option Path) → stepped S p t ≡ x → Option-elim x none (λ r. led_to S r c) ≡ some q → ((r : Path) → led_to S r c ≡ some q → Memᴰ c (chains S (length c) r q))
          → Memᴰ (t ∷ c) (chains S (suc (length c)) p q)
      go none s f below = absurd (none-ne-some q f)
      go (some r) s f below = let u = (stepped-some S p r t).0 s in chain_more S (length c) p q t u.0 (subst (λ (x : Path). Memᴰ c (chains S (length c) x q)) (sym u.1) (below r f))

-- ---- the order of chains

lex-append : (l m x y : List ℕ) → Lex l m → Lex (l ++ x) (m ++ y)
lex-append l [] x y h = absurd h
lex-append [] (b ∷ m) x y h = absurd h
lex-append (a ∷ l) (b ∷ m) x y (inl h) = inl h
lex-append (a ∷ l) (b ∷ m) x y (inr h) = inr (h.0, lex-append l m x y h.1)

abbrev ChainBefore : List Step → List Step → Type 0
ChainBefore c d = Lex (chain_numbers c) (chain_numbers d)

chains-sorted : (S : Schema) (k : ℕ) (p q : Path) → Sorted ChainBefore (chains S k p q)
chains-sorted S zero p q = go (identical p q)
  where
    go : (t : Bool) → Sorted ChainBefore (cons_if t [] [])
    go true = (λ y m. absurd (Memᴰ.not-nil m), tt)
    go false = tt
chains-sorted S (suc k) p q =
    sorted-concat_map StepBefore ChainBefore (λ t. map (λ c. t ∷ c) (chains S k (made S p t) q))
    (λ t. sorted-map ChainBefore ChainBefore (λ c. t ∷ c) (chains S k (made S p t) q) (λ c i d j h. inr (refl, inr (refl, inr (refl, h)))) (chains-sorted S k (made S p t) q))
    (λ t u h a i b j.
    let x = Memᴰ.of_map (λ (c : List Step). t ∷ c) (chains S k (made S p t) q) i in
    let y = Memᴰ.of_map (λ (c : List Step). u ∷ c) (chains S k (made S p u) q) j in
    rw (← x.2, ← y.2) (lex-append (step_numbers t) (step_numbers u) (chain_numbers x.0) (chain_numbers y.0) h))
    (steps S p) (steps-sorted S p)

pub chains_agree : (S : Schema) → ChainsAgree S
chains_agree S = record {
  listed = λ k p q c. (in-led S k p q, λ h. subst (λ (j : ℕ). Memᴰ c (chains S j p q)) h.1 (led-in S p q c h.0));
  in_order = chains-sorted S;
}

first-least : (l : List (List Step)) {c d : List Step} → Sorted ChainBefore l → lists.first l ≡ some c → Memᴰ d l → ChainBefore d c → ⊥
first-least [] s e m h = Memᴰ.not-nil m
first-least (b ∷ l) {c} {d} s e m h = go (some-injective b c e) (Memᴰ.cases_cons m)
  where
    go : b ≡ c → (d ≡ b) ⊎ Memᴰ d l → ⊥
    go q (inl r) = lex-irreflexive (chain_numbers c) (subst (λ (x : List Step). ChainBefore x c) (r ∙ q) h)
    go q (inr k) = lex-asym (chain_numbers d) (chain_numbers c) h (subst (λ (x : List Step). ChainBefore x d) q (s.0 d k))

-- chains of one length compare, and their numbers tell them apart
numbers-length : (c d : List Step) → length c ≡ length d → length (chain_numbers c) ≡ length (chain_numbers d)
numbers-length [] [] e = refl
numbers-length [] (u ∷ d) e = absurd (omega arith)
numbers-length (t ∷ c) [] e = absurd (omega arith)
numbers-length (t ∷ c) (u ∷ d) e = let h = numbers-length c d (omega arith) in omega arith

numbers-one : (c d : List Step) → chain_numbers c ≡ chain_numbers d → c ≡ d
numbers-one [] [] e = refl
numbers-one [] (u ∷ d) e = cc
numbers-one (t ∷ c) [] e = cc
numbers-one (t ∷ c) (u ∷ d) e =
    let a : t.equation ≡ u.equation = cc in
    let b : t.direction ≡ u.direction = cc in
    let g : t.before ≡ u.before = cc in
    let h : chain_numbers c ≡ chain_numbers d = cc in
    let r = numbers-one c d h in
    λ i. record { equation = a i; direction = b i; before = g i } ∷ r i

-- ---- the first chain

module _ (S : Schema) (wf : WellFormed S) (p q : Path) where
  -- no chain of the theory is shorter than a distance
  distance-shortest : {k : ℕ} → IsDistance S q p k → (d : Chain (schema_of S) p.start p.edges q.edges) → k ≤ chain_length d
  distance-shortest {k} h d = go (dec_lt n k)
    where
      n : ℕ
      n = chain_length d

      listed : (c : List Step) × Memᴰ c (chains S n p q)
      listed =
          let c = chain-numbers S (same-starts S wf.fits) p.start d in
          (c.0, subst (λ (s : ℕ). Memᴰ c.0 (chains S n p (path s q.edges))) (chains-equal S wf p q k (distance-in h)).starts c.1)

      go : Dec (n < k) → k ≤ n
      go (yes a) = absurd (Memᴰ.not-nil (subst (Memᴰ listed.0) (h.none_shorter n a) listed.1))
      go (no a) = omega arith

  -- the first chain has as many steps as q is away
  first-away : (c : List Step) → IsPath (schema_of S) p.start p.edges → first_chain S p q ≡ some c → (k : ℕ) × IsDistance S q p k × (lists.first (chains S k p q) ≡ some c)
  first-away c h e =
      let a = concat_map-of (λ k. chains S k p q) (upto (path_count S.graph)) (first-in (lists.concat_map (λ k. chains S k p q) (upto (path_count S.graph))) e) in
      let d = distance-exists S wf p q (chains-equal S wf p q a.0 a.2) in
      (d.0, d.1, sym (distance-chain S wf p q h d.1) ∙ e)

  pub first-chain : (c : List Step) → IsPath (schema_of S) p.start p.edges → path_count S.graph ≤ 256 → first_chain S p q ≡ some c → IsFirstChain S p q c
  first-chain c h few e =
      let a = first-away c h e in
      let k = a.0 in
      let r = in-led S k p q (first-in (chains S k p q) a.2) in
      let n = r.1 in
      record {
        leads = r.0;
        shortest = λ d. let l = distance-shortest a.1 d in omega arith;
        first = λ d f s b. first-least (chains S k p q) (chains-sorted S k p q) a.2 (subst (λ (j : ℕ). Memᴰ d (chains S j p q)) (s ∙ n) (led-in S p q d f)) b;
        few = let l = distance-few S wf p q h a.1 in omega arith;
      }

  pub chain-some : IsPath (schema_of S) p.start p.edges → EqualPaths S p q → (c : List Step) × (first_chain S p q ≡ some c)
  chain-some h r = let d = distance-exists S wf p q r in (d.1.chain, distance-chain S wf p q h d.1 ∙ d.1.first)

  pub chain-none-iff : IsPath (schema_of S) p.start p.edges → (first_chain S p q ≡ none) ↔ (EqualPaths S p q → ⊥)
  chain-none-iff h = (λ e r. let c = chain-some h r in none-ne-some c.0 (sym e ∙ c.1), no_chain S wf p q)

-- there is one such chain
pub first-chain-one : (S : Schema) (wf : WellFormed S) {p q : Path} {c d : List Step} → IsFirstChain S p q c → IsFirstChain S p q d → c ≡ d
first-chain-one S wf {p} {q} {c} {d} f g = go (lex-compare (chain_numbers c) (chain_numbers d) (numbers-length c d size))
  where
    -- a chain of steps is one of the theory, which the other is no longer than
    at_most : (x y : List Step) → IsFirstChain S p q x → led_to S p y ≡ some q → length x ≤ length y
    at_most x y h e = let t = chains-chain S (same-starts S wf.fits) (length y) p q (led-in S p q y e) in let l = h.shortest t.1 in let n = t.2 in omega arith

    size : length c ≡ length d
    size = let a = at_most c d f g.leads in let b = at_most d c g f.leads in omega arith

    go : (chain_numbers c ≡ chain_numbers d) ⊎ (ChainBefore c d ⊎ ChainBefore d c) → c ≡ d
    go (inl e) = numbers-one c d e
    go (inr (inl l)) = absurd (g.first c f.leads size l)
    go (inr (inr l)) = absurd (f.first d g.leads (sym size) l)

-- ---- the numbers in a chain

-- those of a step of p
step_fits : (S : Schema) (p : Path) (t : Step) → is_step S p t ≡ true → (t.equation < length S.equations) × (t.direction < 2) × (t.before ≤ length p.edges)
step_fits S p t e =
    let n = length S.equations in
    let m = length p.edges in
    let a = and_both (is_numbered S p t) (stands_in S p t) e in
    let b = and_both (ltb t.equation n && ltb t.direction 2) (leb t.before m) a.0 in
    let c = and_both (ltb t.equation n) (ltb t.direction 2) b.0 in
    (ltb-true t.equation n c.0, ltb-true t.direction 2 c.1, leb-true t.before m b.1)

module _ (S : Schema) (wf : WellFormed S) where
  abbrev Fits : Step → Type 0
  Fits t = (t.equation < length S.equations) × (t.direction < 2) × (t.before < S.graph.nodes)

  chain_fits : (k : ℕ) (p q : Path) (c : List Step) → IsPath (schema_of S) p.start p.edges → Memᴰ c (chains S k p q) → (t : Step) → Memᴰ t c → Fits t
  chain_fits zero p q c h m t i = absurd (Memᴰ.not-nil (subst (Memᴰ t) (chain-nothing S p q m).1 i))
  chain_fits (suc k) p q c h m t i =
      let l = chain-longer S k p q m in
      go l.step l.is-step (chain_fits k (made S p l.step) q l.others (made-path S wf p l.step h l.is-step) l.goes_on t) (Memᴰ.cases_cons (subst (Memᴰ t) (sym l.whole) i))
    where
      go : (u : Step) {x : List Step} → is_step S p u ≡ true → (Memᴰ t x → Fits t) → (t ≡ u) ⊎ Memᴰ t x → Fits t
      go u e below (inl r) =
          let f = step_fits S p t (rw r e) in
          let s = path-short S wf p.start p.edges h in
          let b = f.2 in
          (f.0, f.1, omega arith)
      go u e below (inr j) = below j

  pub first-chain-fits : (p q : Path) (c : List Step) → IsPath (schema_of S) p.start p.edges → length S.equations ≤ 32 → S.graph.nodes ≤ 16 → first_chain S p q ≡ some c
      → (t : Step) → Memᴰ t c → (t.equation < 32) × (t.direction < 2) × (t.before < 16)
  first-chain-fits p q c h equations nodes e t i =
      let a = first-away S wf p q c h e in
      let f = chain_fits a.0 p q c h (first-in (chains S a.0 p q) a.2) t i in
      let x = f.0 in
      let y = f.2 in
      (omega arith, f.1, omega arith)
