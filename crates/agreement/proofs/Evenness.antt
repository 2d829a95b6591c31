-- The test of evenness (refusal 12) decides the theory's evenness; the lists of lifts and of attributes over one hold exactly those.
use Prim.Native.Nat.{ℕ, ◌<◌}
use mathlib.Core.Path.{◌≡◌, refl, sym, ap, ◌∙◌, subst}
use mathlib.Core.Bool.{Bool, true}
use mathlib.Core.List.Memᴰ
use mathlib.Core.List.{List, [], ◌∷◌, Memᴰ}
use mathlib.Core.Logic.{◌↔◌, ◌⊎◌, inl, inr}
use native.Mathlib.Omega.{arith}
use lib.ListN.{length}
use lib.Dec.{eqb}
use borrow.Author.Tests.{eqb-true, eq-eqb}
use Rattle.theory.specs.Schema.{IsPath, Chain}
use Rattle.theory.specs.Mapping.{image, IsLift, IsAttributeOver, Even}
use Rattle.theory.specs.Pi.{Sorted}
use Rattle.theory.proofs.Schema.{chain-trans, chain-sym, chain-path}
use Rattle.theory.proofs.Mapping.{image-path, image-chain}
use Rattle.meaning.specs.Lists.{upto, all, head_or}
use Rattle.meaning.specs.Schema.{Path, path, Schema, attribute_at}
use Rattle.meaning.specs.Category.{Category, equal}
use Rattle.meaning.specs.Formats.{Mapping}
use Rattle.meaning.specs.Views.{schema_of, node_image, edge_image, attribute_image, path_image, mapping_of}
use Rattle.meaning.specs.Evenness.{lifts, one_class, attributes_at, attributes_over, even_at, even}
use Rattle.meaning.specs.Sigma.{lift, attribute_over}
use Rattle.meaning.proofs.Tabulate.{and_both}
use Rattle.meaning.proofs.Lists.{no_bool, and_intro, filter-in, filter-of, all_in, all_of, in-upto, of-upto, all-upto, upto_all, sorted_filter, sorted-upto}
use Rattle.agreement.proofs.Paths.{identical-iff}
use Rattle.agreement.proofs.Categories.{first-same, equal-iff}
use Rattle.agreement.specs.Valid.{ValidMapping}

-- ---- lists

head_or-in : {A : Type 0} (d : A) (l : List A) {x : A} → Memᴰ x l → Memᴰ (head_or d l) l
head_or-in d [] m = absurd (Memᴰ.not-nil m)
head_or-in d (x ∷ l) m = Memᴰ.head refl

-- an ascending list of one number has length 1, and the other way round
one-length : (l : List ℕ) → Sorted ◌<◌ l → {x : ℕ} → Memᴰ x l → ((a b : ℕ) → Memᴰ a l → Memᴰ b l → a ≡ b) → length l ≡ 1
one-length [] s m h = absurd (Memᴰ.not-nil m)
one-length (a ∷ []) s m h = refl
one-length (a ∷ b ∷ l) s m h =
    let k : a < b = s.0 b (Memᴰ.head refl) in
    let e = h a b (Memᴰ.head refl) (Memᴰ.tail (Memᴰ.head refl)) in
    absurd (omega arith)

length_some : (l : List ℕ) → length l ≡ 1 → (a : ℕ) × Memᴰ a l
length_some [] e = absurd (omega arith)
length_some (a ∷ l) e = (a, Memᴰ.head refl)

length-one : (l : List ℕ) → length l ≡ 1 → (a b : ℕ) → Memᴰ a l → Memᴰ b l → a ≡ b
length-one [] e a b i j = absurd (omega arith)
length-one (x ∷ []) e a b i j = go (Memᴰ.cases_cons i) ∙ sym (go (Memᴰ.cases_cons j))
  where
    go : {c : ℕ} → (c ≡ x) ⊎ Memᴰ c [] → c ≡ x
    go (inl q) = q
    go (inr m) = absurd (Memᴰ.not-nil m)
length-one (x ∷ y ∷ l) e a b i j = absurd (omega arith)

-- ---- one class

module _ (S : Category) where
  pub one_class-some : (l : List Path) → one_class S l ≡ true → (p : Path) × Memᴰ p l
  one_class-some [] e = absurd (no_bool (sym e))
  one_class-some (p ∷ l) e = (p, Memᴰ.head refl)

  pub one_class-same : (l : List Path) → one_class S l ≡ true → (p q : Path) → Memᴰ p l → Memᴰ q l → S.first_path p ≡ S.first_path q
  one_class-same [] e p q i j = absurd (Memᴰ.not-nil i)
  one_class-same (r ∷ l) e p q i j = sym (go p (Memᴰ.cases_cons i)) ∙ go q (Memᴰ.cases_cons j)
    where
      go : (p : Path) → (p ≡ r) ⊎ Memᴰ p l → S.first_path r ≡ S.first_path p
      go p (inl h) = ap S.first_path (sym h)
      go p (inr m) = (identical-iff (S.first_path r) (S.first_path p)).0 (all_of (equal S r) l e m)

  pub same-one_class : (l : List Path) {p : Path} → Memᴰ p l → ((p q : Path) → Memᴰ p l → Memᴰ q l → S.first_path p ≡ S.first_path q) → one_class S l ≡ true
  same-one_class [] m h = absurd (Memᴰ.not-nil m)
  same-one_class (r ∷ l) m h = all_in (equal S r) l (λ q j. (identical-iff (S.first_path r) (S.first_path q)).1 (h r q (Memᴰ.head refl) (Memᴰ.tail j)))

-- ---- attributes

-- the attributes at a node, ascending
module _ (S : Schema) where
  attributes_at-each : (c a : ℕ) → Memᴰ a (attributes_at S c) ↔ ((a < length S.attributes) × ((attribute_at S a).node ≡ c))
  attributes_at-each c a = (
    λ m. let t = filter-of at (upto (length S.attributes)) m in (of-upto (length S.attributes) t.0, eqb-true (attribute_at S a).node c t.1),
    λ h. filter-in at (upto (length S.attributes)) (in-upto (length S.attributes) a h.0) (eq-eqb (attribute_at S a).node c h.1),
  )
    where
      at : ℕ → Bool
      at a = eqb (attribute_at S a).node c

module _ (S T : Schema) (F : Mapping) where
  -- the attributes at c over b
  pub attributes_over-each : (c b a : ℕ) → Memᴰ a (attributes_over S F c b) ↔ IsAttributeOver (mapping_of S T F) c b a
  attributes_over-each c b a = (
    λ m.
        let t = filter-of over (attributes_at S c) m in
        let u = (attributes_at-each S c a).0 t.0 in
        record { attribute-in = u.0; home_is = u.1; image_is = eqb-true (attribute_image F a) b t.1 },
    λ o. filter-in over (attributes_at S c) ((attributes_at-each S c a).1 (o.attribute-in, o.home_is)) (eq-eqb (attribute_image F a) b o.image_is),
  )
    where
      over : ℕ → Bool
      over a = eqb (attribute_image F a) b

  attributes_over-sorted : (c b : ℕ) → Sorted ◌<◌ (attributes_over S F c b)
  attributes_over-sorted c b =
      sorted_filter ◌<◌ (λ a. eqb (attribute_image F a) b) (attributes_at S c)
      (sorted_filter ◌<◌ (λ a. eqb (attribute_at S a).node c) (upto (length S.attributes)) (sorted-upto (length S.attributes)))

-- ---- lifts

module _ {S T : Category} {F : Mapping} (v : ValidMapping S T F) where
  -- the listed lifts of q at c
  pub lifts-each : (c : ℕ) → c < S.schema.graph.nodes → (q : List ℕ) → IsPath (schema_of T.schema) (node_image F c) q
      → (p : Path) → Memᴰ p (lifts S T F c (path (node_image F c) q)) ↔ (Memᴰ p (S.paths_from c) × (p.start ≡ c) × IsLift (mapping_of S.schema T.schema F) c q p.edges)
  lifts-each c h q j p = (to, back)
    where
      over : Path → Bool
      over p = equal T (path_image F p) (path (node_image F c) q)

      to : Memᴰ p (lifts S T F c (path (node_image F c) q)) → Memᴰ p (S.paths_from c) × (p.start ≡ c) × IsLift (mapping_of S.schema T.schema F) c q p.edges
      to m =
          let u = filter-of over (S.paths_from c) m in
          let k = v.s_is.from_path c h p u.0 in
          let e : equal T (path (node_image F c) (image (edge_image F) p.edges)) (path (node_image F c) q) ≡ true = rw k.0 at u.1 in
          (u.0, k.0, record { path = k.1; image_is = (equal-iff v.t_is (node_image F c) (image (edge_image F) p.edges) q (image-path v.is c p.edges k.1) j).0 e })

      back : Memᴰ p (S.paths_from c) × (p.start ≡ c) × IsLift (mapping_of S.schema T.schema F) c q p.edges → Memᴰ p (lifts S T F c (path (node_image F c) q))
      back o =
          filter-in over (S.paths_from c) o.0
          (rw o.1 ((equal-iff v.t_is (node_image F c) (image (edge_image F) p.edges) q (image-path v.is c p.edges o.2.path) j).1 o.2.image_is))

  -- each lift equals a listed one
  listed-lift : (c : ℕ) → c < S.schema.graph.nodes → (q : List ℕ) → IsPath (schema_of T.schema) (node_image F c) q
      → (p : List ℕ) → IsLift (mapping_of S.schema T.schema F) c q p → (g : List ℕ) × Memᴰ (path c g) (lifts S T F c (path (node_image F c) q)) × Chain (schema_of S.schema) c p g
  listed-lift c h q j p o =
      let w = v.s_is.first (path c p) o.path in
      let g = (S.first_path (path c p)).edges in
      let k = chain-path v.is.s_is c w.equal.chain o.path in
      (g, (lifts-each c h q j (path c g)).1 (v.s_is.listed c h g w.first, refl, record { path = k.0; image_is = chain-trans (chain-sym (image-chain v.is c w.equal.chain o.path)) o.image_is }), w.equal.chain)

  -- each path of T from F(c) equals a listed one
  listed-path : (c : ℕ) → c < S.schema.graph.nodes → (q : List ℕ) → IsPath (schema_of T.schema) (node_image F c) q
      → (g : List ℕ) × Memᴰ (path (node_image F c) g) (T.paths_from (node_image F c)) × Chain (schema_of T.schema) (node_image F c) q g
  listed-path c h q j =
      let w = v.t_is.first (path (node_image F c) q) j in
      let g = (T.first_path (path (node_image F c) q)).edges in
      (g, v.t_is.listed (node_image F c) (v.is.node_in c h) g w.first, w.equal.chain)

  lift-chain : {c : ℕ} {q r p : List ℕ} → IsLift (mapping_of S.schema T.schema F) c q p → Chain (schema_of T.schema) (node_image F c) q r → IsLift (mapping_of S.schema T.schema F) c r p
  lift-chain o r = record { path = o.path; image_is = chain-trans o.image_is r }

  class-chain : (c : ℕ) (p q : List ℕ) → IsPath (schema_of S.schema) c p → IsPath (schema_of S.schema) c q → S.first_path (path c p) ≡ S.first_path (path c q) → Chain (schema_of S.schema) c p q
  class-chain c p q h k e = (equal-iff v.s_is c p q h k).0 ((identical-iff (S.first_path (path c p)) (S.first_path (path c q))).1 e)

  lifts-one_class : Even (mapping_of S.schema T.schema F) → (c : ℕ) → c < S.schema.graph.nodes → (q : List ℕ) → IsPath (schema_of T.schema) (node_image F c) q → one_class S (lifts S T F c (path (node_image F c) q)) ≡ true
  lifts-one_class E c h q j =
      let u = E.lift c h q j in
      same-one_class S (lifts S T F c (path (node_image F c) q)) (listed-lift c h q j u.0 u.1).1 (λ p r m n.
      let a = (lifts-each c h q j p).0 m in
      let b = (lifts-each c h q j r).0 n in
      let e = E.lift_one c h q p.edges r.edges a.2 b.2 in
      let k = first-same v.s_is (path c p.edges) (path c r.edges) a.2.path b.2.path (record { starts = refl; chain = e }) in
      ap (λ (n : ℕ). S.first_path (path n p.edges)) a.1 ∙ k ∙ ap (λ (n : ℕ). S.first_path (path n r.edges)) (sym b.1))

  even-test : Even (mapping_of S.schema T.schema F) → even S T F ≡ true
  even-test E = all-upto (even_at S T F) S.schema.graph.nodes (λ c h. and_intro
      (all_in (λ (q : Path). one_class S (lifts S T F c q)) (T.paths_from (node_image F c)) (λ q m.
      let k = v.t_is.from_path (node_image F c) (v.is.node_in c h) q m in
      subst (λ (n : ℕ). one_class S (lifts S T F c (path n q.edges)) ≡ true) (sym k.0) (lifts-one_class E c h q.edges k.1)))
      (all_in (λ (b : ℕ). eqb (length (attributes_over S.schema F c b)) 1) (attributes_at T.schema (node_image F c)) (λ b m.
      let k = (attributes_at-each T.schema (node_image F c) b).0 m in
      let u = E.attribute c h b k.0 k.1 in
      eq-eqb (length (attributes_over S.schema F c b)) 1 (one-length (attributes_over S.schema F c b) (attributes_over-sorted S.schema T.schema F c b) ((attributes_over-each S.schema T.schema F c b u.0).1 u.1) (λ a d x y.
      E.attribute_one c h b a d ((attributes_over-each S.schema T.schema F c b a).0 x) ((attributes_over-each S.schema T.schema F c b d).0 y))))))

  module _ (e : even S T F ≡ true) where
    parts : (c : ℕ) → c < S.schema.graph.nodes
        → (all (λ q. one_class S (lifts S T F c q)) (T.paths_from (node_image F c)) ≡ true) × (all (λ b. eqb (length (attributes_over S.schema F c b)) 1) (attributes_at T.schema (node_image F c)) ≡ true)
    parts c h = and_both _ _ (upto_all (even_at S T F) S.schema.graph.nodes e c h)

    lifts-one : (c : ℕ) → c < S.schema.graph.nodes → (g : List ℕ) → Memᴰ (path (node_image F c) g) (T.paths_from (node_image F c)) → one_class S (lifts S T F c (path (node_image F c) g)) ≡ true
    lifts-one c h g m = all_of (λ (q : Path). one_class S (lifts S T F c q)) (T.paths_from (node_image F c)) (parts c h).0 m

    some-lift : (c : ℕ) → c < S.schema.graph.nodes → (q : List ℕ) → IsPath (schema_of T.schema) (node_image F c) q → (p : List ℕ) × IsLift (mapping_of S.schema T.schema F) c q p
    some-lift c h q j =
        let w = listed-path c h q j in
        let i = (chain-path v.is.t_is (node_image F c) w.2 j).0 in
        let k = one_class-some S (lifts S T F c (path (node_image F c) w.0)) (lifts-one c h w.0 w.1) in
        (k.0.edges, lift-chain ((lifts-each c h w.0 i k.0).0 k.1).2 (chain-sym w.2))

    one-lift : (c : ℕ) → c < S.schema.graph.nodes → (q p r : List ℕ) → IsLift (mapping_of S.schema T.schema F) c q p → IsLift (mapping_of S.schema T.schema F) c q r → Chain (schema_of S.schema) c p r
    one-lift c h q p r o u =
        let j = (chain-path v.is.t_is (node_image F c) o.image_is (image-path v.is c p o.path)).0 in
        let w = listed-path c h q j in
        let i = (chain-path v.is.t_is (node_image F c) w.2 j).0 in
        let a = listed-lift c h w.0 i p (lift-chain o w.2) in
        let b = listed-lift c h w.0 i r (lift-chain u w.2) in
        let x = ((lifts-each c h w.0 i (path c a.0)).0 a.1).2.path in
        let y = ((lifts-each c h w.0 i (path c b.0)).0 b.1).2.path in
        let e = one_class-same S (lifts S T F c (path (node_image F c) w.0)) (lifts-one c h w.0 w.1) (path c a.0) (path c b.0) a.1 b.1 in
        chain-trans a.2 (chain-trans (class-chain c a.0 b.0 x y e) (chain-sym b.2))

    attributes-one : (c : ℕ) → c < S.schema.graph.nodes → (b : ℕ) → b < length T.schema.attributes → (attribute_at T.schema b).node ≡ node_image F c → length (attributes_over S.schema F c b) ≡ 1
    attributes-one c h b i g =
        eqb-true (length (attributes_over S.schema F c b)) 1
        (all_of (λ (b : ℕ). eqb (length (attributes_over S.schema F c b)) 1) (attributes_at T.schema (node_image F c)) (parts c h).1 ((attributes_at-each T.schema (node_image F c) b).1 (i, g)))

    even_is : Even (mapping_of S.schema T.schema F)
    even_is = record {
      lift = some-lift;
      lift_one = one-lift;
      attribute = λ c h b i g.
          let k = length_some (attributes_over S.schema F c b) (attributes-one c h b i g) in
          (k.0, (attributes_over-each S.schema T.schema F c b k.0).0 k.1);
      attribute_one = λ c h b a k x y.
          let i : b < length T.schema.attributes = rw x.image_is at (v.is.attribute-in a x.attribute-in) in
          let g : (attribute_at T.schema b).node ≡ node_image F c = rw (x.image_is, x.home_is) at (v.is.attribute_home a x.attribute-in) in
          length-one (attributes_over S.schema F c b) (attributes-one c h b i g) a k ((attributes_over-each S.schema T.schema F c b a).1 x) ((attributes_over-each S.schema T.schema F c b k).1 y);
    }

  -- the test decides evenness
  pub even-iff : (even S T F ≡ true) ↔ Even (mapping_of S.schema T.schema F)
  even-iff = (even_is, even-test)

  -- ---- what Sigma takes of an even mapping

  module _ (E : Even (mapping_of S.schema T.schema F)) where
    -- the path over an edge is a lift of it
    pub lift-is : (c : ℕ) → c < S.schema.graph.nodes → (e : ℕ) → IsPath (schema_of T.schema) (node_image F c) (e ∷ []) → ((lift S T F c e).start ≡ c) × IsLift (mapping_of S.schema T.schema F) c (e ∷ []) (lift S T F c e).edges
    lift-is c h e j =
        let u = E.lift c h (e ∷ []) j in
        let k = (lifts-each c h (e ∷ []) j (lift S T F c e)).0 (head_or-in (path c []) (lifts S T F c (path (node_image F c) (e ∷ []))) (listed-lift c h (e ∷ []) j u.0 u.1).1) in
        (k.1, k.2)

    pub attribute_over-is : (c : ℕ) → c < S.schema.graph.nodes → (b : ℕ) → b < length T.schema.attributes → (attribute_at T.schema b).node ≡ node_image F c → IsAttributeOver (mapping_of S.schema T.schema F) c b (attribute_over S.schema F c b)
    attribute_over-is c h b i g =
        let u = E.attribute c h b i g in
        (attributes_over-each S.schema T.schema F c b (attribute_over S.schema F c b)).0 (head_or-in 0 (attributes_over S.schema F c b) ((attributes_over-each S.schema T.schema F c b u.0).1 u.1))
