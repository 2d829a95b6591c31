-- Mappings whose sheets are accepted: each is given by its images; the composite of two is one and the identity is one, with the theory's images; Delta along
-- the composite is Delta along G and then F; composing is associative, and the identity is its unit.
use Prim.Native.Nat.{ℕ, zero, suc, ◌<◌, ◌≤◌}
use mathlib.Core.Path.{◌≡◌, sym, ap, ◌∙◌}
use mathlib.Core.List.{List, [], ◌∷◌, map}
use native.Mathlib.Omega.{arith}
use lib.ListN.{length, get_or, length-map}
use lib.Seq.{ext_get_or}
use Rattle.bits.specs.Field.{Bytes}
use Rattle.theory.specs.Mapping.{IsMapping, Even, image}
use Rattle.theory.specs.Composition as theory_composition
use Rattle.theory.specs.Composition.{SameImages}
use Rattle.theory.proofs.Instance.{alike-sym, alike-trans}
use Rattle.theory.proofs.Mapping.{delta-is}
use Rattle.theory.proofs.Composition.{identity-is, composite-is, composite-even, delta_composite, delta-of-alike, delta-same, same-sym, mapping-same, even-same, same-trans, composite-left, composite-right, composite-associative, composite-identity-first, composite-identity-last}
use Rattle.meaning.specs.Lists.{upto}
use Rattle.meaning.specs.Schema.{Schema, source}
use Rattle.meaning.specs.Category.{listed_category}
use Rattle.meaning.specs.Sheet.{sound}
use Rattle.meaning.specs.Formats.{Mapping, Instance, max_mapping_bytes, mapping_sheet}
use Rattle.meaning.specs.Views.{schema_of, node_image, edge_image, attribute_image, mapping_of, instance_of}
use Rattle.meaning.specs.Judge.{judge_schema, judge_mapping}
use Rattle.meaning.specs.Delta.{delta}
use Rattle.meaning.specs.Composition.{composite, identity}
use Rattle.meaning.proofs.Lists.{upto-length, upto-get_or, get_d_map, everywhere}
use Rattle.meaning.proofs.Facts.{SchemaFacts, schema-facts, FitsSheet, mapping-sheet-fits, mapping-read}
use Rattle.meaning.proofs.MappingSheets.{mapping-sheet-judged, mapping-judged-sheet, mapping-sheet-within}
use Rattle.agreement.specs.Paths.{WellFormed}
use Rattle.agreement.specs.Categories.{IsCategory}
use Rattle.agreement.specs.Valid.{ValidMapping, ValidInstance}
use Rattle.agreement.proofs.Paths.{schema_is, path-short}
use Rattle.agreement.proofs.Categories.{schema-well-formed, listed-category}
use Rattle.agreement.proofs.Sheets.{alike_same}
use Rattle.agreement.proofs.Mappings.{mapping-iff}
use Rattle.agreement.proofs.Valid.{mapping-valid}
use Rattle.agreement.proofs.Joined.{map-upto-length, map-upto-get_or}
use Rattle.agreement.proofs.Delta.{delta-alike, delta-shaped}
use Rattle.agreement.proofs.AcceptedSheets.{edge_below}

-- ---- a mapping that is accepted when its sheet is lent

pub record LendableMapping (S T : Schema) (F : Mapping) : Type 0 where
  pub valid : ValidMapping (listed_category S) (listed_category T) F
  pub fits : FitsSheet S F

pub mapping-lendable : (s t f : List ℕ) {S T : Schema} {F : Mapping} → judge_schema s ≡ sound S → judge_schema t ≡ sound T
    → judge_mapping (listed_category S) (listed_category T) f ≡ sound F → LendableMapping S T F
mapping-lendable s t f {S} {T} a b c = record { valid = mapping-valid s t f a b c; fits = mapping-sheet-fits S f (mapping-read (listed_category S) (listed_category T) f c) }

pub mapping-lent-again : {S T : Schema} {F : Mapping} → LendableMapping S T F → judge_mapping (listed_category S) (listed_category T) (mapping_sheet F) ≡ sound F
mapping-lent-again {S} {T} {F} m =
    let v = m.valid in
    let t = (mapping-iff (listed_category S) (listed_category T) F v.s_is v.t_is m.fits.nodes).1 v.is in
    mapping-sheet-judged (listed_category S) (listed_category T) m.fits t.0 t.1

-- ---- it is given by its images

pub parts_same : {c d : List ℕ} {l m : List (List ℕ)} {a b : List ℕ} → c ≡ d → l ≡ m → a ≡ b
    → ◌≡◌ {A = Mapping} (record { nodes = c; edges = l; attributes = a }) (record { nodes = d; edges = m; attributes = b })
parts_same p q r = cc

pub images-one : (S T : Schema) {F G : Mapping} → FitsSheet S F → FitsSheet S G → SameImages (mapping_of S T F) (mapping_of S T G) → F ≡ G
images-one S T {F} {G} f g k = parts_same
    (ext_get_or 0 F.nodes G.nodes (f.nodes ∙ sym g.nodes) (λ c h. k.node c (rw f.nodes at h)))
    (ext_get_or [] F.edges G.edges (f.edges ∙ sym g.edges) (λ e h. k.edge e (rw f.edges at h)))
    (ext_get_or 0 F.attributes G.attributes (f.attributes ∙ sym g.attributes) (λ a h. k.attribute a (rw f.attributes at h)))

pub mapping_one : {S T : Schema} {F G : Mapping} (f g : List ℕ) → Bytes f → Bytes g → judge_mapping (listed_category S) (listed_category T) f ≡ sound F
    → judge_mapping (listed_category S) (listed_category T) g ≡ sound G → SameImages (mapping_of S T F) (mapping_of S T G) → f ≡ g
mapping_one {S} {T} {F} {G} f g bf bg a b k =
    let s = listed_category S in
    let t = listed_category T in
    mapping-judged-sheet s t f bf a
    ∙ ap mapping_sheet (images-one S T (mapping-sheet-fits S f (mapping-read s t f a)) (mapping-sheet-fits S g (mapping-read s t g b)) k)
    ∙ sym (mapping-judged-sheet s t g bg b)

-- ---- the bytes that hold every mapping sheet

pub mapping_within : (s t f : List ℕ) {S T : Schema} {F : Mapping} → Bytes f → judge_schema s ≡ sound S → judge_schema t ≡ sound T
    → judge_mapping (listed_category S) (listed_category T) f ≡ sound F → length f ≤ max_mapping_bytes
mapping_within s t f {S} {T} b i j k =
    rw (mapping-judged-sheet (listed_category S) (listed_category T) f b k) (mapping-sheet-within (schema-facts s i) (mapping-lendable s t f i j k).fits)

-- ---- the composite

module _ {S T U : Schema} {F G : Mapping} (v : ValidMapping (listed_category S) (listed_category T) F) (w : ValidMapping (listed_category T) (listed_category U) G) where
  theory-composite-is : IsMapping (theory_composition.composite (mapping_of S T F) (mapping_of T U G))
  theory-composite-is = composite-is (mapping_of S T F) (mapping_of T U G) v.is w.is

  -- a path of a schema without a loop has fewer edges than there are nodes
  pub image-few : WellFormed U → U.graph.nodes ≤ 16 → (e : ℕ) → e < length S.graph.edges → length (image (edge_image G) (edge_image F e)) ≤ 15
  image-few u n e h =
      let l = path-short U u (node_image G (node_image F (source S.graph e))) (image (edge_image G) (edge_image F e)) (theory-composite-is.edge_path e h) in
      omega arith

  image-below : SchemaFacts U → (e : ℕ) → e < length S.graph.edges → (i : ℕ) → get_or (image (edge_image G) (edge_image F e)) i 0 < 32
  image-below u e h =
      edge_below (schema_of U) 32 (node_image G (node_image F (source S.graph e))) (image (edge_image G) (edge_image F e)) u.edges (omega arith) (theory-composite-is.edge_path e h)

module _ {S T U : Schema} {F G : Mapping} (f : LendableMapping S T F) (g : LendableMapping T U G) where
  -- the tables have the theory's images
  pub composite-images : SameImages (theory_composition.composite (mapping_of S T F) (mapping_of T U G)) (mapping_of S U (composite F G))
  composite-images = record {
    node = λ c h. sym (get_d_map (node_image G) F.nodes 0 0 c (rw f.fits.nodes h));
    edge = λ e h. sym (get_d_map (image (edge_image G)) F.edges [] [] e (rw f.fits.edges h));
    attribute = λ a h. sym (get_d_map (attribute_image G) F.attributes 0 0 a (rw f.fits.attributes h));
  }

  pub composite-valid : ValidMapping (listed_category S) (listed_category U) (composite F G)
  composite-valid = record {
    s_is = f.valid.s_is;
    t_is = g.valid.t_is;
    attributes = length-map F.attributes (attribute_image G) ∙ f.fits.attributes;
    is = mapping-same (theory_composition.composite (mapping_of S T F) (mapping_of T U G)) (mapping_of S U (composite F G)) composite-images (theory-composite-is f.valid g.valid);
  }

  pub even-composite : Even (mapping_of S T F) → Even (mapping_of T U G) → Even (mapping_of S U (composite F G))
  even-composite a b = even-same (theory_composition.composite (mapping_of S T F) (mapping_of T U G)) (mapping_of S U (composite F G)) composite-images f.valid.is.s_is
      (composite-even (mapping_of S T F) (mapping_of T U G) f.valid.is g.valid.is a b)

  module _ (u : SchemaFacts U) where
    -- each edge's image, beyond the last one too
    each-image : (P : List ℕ → Type 0) → P [] → ((e : ℕ) → e < length S.graph.edges → P (image (edge_image G) (edge_image F e))) → (e : ℕ) → P (edge_image (composite F G) e)
    each-image P z h = everywhere P (map (image (edge_image G)) F.edges) [] z (λ e l.
        let k : e < length S.graph.edges = rw (length-map F.edges (image (edge_image G)), f.fits.edges) at l in
        rw (← composite-images.edge e k) (h e k))

    pub composite-few : (e : ℕ) → length (edge_image (composite F G) e) ≤ 15
    composite-few = each-image (λ l. length l ≤ 15) (omega arith) (image-few f.valid g.valid (schema-well-formed u) u.nodes)

    pub composite-fits : FitsSheet S (composite F G)
    composite-fits = record {
      nodes = length-map F.nodes (node_image G) ∙ f.fits.nodes;
      edges = length-map F.edges (image (edge_image G)) ∙ f.fits.edges;
      attributes = length-map F.attributes (attribute_image G) ∙ f.fits.attributes;
      node_below = everywhere (λ n. n < 16) (map (node_image G) F.nodes) 0 (omega arith) (λ c h.
          rw (get_d_map (node_image G) F.nodes 0 0 c (rw (length-map F.nodes (node_image G)) at h)) (g.fits.node_below (node_image F c)));
      short = composite-few;
      edge_below = each-image (λ l. (i : ℕ) → get_or l i 0 < 32) (λ i. omega arith) (image-below f.valid g.valid u);
      attribute_below = everywhere (λ n. n < 16) (map (attribute_image G) F.attributes) 0 (omega arith) (λ a h.
          rw (get_d_map (attribute_image G) F.attributes 0 0 a (rw (length-map F.attributes (attribute_image G)) at h)) (g.fits.attribute_below (attribute_image F a)));
    }

    pub composite-lendable : LendableMapping S U (composite F G)
    composite-lendable = record { valid = composite-valid; fits = composite-fits }

-- ---- the identity

module _ (S : Schema) (s : SchemaFacts S) where
  pub identity-images : SameImages (theory_composition.identity (schema_of S)) (mapping_of S S (identity S))
  identity-images = record {
    node = λ c h. sym (upto-get_or S.graph.nodes c 0 h);
    edge = λ e h. sym (map-upto-get_or (λ e. e ∷ []) (length S.graph.edges) [] e h);
    attribute = λ a h. sym (upto-get_or (length S.attributes) a 0 h);
  }

  -- a number below n, or 0
  upto-below : (n k : ℕ) → n ≤ k → 0 < k → (i : ℕ) → get_or (upto n) i 0 < k
  upto-below n k l z = everywhere (λ v. v < k) (upto n) 0 z (λ i h. let j : i < n = rw (upto-length n) at h in rw (upto-get_or n i 0 j) (omega arith))

  each-edge : (P : List ℕ → Type 0) → P [] → ((e : ℕ) → e < length S.graph.edges → P (e ∷ [])) → (e : ℕ) → P (edge_image (identity S) e)
  each-edge P z h = everywhere P (map (λ e. e ∷ []) (upto (length S.graph.edges))) [] z (λ e l.
      let k : e < length S.graph.edges = rw (map-upto-length {A = List ℕ} (λ e. e ∷ []) (length S.graph.edges)) at l in
      rw (← identity-images.edge e k) (h e k))

  one_below : (e : ℕ) → e < length S.graph.edges → (i : ℕ) → get_or (e ∷ []) i 0 < 32
  one_below e h zero = omega (arith, s.edges)
  one_below e h (suc i) = omega arith

  pub identity-lendable : LendableMapping S S (identity S)
  identity-lendable = record {
    valid = record {
      s_is = s_is;
      t_is = s_is;
      attributes = upto-length (length S.attributes);
      is = mapping-same (theory_composition.identity (schema_of S)) (mapping_of S S (identity S)) identity-images (identity-is (schema_is S s.well-formed));
    };
    fits = record {
      nodes = upto-length S.graph.nodes;
      edges = map-upto-length {A = List ℕ} (λ e. e ∷ []) (length S.graph.edges);
      attributes = upto-length (length S.attributes);
      node_below = upto-below S.graph.nodes 16 s.nodes (omega arith);
      short = each-edge (λ l. length l ≤ 15) (omega arith) (λ e h. omega arith);
      edge_below = each-edge (λ l. (i : ℕ) → get_or l i 0 < 32) (λ i. omega arith) one_below;
      attribute_below = upto-below (length S.attributes) 16 s.attributes (omega arith);
    };
  }
    where
      s_is : IsCategory (listed_category S)
      s_is = listed-category S (schema-well-formed s)

-- ---- Delta along the composite

pub delta-along-composite : {S T U : Schema} {F G : Mapping} → LendableMapping S T F → LendableMapping T U G → {J : Instance} → ValidInstance U J → delta S (composite F G) J ≡ delta S F (delta T G J)
delta-along-composite {S} {T} {U} {F} {G} f g {J} j =
    let v = f.valid in
    let w = g.valid in
    let x = composite-valid f g in
    let s_is = v.is.s_is in
    let K = theory_composition.composite (mapping_of S T F) (mapping_of T U G) in
    alike_same S (delta-shaped x J j.shaped) (delta-shaped v (delta T G J) (delta-shaped w J j.shaped))
    (alike-trans s_is (delta-alike x J)
    (alike-trans s_is (alike-sym s_is (delta-same K (mapping_of S U (composite F G)) (instance_of J) (composite-images f g)))
    (alike-trans s_is (delta_composite (mapping_of S T F) (mapping_of T U G) (instance_of J))
    (alike-trans s_is (delta-of-alike v.is (delta-is w.is j.is).link-in (alike-sym w.is.s_is (delta-alike w J)))
    (alike-sym s_is (delta-alike v (delta T G J)))))))

-- ---- composing is associative, and has the identity as unit

pub composites-same : {S T U R : Schema} {F G K : Mapping} → LendableMapping S T F → LendableMapping T U G → LendableMapping U R K → SchemaFacts U → SchemaFacts R
    → composite (composite F G) K ≡ composite F (composite G K)
composites-same {S} {T} {U} {R} {F} {G} {K} f g k u r =
    let FG = mapping_of S U (composite F G) in
    let GK = mapping_of T R (composite G K) in
    let F' = mapping_of S T F in
    let G' = mapping_of T U G in
    let K' = mapping_of U R K in
    let fg = composite-lendable f g u in
    let gk = composite-lendable g k r in
    images-one S R (composite-lendable fg k r).fits (composite-lendable f gk r).fits
    (same-trans (same-sym (theory_composition.composite FG K') (mapping_of S R (composite (composite F G) K)) (composite-images fg k))
    (same-trans (same-sym (theory_composition.composite (theory_composition.composite F' G') K') (theory_composition.composite FG K') (composite-left (theory_composition.composite F' G') FG K' (composite-images f g)))
    (same-trans (composite-associative F' G' K')
    (same-trans (composite-right F' (theory_composition.composite G' K') GK f.valid.is (composite-images g k))
    (composite-images f gk)))))

module _ {S T : Schema} {F : Mapping} (f : LendableMapping S T F) (t : SchemaFacts T) where
  pub first-unit : SchemaFacts S → composite (identity S) F ≡ F
  first-unit s =
      let I = mapping_of S S (identity S) in
      let F' = mapping_of S T F in
      let i = identity-lendable S s in
      images-one S T (composite-lendable i f t).fits f.fits
      (same-trans (same-sym (theory_composition.composite I F') (mapping_of S T (composite (identity S) F)) (composite-images i f))
      (same-trans (same-sym (theory_composition.composite (theory_composition.identity (schema_of S)) F') (theory_composition.composite I F')
      (composite-left (theory_composition.identity (schema_of S)) I F' (identity-images S s)))
      (composite-identity-first (schema_of S) F')))

  pub last-unit : composite F (identity T) ≡ F
  last-unit =
      let I = mapping_of T T (identity T) in
      let F' = mapping_of S T F in
      let i = identity-lendable T t in
      images-one S T (composite-lendable f i t).fits f.fits
      (same-trans (same-sym (theory_composition.composite F' I) (mapping_of S T (composite F (identity T))) (composite-images f i))
      (same-trans (same-sym (theory_composition.composite F' (theory_composition.identity (schema_of T))) (theory_composition.composite F' I)
      (composite-right F' (theory_composition.identity (schema_of T)) I f.valid.is (identity-images T t)))
      (composite-identity-last F' (schema_of T))))
