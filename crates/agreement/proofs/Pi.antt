-- Pi of tables along a mapping with paired attributes is the theory's Pi, a valid instance, and read back from its sheet.
use Prim.Native.Nat.{ℕ, ◌<◌, ◌≤◌}
use mathlib.Core.Path.{◌≡◌, refl, sym, ap, ◌∙◌}
use mathlib.Core.List.Memᴰ
use mathlib.Core.List.{List, [], ◌∷◌, map, map-map, Memᴰ}
use native.Mathlib.Omega.{arith}
use lib.ListN.{length, get_or, length-map}
use Rattle.theory.specs.Schema.{Lex}
use Rattle.theory.specs.Instance as theory
use Rattle.theory.specs.Instance.{Alike, IsInstance}
use Rattle.theory.specs.Mapping.{Bijective}
use Rattle.theory.specs.Pi.{IsComponent, IsFamily, Same, rows_at, IsPiBy, IsPi}
use Rattle.theory.proofs.Schema.{path-edge}
use Rattle.theory.proofs.Order.{mem-get_or, mem-position, sorted-get_or}
use Rattle.theory.proofs.Family.{family-restrict}
use Rattle.theory.proofs.Pi.{pi-is, pi_one}
use Rattle.meaning.specs.Lists.{position, same_list, sum_of}
use Rattle.meaning.specs.Schema.{source, target, attribute_at}
use Rattle.meaning.specs.Category.{Category}
use Rattle.meaning.specs.Formats.{Mapping, Instance, max_rows}
use Rattle.meaning.specs.Views.{Shaped, schema_of, attribute_image, mapping_of, count, link, column, value, instance_of}
use Rattle.meaning.specs.Pi.{Component, components, families, restrict, value_at, pi}
use Rattle.meaning.proofs.Lists.{same_list-iff, get_d_map, position_in, position-passes}
use Rattle.agreement.specs.Valid.{ValidMapping, ValidInstance}
use Rattle.agreement.proofs.Sheets.{alike_same}
use Rattle.agreement.proofs.Joined.{map-upto-length, map-upto-get_or}
use Rattle.agreement.proofs.Components.{as_pair, as_pairs, components_are}
use Rattle.agreement.proofs.Families.{family_of, family-iff, rows_at-family_of, family_of-rows_at, rows_at-listed, families-sorted, families-none}
use Rattle.agreement.proofs.Bijections.{attribute_to-image}

-- the components as the theory has them
abbrev pub pi_components : Category → Category → Mapping → ℕ → List (ℕ × List ℕ)
pi_components S T F d = as_pairs (components S T F d)

-- row n of the table at d: its rows at the components, and the family that it stands for
abbrev pub pi_rows : Category → Category → Mapping → Instance → ℕ → ℕ → List ℕ
pi_rows S T F I d n = get_or (families S T F I d) n []

abbrev pub pi_row : Category → Category → Mapping → Instance → ℕ → ℕ → ℕ → List ℕ → ℕ
pi_row S T F I d n = family_of S T F d (pi_rows S T F I d n)

-- ---- the tables, list by list

module _ (S T : Category) (F : Mapping) (I : Instance) where
  -- the place at the other end of e of the list l, restricted along e
  abbrev place_along : ℕ → List ℕ → ℕ
  place_along e l = position (same_list (restrict S T F e l)) (families S T F I (target T.schema.graph e))

  pub pi-count : (d : ℕ) → d < T.schema.graph.nodes → count (pi S T F I) d ≡ length (families S T F I d)
  pi-count d h = map-upto-get_or (λ d. length (families S T F I d)) T.schema.graph.nodes 0 d h

  pi-links : (e : ℕ) → e < length T.schema.graph.edges → get_or (pi S T F I).links e [] ≡ map (place_along e) (families S T F I (source T.schema.graph e))
  pi-links e h = map-upto-get_or (λ e. map (place_along e) (families S T F I (source T.schema.graph e))) (length T.schema.graph.edges) [] e h

  pi-column : (b : ℕ) → b < length T.schema.attributes → column (pi S T F I) b ≡ map (value_at S T F I b) (families S T F I (attribute_at T.schema b).node)
  pi-column b h = map-upto-get_or (λ b. map (value_at S T F I b) (families S T F I (attribute_at T.schema b).node)) (length T.schema.attributes) [] b h

  -- a restricted list, as the theory restricts its family
  restrict-rows : (e : ℕ) (l : List ℕ) → restrict S T F e l ≡ rows_at (pi_components S T F (target T.schema.graph e)) (λ c g. family_of S T F (source T.schema.graph e) l c (e ∷ g))
  restrict-rows e l = sym (map-map (λ k. family_of S T F (source T.schema.graph e) l k.0 (e ∷ k.1)) as_pair (components S T F (target T.schema.graph e)))

module _ {S T : Category} {F : Mapping} (v : ValidMapping S T F) (I : Instance) where
  pub pi-shaped : Shaped T.schema (pi S T F I)
  pi-shaped = record {
    tables = map-upto-length (λ d. length (families S T F I d)) T.schema.graph.nodes;
    edges = map-upto-length (λ e. map (place_along S T F I e) (families S T F I (source T.schema.graph e))) (length T.schema.graph.edges);
    attributes = map-upto-length (λ b. map (value_at S T F I b) (families S T F I (attribute_at T.schema b).node)) (length T.schema.attributes);
    links = λ e h.
        let d = source T.schema.graph e in
        ap length (pi-links S T F I e h) ∙ length-map (families S T F I d) (place_along S T F I e) ∙ sym (pi-count S T F I d (v.is.t_is.src_in e h));
    values = λ b h.
        let d = (attribute_at T.schema b).node in
        ap length (pi-column S T F I b h) ∙ length-map (families S T F I d) (value_at S T F I b) ∙ sym (pi-count S T F I d (v.is.t_is.home_in b h));
  }

  -- a row's number is that of a list
  on_list : (d : ℕ) → d < T.schema.graph.nodes → (n : ℕ) → n < count (pi S T F I) d → n < length (families S T F I d)
  on_list d h n k = rw (pi-count S T F I d h) at k

  row_is : (d : ℕ) → d < T.schema.graph.nodes → (n : ℕ) → n < count (pi S T F I) d
      → (length (pi_rows S T F I d n) ≡ length (components S T F d)) × IsFamily (mapping_of S.schema T.schema F) (instance_of I) d (pi_row S T F I d n)
  row_is d h n k = (family-iff v I d h (pi_rows S T F I d n)).0 (mem-get_or [] (families S T F I d) n (on_list d h n k))

  -- its rows at the components are the list
  pi_row-rows : (d : ℕ) → d < T.schema.graph.nodes → (n : ℕ) → n < count (pi S T F I) d → rows_at (pi_components S T F d) (pi_row S T F I d n) ≡ pi_rows S T F I d n
  pi_row-rows d h n k = rows_at-family_of v I d h (pi_rows S T F I d n) (row_is d h n k).0

  -- without components there is exactly 1 row
  pub pi_single : (d : ℕ) → d < T.schema.graph.nodes → ((k : ℕ × List ℕ) → IsComponent (mapping_of S.schema T.schema F) d k → ⊥) → count (pi S T F I) d ≡ 1
  pi_single d h none = pi-count S T F I d h ∙ ap length (families-none S T F I d (empty (components S T F d) (λ k m. none (as_pair k) (((components_are v d h).each (as_pair k)).0 (Memᴰ.map as_pair m)))))
    where
      empty : (ks : List Component) → ((k : Component) → Memᴰ k ks → ⊥) → ks ≡ []
      empty [] f = refl
      empty (k ∷ ks) f = absurd (f k (Memᴰ.head refl))

  -- the link of row n along e, which leads from d to b
  module _ (e : ℕ) (h : e < length T.schema.graph.edges) (n : ℕ) (k : n < count (pi S T F I) (source T.schema.graph e)) where
    abbrev d : ℕ
    d = source T.schema.graph e

    abbrev b : ℕ
    b = target T.schema.graph e

    d-in : d < T.schema.graph.nodes
    d-in = v.is.t_is.src_in e h

    b-in : b < T.schema.graph.nodes
    b-in = v.is.t_is.tgt_in e h

    -- the row's family and its list, restricted along e
    abbrev along : ℕ → List ℕ → ℕ
    along c g = pi_row S T F I d n c (e ∷ g)

    abbrev along_rows : List ℕ
    along_rows = restrict S T F e (pi_rows S T F I d n)

    along-is : IsFamily (mapping_of S.schema T.schema F) (instance_of I) b along
    along-is = family-restrict (row_is d d-in n k).1 (e ∷ []) (path-edge v.is.t_is e h)

    along-rows : along_rows ≡ rows_at (pi_components S T F b) along
    along-rows = restrict-rows S T F I e (pi_rows S T F I d n)

    found : place_along S T F I e (pi_rows S T F I d n) < length (families S T F I b)
    found = position_in (same_list along_rows) (families S T F I b) (rw along-rows (rows_at-listed v I b b-in along-is)) ((same_list-iff along_rows along_rows).1 refl)

    link-is : link (pi S T F I) e n ≡ place_along S T F I e (pi_rows S T F I d n)
    link-is = ap (λ (l : List ℕ). get_or l n 0) (pi-links S T F I e h) ∙ get_d_map (place_along S T F I e) (families S T F I d) [] 0 n (on_list d d-in n k)

    link-in : link (pi S T F I) e n < count (pi S T F I) b
    link-in = rw (link-is, pi-count S T F I b b-in) found

    link-rows : pi_rows S T F I b (link (pi S T F I) e n) ≡ along_rows
    link-rows =
        ap (pi_rows S T F I b) link-is
        ∙ sym ((same_list-iff along_rows (pi_rows S T F I b (place_along S T F I e (pi_rows S T F I d n)))).0 (position-passes (same_list along_rows) (families S T F I b) [] found))

    link-same : Same (mapping_of S.schema T.schema F) b (pi_row S T F I b (link (pi S T F I) e n)) along
    link-same c g o = ap (λ (l : List ℕ). family_of S T F b l c g) (link-rows ∙ along-rows) ∙ family_of-rows_at v I b b-in along-is c g o

  module _ (paired : Bijective (mapping_of S.schema T.schema F)) where
    value-is : (a : ℕ) → a < length S.schema.attributes → (n : ℕ) → n < count (pi S T F I) (attribute_at T.schema (attribute_image F a)).node
        → value (pi S T F I) (attribute_image F a) n ≡ value I a (pi_row S T F I (attribute_at T.schema (attribute_image F a)).node n (attribute_at S.schema a).node [])
    value-is a h n k =
        let b = attribute_image F a in
        let d = (attribute_at T.schema b).node in
        let i = v.is.attribute-in a h in
        ap (λ (l : List ℕ). get_or l n 0) (pi-column S T F I b i)
        ∙ get_d_map (value_at S T F I b) (families S T F I d) [] 0 n (on_list d (v.is.t_is.home_in b i) n k)
        ∙ ap (λ (y : ℕ). value I y (pi_row S T F I d n (attribute_at S.schema y).node [])) (attribute_to-image v paired a h)

    -- the tables are the theory's Pi
    pub pi-by : IsPiBy (mapping_of S.schema T.schema F) (instance_of I) (instance_of (pi S T F I)) (pi_components S T F) (pi_row S T F I)
    pi-by = record {
      components_are = λ d h. components_are v d h;
      family = λ d h n k. (row_is d h n k).1;
      every = λ d h x x-is.
          let l = rows_at (pi_components S T F d) x in
          let r = mem-position [] l (families S T F I d) (rows_at-listed v I d h x-is) in
          (r.0, rw (pi-count S T F I d h) r.1, λ c g o. ap (λ (l : List ℕ). family_of S T F d l c g) r.2 ∙ family_of-rows_at v I d h x-is c g o);
      ordered = λ d h n m l k.
          rw (pi_row-rows d h n (omega (arith, k)), pi_row-rows d h m k) (sorted-get_or Lex [] (families S T F I d) (families-sorted S T F I d) n m l (on_list d h m k));
      link-in = link-in;
      link = link-same;
      value = value-is;
    }

    pub pi-is-pi : IsPi (mapping_of S.schema T.schema F) (instance_of I) (instance_of (pi S T F I))
    pi-is-pi = record { components = pi_components S T F; row = pi_row S T F I; by = pi-by }

    -- and no others are
    pub pi-only : {P : theory.Instance ℕ} → IsPi (mapping_of S.schema T.schema F) (instance_of I) P → Alike (schema_of T.schema) P (instance_of (pi S T F I))
    pi-only P-is = pi_one v.is paired P-is pi-is-pi

    -- nor other tables
    pub pi-tables : (J : Instance) → Shaped T.schema J → IsPi (mapping_of S.schema T.schema F) (instance_of I) (instance_of J) → J ≡ pi S T F I
    pi-tables J shaped J-is = alike_same T.schema shaped pi-shaped (pi-only J-is)

    -- Pi is an instance of T: links and values in range, and all path equations
    pi-instance : {Range : ℕ → ℕ → Type 0} → IsInstance Range (schema_of S.schema) (instance_of I) → IsInstance Range (schema_of T.schema) (instance_of (pi S T F I))
    pi-instance I-is = pi-is v.is pi-by paired I-is

    -- where it has at most 512 rows
    module _ (i : ValidInstance S.schema I) (few : sum_of (pi S T F I).counts ≤ max_rows) where
      pub pi-valid : ValidInstance T.schema (pi S T F I)
      pi-valid = record { shaped = pi-shaped; is = pi-instance i.is; few_rows = few }
