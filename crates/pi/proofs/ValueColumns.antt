-- The values that arrays give are those of Pi.
use Prim.Native.Nat.{ℕ, ◌+◌, ◌*◌, ◌<◌}
use mathlib.Core.Path.{◌≡◌, sym, ap, ◌∙◌}
use mathlib.Core.Bool.{true}
use mathlib.Core.List.{List, [], map}
use native.Mathlib.Omega.{arith}
use borrow.Author.Tests.{eqb-true}
use lib.ListN.{length, get_or}
use lib.Dec.{eqb}
use Rattle.theory.specs.Numbering.{tabulate}
use Rattle.theory.proofs.Numbering.{tabulate-length, tabulate-get_or}
use Rattle.theory.proofs.Order.{mem-get_or}
use Rattle.meaning.specs.Lists.{upto, filter}
use Rattle.meaning.specs.Schema.{Attribute, path, attribute_at}
use Rattle.meaning.specs.Formats as meaning
use Rattle.meaning.specs.Views.{value}
use Rattle.meaning.specs.Pi.{is_bijective, component_at, value_at, pi}
use Rattle.meaning.proofs.Tabulate.{tabulate-same, tabulate-upto}
use Rattle.meaning.proofs.Lists.{upto_all, filter-of, position_in}
use Rattle.schema.specs.declared.Schema.{Schema}
use Rattle.schema.specs.Decoded.{graph_of, schema_of, front_of, category_of}
use Rattle.schema.proofs.SoundSchema.{home_in}
use Rattle.paths.specs.declared.Paths.{Paths}
use Rattle.paths.proofs.PathNumbers.{trivial-at, trivial-count}
use Rattle.instance.specs.declared.Instance.{Instance}
use Rattle.instance.specs.Decoded.{rows_of, column_of, tables_of}
use Rattle.instance.specs.Stored.{Stored}
use Rattle.mapping.specs.declared.Mapping.{Mapping}
use Rattle.mapping.specs.Decoded.{mapping_of}
use Rattle.mapping.proofs.Viewing.{attributes-count, attribute-is}
use Rattle.pi.specs.declared.components.Components.{Components}
use Rattle.pi.specs.declared.listed.TableRows.{TableRows}
use Rattle.pi.specs.Given.{Mapped}
use Rattle.pi.specs.Components.{components_of}
use Rattle.pi.specs.Families.{Gathered, families_of, family_count, FamiliesUpto}
use Rattle.pi.specs.Links.{entry_of, table_rows}
use Rattle.pi.specs.Values.{attribute_over, attribute_node, value_place, value_through, value_row}
use Rattle.pi.proofs.Places.{place_is}
use Rattle.pi.proofs.ComponentFacts.{few-at}
use Rattle.pi.proofs.Rows.{entry-column}
use Rattle.pi.proofs.ListedRows.{map-places, entry-is}

-- ---- the attribute whose image is b
module _ (s t : Schema) (f : Mapping) (B : is_bijective (schema_of t) (mapping_of s f) ≡ true) where
  pub attribute-over : (b : ℕ) → b < t.attributes → attribute_over s f.attribute b < s.attributes
  attribute-over b l =
      let images : List ℕ = front_of s.attributes f.attribute in
      let one = eqb-true (length (filter (eqb b) images)) 1 (upto_all (λ x. eqb (length (filter (eqb x) images)) 1) (length (schema_of t).attributes) B b (rw (attributes-count t) l)) in
      let m = filter-of (eqb b) images (mem-get_or 0 (filter (eqb b) images) 0 (omega arith)) in
      omega (arith, position_in (eqb b) images m.0 m.1, tabulate-length s.attributes (λ i. get_or f.attribute i 0))

-- ---- the values of row r of attribute a
value-is : (s : Schema) (run : Instance) (links values : List ℕ) (a r : ℕ) → a < s.attributes → entry_of values (512 * a) (rows_of s.node run.counts a) r ≡ value (tables_of s run links values) a r
value-is s run links values a r l =
    entry-column values (512 * a) (rows_of s.node run.counts a) r
    ∙ ap (λ (c : List ℕ). get_or c r 0) (sym (tabulate-get_or s.attributes (λ i. column_of values (512 * i) (rows_of s.node run.counts i)) [] a l))

module _ {s t : Schema} {paths : Paths} {f : Mapping} {k : Components} {run : Instance} {links counts table : List ℕ} (M : Mapped s t paths f) (K : Gathered s t f k) (L : FamiliesUpto s t f run links t.graph.nodes counts table) (B : is_bijective (schema_of t) (mapping_of s f) ≡ true) (values : List ℕ) where
  abbrev I : meaning.Instance
  I = tables_of s run links values

  -- the value of attribute b of T in a row at d, by attribute a of S at node c
  abbrev value_from : ℕ → ℕ → ℕ → List ℕ → ℕ
  value_from a c d rs = value I a (get_or rs (component_at (category_of t) (components_of s t f d) c (path d [])) 0)

  module _ (b : ℕ) (l : b < t.attributes) where
    abbrev a : ℕ
    a = attribute_over s f.attribute b

    abbrev d : ℕ
    d = attribute_node t b

    a_in : a < s.attributes
    a_in = attribute-over s t f B b l

    d-in : d < t.graph.nodes
    d-in = home_in t M.target b l

    place_of : value_place s t paths k a b ≡ component_at (category_of t) (components_of s t f d) (attribute_node s a) (path d [])
    place_of =
        let n : d < paths.count = omega (arith, d-in, trivial-count (graph_of t.graph) M.target.acyclic, M.is_paths.table.counted) in
        place_is (K.all.each d d-in) (few-at K d d-in) M.target M.is_paths (attribute_node s a) d n
        ∙ ap (component_at (category_of t) (components_of s t f d) (attribute_node s a)) (trivial-at (graph_of t.graph) M.target.acyclic d d-in)

    abbrev family : ℕ → List ℕ
    family x = get_or (families_of s t f run links d) x []

    read : (x : ℕ) → x < family_count s t f run links d → value_row s t paths k f.attribute run.counts counts table values b x ≡ value_from a (attribute_node s a) d (family x)
    read x h =
        ap (entry_of values (512 * a) (rows_of s.node run.counts a)) (entry-is M K L d d-in x h (value_place s t paths k a b) ∙ ap (λ (p : ℕ). get_or (family x) p 0) place_of)
        ∙ value-is s run links values a (get_or (family x) (component_at (category_of t) (components_of s t f d) (attribute_node s a) (path d [])) 0) a_in

    column-is : tabulate (rows_of t.node counts b) (value_row s t paths k f.attribute run.counts counts table values b) ≡ map (value_at (category_of s) (category_of t) (mapping_of s f) I b) (families_of s t f run links (attribute_at (schema_of t) b).node)
    column-is =
        let n = L.count d d-in in
        tabulate-same (rows_of t.node counts b) (λ x h. read x (rw n at h))
        ∙ ap (λ (m : ℕ). tabulate m (λ x. value_from a (attribute_node s a) d (family x))) n
        ∙ map-places (value_from a (attribute_node s a) d) [] (families_of s t f run links d)
        ∙ ap (λ (c : ℕ). map (value_from a c d) (families_of s t f run links d)) (ap (λ (x : Attribute). x.node) (sym (attribute-is s a a_in)))
        ∙ ap (λ (x : Attribute). map (value_from a (attribute_at (schema_of s) a).node x.node) (families_of s t f run links x.node)) (sym (attribute-is t b l))

  pub values-are : tabulate t.attributes (λ b. tabulate (rows_of t.node counts b) (value_row s t paths k f.attribute run.counts counts table values b)) ≡ (pi (category_of s) (category_of t) (mapping_of s f) I).values
  values-are =
      tabulate-upto t.attributes column-is
      ∙ ap (λ (n : ℕ). map (λ b. map (value_at (category_of s) (category_of t) (mapping_of s f) I b) (families_of s t f run links (attribute_at (schema_of t) b).node)) (upto n)) (sym (attributes-count t))

-- ---- values stored row by row
module _ (s t : Schema) (paths : Paths) (k : Components) (image run counts rows values : List ℕ) (b : ℕ) where
  pub value-stored : {here : TableRows} {place a n : ℕ} {column l r : List ℕ} → here ≡ table_rows counts k.count (attribute_node t b) → a ≡ attribute_over s image b → place ≡ value_place s t paths k a b → n ≡ rows_of s.node run a
      → column ≡ column_of values (512 * a) n → Stored (λ x. get_or column (get_or (column_of rows (64 * (here.first + x)) here.width) place 0) 0) here.count (512 * b) l r
      → Stored (value_row s t paths k image run counts rows values b) (rows_of t.node counts b) (512 * b) l r
  value-stored {here} {place} {a} {n} {column} {l} {r} d e f g c u =
      let v : Stored (value_through rows here place values (512 * a) n) here.count (512 * b) l r = record {
        each = λ x h.
            u.each x h
            ∙ ap (λ (m : List ℕ). get_or m (get_or (column_of rows (64 * (here.first + x)) here.width) place 0) 0) c
            ∙ ap (λ (p : ℕ). get_or (column_of values (512 * a) n) p 0) (sym (entry-column rows (64 * (here.first + x)) here.width place))
            ∙ sym (entry-column values (512 * a) n (entry_of rows (64 * (here.first + x)) here.width place));
        below = u.below;
        long = u.long;
      } in
      rw (d, g, f, e) at v
