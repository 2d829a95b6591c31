-- Delta of decoded tables: its counts, and its links and values column by column.
use Prim.Native.Nat.{ℕ, ◌*◌, ◌≤◌, ◌<◌}
use mathlib.Core.Path.{◌≡◌, sym, ap, ◌∙◌}
use mathlib.Core.Bool.{true}
use mathlib.Core.List.{List, [], map}
use native.Mathlib.Omega.{arith}
use native.Mathlib.Nat.{le_trans}
use lib.ListN.{length, get_or}
use Rattle.theory.proofs.Numbering.{tabulate-get_or}
use Rattle.meaning.specs.Lists.{upto}
use Rattle.meaning.specs.Schema.{source}
use Rattle.meaning.specs.Formats as meaning
use Rattle.meaning.specs.Views.{node_image, edge_image, attribute_image, count, column, follow}
use Rattle.meaning.specs.Judge.{links_in_range}
use Rattle.meaning.proofs.Tabulate.{tabulate-same, tabulate-upto}
use Rattle.agreement.proofs.Joined.{map-upto-get_or}
use Rattle.schema.specs.declared.Schema.{Schema}
use Rattle.schema.specs.Decoded.{graph_of, schema_of}
use Rattle.schema.proofs.GraphEdges.{edges-count, source-at}
use Rattle.schema.proofs.SoundSchema.{source_in, home_in}
use Rattle.instance.specs.declared.Instance.{Instance}
use Rattle.instance.specs.Decoded.{rows_of, column_of, columns_of, tables_of, Columns, Limits}
use Rattle.instance.proofs.Columns.{sum_of-part}
use Rattle.instance.proofs.Following.{count_at, Led, led}
use Rattle.instance.specs.Stored.{Counts, ColumnsStored}
use Rattle.mapping.specs.declared.Mapping.{Mapping}
use Rattle.mapping.specs.Decoded.{mapping_of}
use Rattle.mapping.proofs.Viewing.{node_at, edge-at, attribute-at, attributes-count}
use Rattle.delta.specs.Pulled.{Fitting, EdgeImages, edges_of_image, image_row, AttributeImages, image_value, delta_of, Counted, Pulled}
use Rattle.delta.proofs.Images.{node_in, edge_joins, end_in, attribute-fits}

module _ {s t : Schema} {f : Mapping} {j : Instance} (B : Fitting s t f) (L : Limits t j) where
  rows_few : (c : ℕ) → c < t.graph.nodes → get_or j.counts c 0 ≤ 512
  rows_few c l = le_trans (sum_of-part t.graph.nodes (λ k. get_or j.counts k 0) c l) L.rows

  pub node-columns : length f.node ≡ 16 → Columns s.graph.nodes f.node j.counts
  node-columns long = record {
    homes = omega (arith, B.source.limits.nodes);
    tables = λ c l. omega (arith, node_in B c l, B.target.limits.nodes, L.long);
    rows = λ c l. rows_few (get_or f.node c 0) (node_in B c l);
  }

  module _ (links values : List ℕ) where
    abbrev J : meaning.Instance
    J = tables_of t j links values

    image-count : (c : ℕ) → c < s.graph.nodes → count J (node_image (mapping_of s f) c) ≡ rows_of f.node j.counts c
    image-count c l = ap (count J) (node_at s f c l) ∙ count_at t B.target j links values (get_or f.node c 0) (node_in B c l)

  pub counted : {d : Instance} → Counts s.graph.nodes (rows_of f.node j.counts) d.counts → Counted s t f j d
  counted u = record { says = tabulate-upto s.graph.nodes (λ c l. u.each c l ∙ sym (image-count [] [] c l)); long = u.long }

  -- ---- the tables, over their counts
  module _ {d : Instance} (D : Counted s t f j d) where
    -- the rows of table c are those of J's at the image of c
    count-is : (links values : List ℕ) (c : ℕ) → c < s.graph.nodes → get_or d.counts c 0 ≡ count (J links values) (node_image (mapping_of s f) c)
    count-is links values c l =
        sym (tabulate-get_or s.graph.nodes (λ k. get_or d.counts k 0) 0 c l)
        ∙ ap (λ (x : List ℕ). get_or x c 0) D.says
        ∙ map-upto-get_or (λ k. count (J links values) (node_image (mapping_of s f) k)) s.graph.nodes 0 c l

    rows_are : (c : ℕ) → c < s.graph.nodes → get_or d.counts c 0 ≡ rows_of f.node j.counts c
    rows_are c l = count-is [] [] c l ∙ image-count [] [] c l

    columns : (home : List ℕ) (n : ℕ) → n ≤ length home → ((k : ℕ) → k < n → get_or home k 0 < s.graph.nodes) → Columns n home d.counts
    columns home n h Home-of = record {
      homes = h;
      tables = λ k l. omega (arith, Home-of k l, B.source.limits.nodes, D.long);
      rows = λ k l. rw (rows_are (get_or home k 0) (Home-of k l)) (rows_few (get_or f.node (get_or home k 0) 0) (node_in B (get_or home k 0) (Home-of k l)));
    }

    -- ---- links
    module _ (links values : List ℕ) (long : 512 * t.graph.edges ≤ length links) (in-range : links_in_range (schema_of t) (J links values) ≡ true) where
      abbrev LedFrom : ℕ → ℕ → Type 0
      LedFrom e x = Led t B.target j links values L long in-range (get_or f.node (get_or s.graph.source e 0) 0) (edges_of_image f e) x

      led-from : (e : ℕ) → e < s.graph.edges → (x : ℕ) → x < rows_of s.graph.source d.counts e → LedFrom e x
      led-from e l x h =
          led t B.target j links values L long in-range (get_or f.node (get_or s.graph.source e 0) 0) (edges_of_image f e) x (edge_joins B e l)
          (rw (rows_are (get_or s.graph.source e 0) (source_in s B.source e l)) at h)

      pub edge-images : length s.graph.source ≡ 32 → EdgeImages s f d.counts links
      edge-images source-long = record {
        few = B.source.limits.edges;
        columns = columns s.graph.source s.graph.edges (omega (arith, B.source.limits.edges)) (source_in s B.source);
        short = B.short;
        leads = λ e l. record {
          stays = λ x h. (led-from e l x h).stays;
          few = λ x h. omega (arith, (led-from e l x h).row_in, rows_few _ (end_in B e l));
        };
      }

      -- the links along e, as Delta has them
      abbrev image_links : ℕ → List ℕ
      image_links e = map (follow (J links values) (edge_image (mapping_of s f) e)) (upto (count (J links values) (node_image (mapping_of s f) (source (graph_of s.graph) e))))

      module _ {l r : List ℕ} (u : ColumnsStored s.graph.edges (rows_of s.graph.source d.counts) (image_row f links) l r) where
        links-at : (e : ℕ) → e < s.graph.edges → column_of r (512 * e) (rows_of s.graph.source d.counts e) ≡ image_links e
        links-at e l =
            tabulate-upto (rows_of s.graph.source d.counts e)
            (λ x h. u.each e l x h ∙ (led-from e l x h).same ∙ ap (λ (es : List ℕ). follow (J links values) es x) (sym (edge-at s f e l)))
            ∙ ap (λ (n : ℕ). map (follow (J links values) (edge_image (mapping_of s f) e)) (upto n))
            (count-is links values (get_or s.graph.source e 0) (source_in s B.source e l)
            ∙ ap (λ (c : ℕ). count (J links values) (node_image (mapping_of s f) c)) (sym (source-at s.graph.edges s.graph.source s.graph.target e l)))

        pub links-are : columns_of s.graph.edges (rows_of s.graph.source d.counts) r ≡ (delta_of s t f j links values).links
        links-are =
            tabulate-upto s.graph.edges links-at
            ∙ ap (λ (n : ℕ). map image_links (upto n)) (sym (edges-count s.graph.edges s.graph.source s.graph.target))

    -- ---- values
    pub attribute-images : {values : List ℕ} → length s.node ≡ 16 → length f.attribute ≡ 16 → 512 * t.attributes ≤ length values → AttributeImages s.attributes s.node f.attribute d.counts values
    attribute-images node_long attribute-long long = record {
      few = B.source.limits.attributes;
      columns = columns s.node s.attributes (omega (arith, B.source.limits.attributes)) (home_in s B.source);
      images = omega (arith, B.source.limits.attributes);
      within = λ a l. omega (arith, (attribute-fits B a l).attribute-in, B.target.limits.attributes);
    }

    module _ (links values : List ℕ) {l r : List ℕ} (u : ColumnsStored s.attributes (rows_of s.node d.counts) (image_value f.attribute values) l r) where
      values-at : (a : ℕ) → a < s.attributes → column_of r (512 * a) (rows_of s.node d.counts a) ≡ column (J links values) (attribute_image (mapping_of s f) a)
      values-at a h =
          let b = get_or f.attribute a 0 in
          let A = attribute-fits B a h in
          let n : rows_of s.node d.counts a ≡ rows_of t.node j.counts b = rows_are (get_or s.node a 0) (home_in s B.source a h) ∙ ap (λ (c : ℕ). get_or j.counts c 0) (sym A.home_is) in
          tabulate-same (rows_of s.node d.counts a) (u.each a h)
          ∙ ap (column_of values (512 * b)) n
          ∙ sym (ap (column (J links values)) (attribute-at s f a h) ∙ tabulate-get_or t.attributes (λ k. column_of values (512 * k) (rows_of t.node j.counts k)) [] b A.attribute-in)

      pub values-are : columns_of s.attributes (rows_of s.node d.counts) r ≡ (delta_of s t f j links values).values
      values-are =
          tabulate-upto s.attributes values-at
          ∙ ap (λ (n : ℕ). map (λ a. column (J links values) (attribute_image (mapping_of s f) a)) (upto n)) (sym (attributes-count s))

-- ---- the whole
module _ {s t : Schema} {f : Mapping} {j d : Instance} {links values followed copied : List ℕ} where
  pub pulled : Counted s t f j d → columns_of s.graph.edges (rows_of s.graph.source d.counts) followed ≡ (delta_of s t f j links values).links
      → columns_of s.attributes (rows_of s.node d.counts) copied ≡ (delta_of s t f j links values).values → Pulled s t f j links values d followed copied
  pulled D a b = record { says = rw (D.says, a, b); long = D.long }
