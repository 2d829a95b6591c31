-- The text of rows that stand in arrays is meaning's: columns, rows and tables read off the decoded structs.
use Prim.Native.Nat.{ℕ, ◌+◌, ◌*◌, ◌≤◌, ◌<◌}
use mathlib.Core.Path.{◌≡◌, refl, sym, ap, ap₂, ◌∙◌}
use mathlib.Core.Bool.{Bool, true, false}
use mathlib.Core.List.{List, [], ◌++◌}
use native.Mathlib.Omega.{arith}
use borrow.Author.Tests.{eqb-true}
use lib.ListN.{length, get_or, take}
use lib.Dec.{eqb}
use lib.Seq.{get_or-take, length-take-le}
use Rattle.theory.specs.Numbering.{tabulate}
use Rattle.theory.proofs.Numbering.{tabulate-length, tabulate-get_or}
use Rattle.meaning.specs.Lists.{upto, concat_map, sum_of}
use Rattle.meaning.specs.Schema as meaning
use Rattle.meaning.specs.Formats as formats
use Rattle.meaning.specs.Formats.{max_nodes, max_edges, max_attributes, max_rows}
use Rattle.meaning.specs.Views.{rows}
use Rattle.meaning.specs.Program.{row_line, row_lines, printed}
use Rattle.schema.specs.declared.Schema.{Schema}
use Rattle.schema.specs.Decoded.{Limits, schema_of}
use Rattle.instance.specs.declared.Instance.{Instance}
use Rattle.instance.specs.Decoded.{tables_of}
use Rattle.text.specs.Appended.{digits, part, line_of, header_text}
use Rattle.text.specs.Rows.{part_if, cell_text, cells_text, row_text, table_text, tables_text}
use Rattle.text.proofs.Printing.{pieces-same, link_piece, value_piece, link_pieces, value_pieces, row-pieces, header-line}

-- only a number that is the row's own matters
own_same : (own : Bool) {m n : ℕ} → (own ≡ true → m ≡ n) → part_if own m ≡ part_if own n
unfolding part_if
own_same true e = ap part (e refl)
own_same false e = refl

-- n columns: the table of column k is home k, and it has a row for each of that table
module _ (n : ℕ) (home counts cells : List ℕ) (long : n ≤ length home) (d r : ℕ) (in_table : r < get_or counts d 0) where
  abbrev columns : List (List ℕ)
  columns = tabulate n (λ k. tabulate (get_or counts (get_or home k 0) 0) (λ i. get_or cells (max_rows * k + i) 0))

  cell_at : (k : ℕ) → k < n → get_or home k 0 ≡ d → get_or (get_or columns k []) r 0 ≡ get_or cells (max_rows * k + r) 0
  cell_at k h e =
      ap (λ (l : List ℕ). get_or l r 0) (tabulate-get_or n (λ j. tabulate (get_or counts (get_or home j 0) 0) (λ i. get_or cells (max_rows * j + i) 0)) [] k h)
      ∙ tabulate-get_or (get_or counts (get_or home k 0) 0) (λ i. get_or cells (max_rows * k + i) 0) 0 r (rw e in_table)

  columns-text : (node : ℕ → ℕ) → ((k : ℕ) → k < n → node k ≡ get_or home k 0) → concat_map (λ k. part_if (eqb (node k) d) (get_or (get_or columns k []) r 0)) (upto n) ≡ cells_text (take n home) cells d r
  unfolding cells_text
  columns-text node e =
      pieces-same (λ k. part_if (eqb (node k) d) (get_or (get_or columns k []) r 0)) (cell_text (take n home) cells d r) 0 n
      (λ k l.
      let h : k < n = omega arith in
      let stands : get_or (take n home) k 0 ≡ get_or home k 0 = get_or-take n home k 0 h in
      ap (λ (x : ℕ). part_if (eqb x d) (get_or (get_or columns k []) r 0)) (e k h ∙ sym stands)
      ∙ own_same (eqb (get_or (take n home) k 0) d) (λ q. cell_at k h (sym stands ∙ eqb-true _ _ q)))
      ∙ ap (λ (m : ℕ). concat_map (cell_text (take n home) cells d r) (upto m)) (sym (length-take-le n home long))

-- ---- the decoded structs

abbrev pub source_of : Schema → List ℕ
source_of t = take t.graph.edges t.graph.source

abbrev pub node_of : Schema → List ℕ
node_of t = take t.attributes t.node

abbrev pub counts_of : Schema → Instance → List ℕ
counts_of t i = take t.graph.nodes i.counts

abbrev pub rows_text : Schema → Instance → List ℕ → List ℕ → List ℕ
rows_text t i links values = tables_text (counts_of t i) (source_of t) links (node_of t) values

pub edges-long : (t : Schema) → length (schema_of t).graph.edges ≡ t.graph.edges
edges-long t = tabulate-length t.graph.edges (λ k. record { source = get_or t.graph.source k 0; target = get_or t.graph.target k 0 })

pub attributes-long : (t : Schema) → length (schema_of t).attributes ≡ t.attributes
attributes-long t = tabulate-length t.attributes (λ k. record { node = get_or t.node k 0; kind = get_or t.kind k 0 })

-- the arrays of the structs have the lengths of their types
pub record Sized (t : Schema) (i : Instance) : Type 0 where
  pub limits : Limits t
  pub source : length t.graph.source ≡ max_edges
  pub node : length t.node ≡ max_attributes
  pub counts : length i.counts ≡ max_nodes

module _ {t : Schema} {i : Instance} (Z : Sized t i) where
  pub edges-within : t.graph.edges ≤ length t.graph.source
  edges-within = omega (arith, Z.limits.edges, Z.source)

  pub attributes-within : t.attributes ≤ length t.node
  attributes-within = omega (arith, Z.limits.attributes, Z.node)

  pub nodes-within : t.graph.nodes ≤ length i.counts
  nodes-within = omega (arith, Z.limits.nodes, Z.counts)

  pub source-long : length (source_of t) ≡ t.graph.edges
  source-long = length-take-le t.graph.edges t.graph.source edges-within

  pub node_long : length (node_of t) ≡ t.attributes
  node_long = length-take-le t.attributes t.node attributes-within

  pub counts_long : length (counts_of t i) ≡ t.graph.nodes
  counts_long = length-take-le t.graph.nodes i.counts nodes-within

module _ (t : Schema) (i : Instance) (links values : List ℕ) (Z : Sized t i) where
  abbrev S : meaning.Schema
  S = schema_of t

  abbrev J : formats.Instance
  J = tables_of t i links values

  module _ (d r : ℕ) (in_table : r < get_or i.counts d 0) where
    links-same : link_pieces S J d r ≡ cells_text (source_of t) links d r
    links-same =
        ap (λ (n : ℕ). concat_map (link_piece S J d r) (upto n)) (edges-long t)
        ∙ columns-text t.graph.edges t.graph.source i.counts links (edges-within Z) d r in_table (meaning.source S.graph) (λ k h. ap (λ (x : meaning.Edge). x.source) (tabulate-get_or t.graph.edges _ _ k h))

    values_same : value_pieces S J d r ≡ cells_text (node_of t) values d r
    values_same =
        ap (λ (n : ℕ). concat_map (value_piece S J d r) (upto n)) (attributes-long t)
        ∙ columns-text t.attributes t.node i.counts values (attributes-within Z) d r in_table (λ k. (meaning.attribute_at S k).node) (λ k h. ap (λ (x : meaning.Attribute). x.node) (tabulate-get_or t.attributes _ _ k h))

    row_same : row_line S J d r ≡ row_text (source_of t) links (node_of t) values d r
    row_same = row-pieces S J d r ∙ ap₂ (line_of (digits d) (part r)) links-same values_same

  table_same : (d : ℕ) → d < t.graph.nodes → concat_map (row_line S J d) (rows J d) ≡ table_text (source_of t) links (node_of t) values d (get_or (counts_of t i) d 0)
  unfolding table_text
  table_same d h =
      ap (λ (n : ℕ). concat_map (row_line S J d) (upto n)) (tabulate-get_or t.graph.nodes (λ c. get_or i.counts c 0) 0 d h)
      ∙ pieces-same (row_line S J d) (row_text (source_of t) links (node_of t) values d) 0 (get_or i.counts d 0) (λ r l. row_same d r (omega arith))
      ∙ ap (λ (n : ℕ). concat_map (row_text (source_of t) links (node_of t) values d) (upto n)) (sym (get_or-take t.graph.nodes i.counts d 0 h))

  tables-same : row_lines S J ≡ rows_text t i links values
  unfolding tables_text
  tables-same =
      pieces-same (λ d. concat_map (row_line S J d) (rows J d)) (λ d. table_text (source_of t) links (node_of t) values d (get_or (counts_of t i) d 0)) 0 t.graph.nodes (λ d l. table_same d (omega arith))
      ∙ ap (λ (n : ℕ). concat_map (λ d. table_text (source_of t) links (node_of t) values d (get_or (counts_of t i) d 0)) (upto n)) (sym (counts_long Z))

  pub printed-same : printed (record { schema = S; tables = J }) ≡ header_text t.graph.nodes (sum_of J.counts) ++ rows_text t i links values
  printed-same =
      ap (λ (w : List ℕ). w ++ row_lines S J) (header-line t.graph.nodes (sum_of J.counts))
      ∙ ap (λ (w : List ℕ). header_text t.graph.nodes (sum_of J.counts) ++ w) tables-same
