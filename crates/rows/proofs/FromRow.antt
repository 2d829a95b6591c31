-- A row that stands in no table yet: its counts, what its tests decide, and the rows to which paths lead from it.
use Prim.Native.Nat.{ℕ, ◌+◌, ◌*◌, ◌<◌, ◌≤◌}
use mathlib.Core.Path.{◌≡◌, refl, sym, ap, ap₂, ◌∙◌}
use mathlib.Core.Bool.{Bool, true, false, cond, not, ◌&&◌}
use mathlib.Core.List.{List, [], ◌∷◌}
use native.Mathlib.Omega.{arith}
use native.Mathlib.Nat.{add-zero, le_trans}
use borrow.Author.Tests.{ltb-true, eqb-true, eqb-false, eq-eqb, ne_eqb, lt-ltb}
use lib.Dec.{ltb, eqb}
use lib.ListN.{length, get_or, replicate, length-set}
use lib.Seq.{get_or-set_same, get_or-set_other}
use Rattle.theory.specs.Numbering.{tabulate}
use Rattle.theory.proofs.Numbering.{tabulate-length, tabulate-get_or}
use Rattle.meaning.specs.Lists.{all, sum_of}
use Rattle.meaning.specs.Schema.{Attribute, source, target, joins}
use Rattle.meaning.specs.Sheet.{Judged, faulty, sound, judged, on_sheet}
use Rattle.meaning.specs.Formats as formats
use Rattle.meaning.specs.Formats.{read_tables}
use Rattle.meaning.specs.Views.{count, link, follow}
use Rattle.meaning.specs.Rows as meaning
use Rattle.meaning.specs.Rows.{read_row, added, row_obeys_equations}
use Rattle.meaning.proofs.Lists.{all_filter}
use Rattle.meaning.proofs.Tabulate.{and_both, all-at, all_same, tabulate-same, tabulate-upto}
use Rattle.agreement.specs.Valid.{ValidInstance}
use Rattle.agreement.specs.Changes.{IsRow}
use Rattle.agreement.proofs.Paths.{path-iff}
use Rattle.agreement.proofs.Rows.{row_read, follow-added}
use Rattle.schema.specs.declared.Schema.{Schema}
use Rattle.schema.specs.Decoded.{front_of, graph_of, path_of, no_path, equation_of, schema_of}
use Rattle.schema.specs.Judged.{Sound}
use Rattle.schema.proofs.GraphEdges.{edges-count, source-at, target_at}
use Rattle.schema.proofs.SoundSchema.{source_in, target-in, home_in, sides-at}
use Rattle.paths.proofs.TablePaths.{formed}
use Rattle.instance.specs.declared.Instance.{Instance}
use Rattle.instance.specs.Decoded.{rows_of, column_of, columns_of, tables_of, Limits}
use Rattle.instance.specs.Tested.{link_test}
use Rattle.instance.proofs.Columns.{sum_of-few, sum_of-part, none-stands}
use Rattle.instance.proofs.Following.{count_at, row-links-test, led}
use Rattle.instance.proofs.Validity.{tables-shaped, accepted-valid}
use Rattle.rows.specs.Row.{row_counts, row_alone, row_of, row_link, follow_row, StaysOn, AcceptedLinks, RowLinked}

-- ---- its counts
module _ (c : ℕ) (h : c < 16) where
  pub row_at : (d : ℕ) → get_or (row_counts c) d 0 ≡ cond (eqb d c) 1 0
  row_at d = go (eqb d c) refl
    where
      go : (t : Bool) → eqb d c ≡ t → get_or (row_counts c) d 0 ≡ cond t 1 0
      go true e = rw (eqb-true d c e) (get_or-set_same (replicate 16 0) c 1 0 h)
      go false e = get_or-set_other (replicate 16 0) c d 1 0 (eqb-false d c e) ∙ none-stands 16 d

  pub row-few : (d : ℕ) → get_or (row_counts c) d 0 ≤ 1
  row-few d = go (eqb d c) (row_at d)
    where
      go : (t : Bool) → get_or (row_counts c) d 0 ≡ cond t 1 0 → get_or (row_counts c) d 0 ≤ 1
      go true e = omega arith
      go false e = omega arith

  pub row-sum : (n : ℕ) → sum_of (front_of n (row_counts c)) ≤ 1 * n
  row-sum n = sum_of-few 1 n (λ d. get_or (row_counts c) d 0) (λ d l. row-few d)

-- the row's counts are those that its sheet is read by
pub row_counts_lem : (t : Schema) (c : ℕ) → c < 16 → front_of t.graph.nodes (row_counts c) ≡ meaning.one_row (schema_of t) c
row_counts_lem t c h = tabulate-upto t.graph.nodes (λ d l. row_at c h d)

pub row-limits : (t : Schema) → Sound t → (c : ℕ) → c < t.graph.nodes → Limits t (row_alone c)
row-limits t A c h =
    let n = A.limits.nodes in
    record { rows = omega (arith, row-sum c (omega arith) t.graph.nodes); long = length-set {A = ℕ} (replicate 16 0) c 1 }

-- three lists make tables
pub tables-same : {a b : List ℕ} {d e : List (List ℕ)} {f g : List (List ℕ)} → a ≡ b → d ≡ e → f ≡ g
    → ◌≡◌ {A = formats.Instance} (record { counts = a; links = d; values = f }) (record { counts = b; links = e; values = g })
tables-same p q r = λ i. record { counts = p i; links = q i; values = r i }

-- the tables go by the counts of the schema's nodes
tables-of : (t : Schema) → Sound t → (i j : Instance) (links values : List ℕ) → ((d : ℕ) → d < t.graph.nodes → get_or i.counts d 0 ≡ get_or j.counts d 0) → tables_of t i links values ≡ tables_of t j links values
tables-of t A i j links values e =
    tables-same
    (tabulate-same t.graph.nodes e)
    (tabulate-same t.graph.edges (λ k h. ap (column_of links (512 * k)) (e (get_or t.graph.source k 0) (source_in t A k h))))
    (tabulate-same t.attributes (λ k h. ap (column_of values (512 * k)) (e (get_or t.node k 0) (home_in t A k h))))

-- what was read as a row of table c, or the number with which its sheet is sent back
module _ (t : Schema) (A : Sound t) (c : ℕ) (h : c < t.graph.nodes) (s : List ℕ) where
  abbrev row-tables : Judged formats.Instance
  row-tables = judged (read_tables (schema_of t) (front_of t.graph.nodes (row_counts c)) s 0)

  one-row : front_of t.graph.nodes (row_counts c) ≡ meaning.one_row (schema_of t) c
  one-row = let n = A.limits.nodes in row_counts_lem t c (omega arith)

  row-sheet : row-tables ≡ on_sheet (read_row (schema_of t) c) s
  row-sheet = ap (λ (counts : List ℕ). judged (read_tables (schema_of t) counts s 0)) one-row

  pub row-refused : {k : ℕ} → faulty k ≡ row-tables → faulty k ≡ on_sheet (read_row (schema_of t) c) s
  row-refused e = e ∙ row-sheet

  pub row-judged : (i : Instance) (links values : List ℕ) → sound (tables_of t i links values) ≡ row-tables → sound (row_of t c links values) ≡ on_sheet (read_row (schema_of t) c) s
  row-judged i links values e = ap sound (sym (tables-of t A i (row_alone c) links values (same-counts ((row_read (schema_of t) c h s (sym read)).counts ∙ sym one-row)))) ∙ read
    where
      read : sound (tables_of t i links values) ≡ on_sheet (read_row (schema_of t) c) s
      read = e ∙ row-sheet

      same-counts : front_of t.graph.nodes i.counts ≡ front_of t.graph.nodes (row_counts c) → (d : ℕ) → d < t.graph.nodes → get_or i.counts d 0 ≡ get_or (row_counts c) d 0
      same-counts e d l =
          sym (tabulate-get_or t.graph.nodes (λ k. get_or i.counts k 0) 0 d l) ∙ ap (λ (xs : List ℕ). get_or xs d 0) e ∙ tabulate-get_or t.graph.nodes (λ k. get_or (row_counts c) k 0) 0 d l

-- ---- 11, equation by equation: both sides of equation k, where it starts at c, lead the row to the same row
abbrev pub bent_test : Schema → ℕ → List ℕ → List ℕ → ℕ → ℕ → Bool
bent_test t c links row own k =
    cond (eqb (get_or t.left k no_path).start c)
    (eqb (follow_row row links (path_of (get_or t.left k no_path)).edges own) (follow_row row links (path_of (get_or t.right k no_path)).edges own))
    true

module _ (t : Schema) (c : ℕ) (links row : List ℕ) (own k : ℕ) where
  pub bent-here : (b : Bool) → (get_or t.left k no_path).start ≡ c
      → not (eqb (follow_row row links (path_of (get_or t.left k no_path)).edges own) (follow_row row links (path_of (get_or t.right k no_path)).edges own)) ≡ b
      → bent_test t c links row own k ≡ not b
  bent-here b s e = rw (eq-eqb (get_or t.left k no_path).start c s) (back _ b e)
    where
      back : (a b : Bool) → not a ≡ b → a ≡ not b
      back true b e = ap not e
      back false b e = ap not e

  pub bent-apart : ((get_or t.left k no_path).start ≡ c → ⊥) → bent_test t c links row own k ≡ true
  bent-apart n = rw (ne_eqb (get_or t.left k no_path).start c n)

-- ---- links followed from it, in an accepted run
module _ (t : Schema) (A : Sound t) (i : Instance) (c : ℕ) (c-in : c < t.graph.nodes) (links row : List ℕ) (U : AcceptedLinks t i links) (L : RowLinked t i c row) where
  abbrev I : formats.Instance
  I = tables_of t i links U.values

  abbrev R : formats.Instance
  R = row_of t c row []

  c-low : c < 16
  c-low = let n = A.limits.nodes in omega arith

  valid : ValidInstance (schema_of t) I
  valid = accepted-valid A i links U.values U.limits U.accepted

  -- a column of its table has the row alone
  own_row : (home : List ℕ) (k : ℕ) → get_or home k 0 ≡ c → rows_of home (row_counts c) k ≡ 1
  own_row home k s = row_at c c-low (get_or home k 0) ∙ rw (eq-eqb (get_or home k 0) c s)

  entry-is : (n : ℕ) (home l : List ℕ) (k : ℕ) → k < n → get_or home k 0 ≡ c → get_or (get_or (columns_of n (rows_of home (row_counts c)) l) k []) 0 0 ≡ get_or l (512 * k) 0
  entry-is n home l k h s =
      ap (λ (xs : List ℕ). get_or xs 0 0) (tabulate-get_or n (λ j. column_of l (512 * j) (rows_of home (row_counts c) j)) [] k h)
      ∙ tabulate-get_or (rows_of home (row_counts c) k) (λ x. get_or l (512 * k + x) 0) 0 0 (rw (own_row home k s) (omega arith)) ∙ ap (λ (p : ℕ). get_or l p 0) (add-zero (512 * k))

  -- 9 was passed
  link-in : (e : ℕ) → e < t.graph.edges → get_or t.graph.source e 0 ≡ c → row_link row e < rows_of t.graph.target i.counts e
  link-in e l s =
      let all_in = sym (row-links-test t A i [] [] (row_alone c) row []) ∙ L.links_in in
      let here = all-at (link_test t.graph.source t.graph.target (row_counts c) i.counts row) t.graph.edges (λ k. k) all_in e l in
      let first : get_or row (512 * e + 0) 0 < rows_of t.graph.target i.counts e = ltb-true _ _ (all-at (λ x. ltb x (rows_of t.graph.target i.counts e)) (rows_of t.graph.source (row_counts c) e) (λ k. get_or row (512 * e + k) 0) here 0 (rw (own_row t.graph.source e s) (omega arith))) in
      rw (add-zero (512 * e)) at first

  link-is : (e : ℕ) → e < t.graph.edges → get_or t.graph.source e 0 ≡ c → link R e 0 ≡ row_link row e
  link-is = entry-is t.graph.edges t.graph.source row

  few : (d : ℕ) → d < t.graph.nodes → get_or i.counts d 0 ≤ 512
  few d l = le_trans (sum_of-part t.graph.nodes (λ k. get_or i.counts k 0) d l) U.limits.rows

  abbrev attribute : ℕ → Attribute
  attribute a = record { node = get_or t.node a 0; kind = get_or t.kind a 0 }

  is_row : IsRow (schema_of t) c R
  is_row = record {
    counts = row_counts_lem t c c-low;
    shaped = tables-shaped A (row_alone c) row [];
    links = λ e m s.
        let l : e < t.graph.edges = rw (edges-count t.graph.edges t.graph.source t.graph.target) at m in
        let q = sym (source-at t.graph.edges t.graph.source t.graph.target e l) ∙ s in
        rw (link-is e l q) (omega (arith, link-in e l q, few (get_or t.graph.target e 0) (target-in t A e l)));
    values = λ a m s.
        let l : a < t.attributes = rw (tabulate-length t.attributes attribute) at m in
        let q : get_or t.node a 0 ≡ c = sym (ap (λ (x : Attribute). x.node) (tabulate-get_or t.attributes attribute _ a l)) ∙ s in
        rw (entry-is t.attributes t.node [] a l q) (omega arith);
  }

  -- what edges that join up give, from the row on
  pub record RowLed (es : List ℕ) : Type 0 where
    pub stays : StaysOn row links es
    pub same : follow_row row links es (get_or i.counts c 0) ≡ follow (added (schema_of t) I R) es (count I c)

  pub row-led : (es : List ℕ) → joins (graph_of t.graph) c es ≡ true → RowLed es
  row-led [] j = record { stays = tt; same = sym (count_at t A i links U.values c c-in) }
  row-led (e ∷ es) j =
      let g = t.graph in
      let G = graph_of g in
      let a = and_both (ltb e (length G.edges) && eqb (source G e) c) (joins G (target G e) es) j in
      let b = and_both (ltb e (length G.edges)) (eqb (source G e) c) a.0 in
      let m : e < length G.edges = ltb-true _ _ b.0 in
      let l : e < g.edges = rw (edges-count g.edges g.source g.target) at m in
      let s : get_or g.source e 0 ≡ c = sym (source-at g.edges g.source g.target e l) ∙ eqb-true _ _ b.1 in
      let rest = led t A i links U.values U.limits U.room U.accepted.links_in (target G e) es (row_link row e) a.1 (rw (target_at g.edges g.source g.target e l) (link-in e l s)) in
      let in_path = (path-iff (schema_of t) (formed A).fits c (e ∷ es)).0 (rw (lt-ltb c g.nodes c-in) j) in
      record {
        stays = (omega (arith, L.room), rest.stays);
        same = rest.same ∙ ap (follow I es) (sym (link-is e l s)) ∙ sym (follow-added (formed A) valid c-in is_row L.links_in e es in_path);
      }

  -- ---- both sides of an equation
  pub left-led : (k : ℕ) → k < t.equations → (get_or t.left k no_path).start ≡ c → RowLed (path_of (get_or t.left k no_path)).edges
  left-led k l s = row-led _ (rw (← s) (sides-at t A k l).left_joins)

  pub right-led : (k : ℕ) → k < t.equations → (get_or t.left k no_path).start ≡ c → RowLed (path_of (get_or t.right k no_path)).edges
  right-led k l s = row-led _ (rw (← s, (sides-at t A k l).one_start) (sides-at t A k l).right_joins)

  pub equations-test : row_obeys_equations (schema_of t) I c R ≡ all (bent_test t c links row (get_or i.counts c 0)) (tabulate t.equations (λ k. k))
  equations-test =
      all_filter (λ q. eqb q.left.start c) (λ q. eqb (follow (added (schema_of t) I R) q.left.edges (count I c)) (follow (added (schema_of t) I R) q.right.edges (count I c))) (schema_of t).equations
      ∙ all_same _ (bent_test t c links row (get_or i.counts c 0)) t.equations (λ k. equation_of (get_or t.left k no_path) (get_or t.right k no_path)) (λ k. k) (λ k l. here k l (eqb (get_or t.left k no_path).start c) refl)
    where
      here : (k : ℕ) → k < t.equations → (b : Bool) → eqb (get_or t.left k no_path).start c ≡ b
          → cond b (eqb (follow (added (schema_of t) I R) (path_of (get_or t.left k no_path)).edges (count I c)) (follow (added (schema_of t) I R) (path_of (get_or t.right k no_path)).edges (count I c))) true
          ≡ cond b (eqb (follow_row row links (path_of (get_or t.left k no_path)).edges (get_or i.counts c 0)) (follow_row row links (path_of (get_or t.right k no_path)).edges (get_or i.counts c 0))) true
      here k l true e = let s = eqb-true _ _ e in ap₂ eqb (sym (left-led k l s).same) (sym (right-led k l s).same)
      here k l false e = refl
