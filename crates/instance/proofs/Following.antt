-- Tests 9, 10 and 11 over the working arrays of an instance, and links followed there.
use Prim.Native.Nat.{ℕ, ◌+◌, ◌*◌, ◌≤◌, ◌<◌}
use mathlib.Core.Path.{◌≡◌, refl, sym, ap, ap₂, ◌∙◌}
use mathlib.Core.Bool.{Bool, true, ◌&&◌}
use mathlib.Core.List.{List, [], ◌∷◌}
use native.Mathlib.Omega.{arith}
use native.Mathlib.Nat.{le_trans}
use borrow.Author.Tests.{ltb-true, eqb-true}
use lib.ListN.{length, get_or}
use lib.Dec.{ltb, eqb}
use Rattle.theory.specs.Numbering.{tabulate}
use Rattle.theory.specs.Instance as theory
use Rattle.theory.specs.Schema.{endpoint}
use Rattle.theory.proofs.Numbering.{tabulate-length, tabulate-get_or}
use Rattle.meaning.specs.Lists.{upto, all}
use Rattle.meaning.specs.Schema.{Attribute, Equation, attribute_at, source, target, joins}
use Rattle.meaning.specs.Formats.{Kinds, Instance, in_range}
use Rattle.meaning.specs.Views.{count, column, follow, rows}
use Rattle.meaning.specs.Judge.{links_in_range, values_in_range}
use Rattle.meaning.specs.Rows.{row_links_in_range}
use Rattle.meaning.proofs.Tabulate.{and_both, all-at, upto-tabulate, all_same}
use Rattle.schema.specs.declared.Schema.{Schema}
use Rattle.schema.specs.Decoded.{graph_of, path_of, no_path, equation_of, schema_of}
use Rattle.schema.specs.Judged.{Sound}
use Rattle.schema.proofs.GraphEdges.{edges-count, source-at, target_at}
use Rattle.schema.proofs.SoundSchema.{source_in, target-in, sides-at}
use Rattle.instance.specs.declared.Instance as declared
use Rattle.instance.specs.Decoded.{rows_of, column_of, tables_of, Limits}
use Rattle.instance.specs.Tested.{link_test, value_test}
use Rattle.instance.specs.Followed.{link_in, Stays, Followable, agree_on}
use Rattle.instance.proofs.Columns.{sum_of-part}

-- the two sides of an equation lead each row to the same row
abbrev pub equation_test : Instance → Equation → Bool
equation_test I q = all (λ r. eqb (follow I q.left.edges r) (follow I q.right.edges r)) (rows I q.left.start)

module _ (t : Schema) (A : Sound t) (i : declared.Instance) (links values : List ℕ) where
  pub count_at : (c : ℕ) → c < t.graph.nodes → count (tables_of t i links values) c ≡ get_or i.counts c 0
  count_at c l = tabulate-get_or t.graph.nodes (λ k. get_or i.counts k 0) 0 c l

  -- ---- the links of an instance j, as rows of the tables of i
  module _ (j : declared.Instance) (links' values' : List ℕ) where
    links-at : (e : ℕ) → e < t.graph.edges
        → all (λ r. ltb r (count (tables_of t i links values) (target (graph_of t.graph) e))) (get_or (tables_of t j links' values').links e [])
        ≡ link_test t.graph.source t.graph.target j.counts i.counts links' e
    links-at e l =
        let a : count (tables_of t i links values) (target (graph_of t.graph) e) ≡ rows_of t.graph.target i.counts e =
        ap (count (tables_of t i links values)) (target_at t.graph.edges t.graph.source t.graph.target e l) ∙ count_at (get_or t.graph.target e 0) (target-in t A e l)
        in
        let b : get_or (tables_of t j links' values').links e [] ≡ column_of links' (512 * e) (rows_of t.graph.source j.counts e) =
        tabulate-get_or t.graph.edges (λ k. column_of links' (512 * k) (rows_of t.graph.source j.counts k)) [] e l
        in
        ap₂ (λ (n : ℕ) (xs : List ℕ). all (λ r. ltb r n) xs) a b

    pub row-links-test : row_links_in_range (schema_of t) (tables_of t i links values) (tables_of t j links' values')
        ≡ all (link_test t.graph.source t.graph.target j.counts i.counts links') (tabulate t.graph.edges (λ e. e))
    row-links-test =
        rw (edges-count t.graph.edges t.graph.source t.graph.target, upto-tabulate t.graph.edges)
        (all_same _ _ t.graph.edges (λ e. e) (λ e. e) links-at)

module _ (t : Schema) (A : Sound t) (i : declared.Instance) (links values : List ℕ) where
  abbrev I : Instance
  I = tables_of t i links values

  -- ---- links and values in range
  pub links-test : links_in_range (schema_of t) I ≡ all (link_test t.graph.source t.graph.target i.counts i.counts links) (tabulate t.graph.edges (λ e. e))
  links-test = row-links-test t A i links values i links values

  abbrev attribute : ℕ → Attribute
  attribute a = record { node = get_or t.node a 0; kind = get_or t.kind a 0 }

  values-at : (ks : Kinds) (a : ℕ) → a < t.attributes → all (in_range ks (attribute_at (schema_of t) a).kind) (column I a) ≡ value_test t.node t.kind i.counts values ks a
  values-at ks a l =
      let b : attribute_at (schema_of t) a ≡ attribute a = tabulate-get_or t.attributes attribute _ a l in
      let d : column I a ≡ column_of values (512 * a) (rows_of t.node i.counts a) = tabulate-get_or t.attributes (λ k. column_of values (512 * k) (rows_of t.node i.counts k)) [] a l in
      ap₂ (λ (x : Attribute) (xs : List ℕ). all (in_range ks x.kind) xs) b d

  pub values-test : (ks : Kinds) → values_in_range ks (schema_of t) I ≡ all (value_test t.node t.kind i.counts values ks) (tabulate t.attributes (λ a. a))
  values-test ks =
      rw (tabulate-length t.attributes attribute, upto-tabulate t.attributes)
      (all_same _ _ t.attributes (λ a. a) (λ a. a) (values-at ks))

  -- ---- links followed
  module _ (L : Limits t i) (long : 512 * t.graph.edges ≤ length links) (in-range : links_in_range (schema_of t) I ≡ true) where
    pub rows_few : (c : ℕ) → c < t.graph.nodes → get_or i.counts c 0 ≤ 512
    rows_few c l = le_trans (sum_of-part t.graph.nodes (λ k. get_or i.counts k 0) c l) L.rows

    pub link-in : (e : ℕ) → e < t.graph.edges → (r : ℕ) → r < rows_of t.graph.source i.counts e → link_in links e r < rows_of t.graph.target i.counts e
    link-in e l r h =
        let a = all-at (link_test t.graph.source t.graph.target i.counts i.counts links) t.graph.edges (λ k. k) (sym links-test ∙ in-range) e l in
        ltb-true _ _ (all-at (λ x. ltb x (rows_of t.graph.target i.counts e)) (rows_of t.graph.source i.counts e) (λ k. get_or links (512 * e + k) 0) a r h)

    pub link-is : (e : ℕ) → e < t.graph.edges → (r : ℕ) → r < rows_of t.graph.source i.counts e → link_in links e r ≡ Rattle.meaning.specs.Views.link I e r
    link-is e l r h =
        sym (ap (λ (xs : List ℕ). get_or xs r 0) (tabulate-get_or t.graph.edges (λ k. column_of links (512 * k) (rows_of t.graph.source i.counts k)) [] e l)
        ∙ tabulate-get_or (rows_of t.graph.source i.counts e) (λ k. get_or links (512 * e + k) 0) 0 r h)

    -- what edges that join up give, from row r of node n on
    pub record Led (n : ℕ) (es : List ℕ) (r : ℕ) : Type 0 where
      pub stays : Stays links es r
      pub same : theory.follow (link_in links) es r ≡ follow I es r
      pub row_in : theory.follow (link_in links) es r < get_or i.counts (endpoint (target (graph_of t.graph)) n es) 0

    pub led : (n : ℕ) (es : List ℕ) (r : ℕ) → joins (graph_of t.graph) n es ≡ true → r < get_or i.counts n 0 → Led n es r
    led n [] r j h = record { stays = tt; same = refl; row_in = h }
    led n (e ∷ es) r j h =
        let g = t.graph in
        let a = and_both (ltb e (length (graph_of g).edges) && eqb (source (graph_of g) e) n) (joins (graph_of g) (target (graph_of g) e) es) j in
        let b = and_both (ltb e (length (graph_of g).edges)) (eqb (source (graph_of g) e) n) a.0 in
        let m : e < length (graph_of g).edges = ltb-true _ _ b.0 in
        let l : e < g.edges = rw (edges-count g.edges g.source g.target) at m in
        let s : get_or g.source e 0 ≡ n = sym (source-at g.edges g.source g.target e l) ∙ eqb-true _ _ b.1 in
        let k : r < rows_of g.source i.counts e = rw s h in
        let rest = led (target (graph_of g) e) es (link_in links e r) a.1 (rw (target_at g.edges g.source g.target e l) (link-in e l r k)) in
        record {
          stays = (omega (arith, rows_few (get_or g.source e 0) (source_in t A e l), A.limits.edges), rest.stays);
          same = rest.same ∙ ap (follow I es) (link-is e l r k);
          row_in = rest.row_in;
        }

    -- ---- equations obeyed
    pub equation-at : (k : ℕ) → k < t.equations →
        equation_test I (equation_of (get_or t.left k no_path) (get_or t.right k no_path))
        ≡ agree_on links (path_of (get_or t.left k no_path)).edges (path_of (get_or t.right k no_path)).edges (get_or i.counts (get_or t.left k no_path).start 0)
    equation-at k l =
        let p = get_or t.left k no_path in
        let q = get_or t.right k no_path in
        let S = sides-at t A k l in
        let n = get_or i.counts p.start 0 in
        let e : rows I p.start ≡ tabulate n (λ r. r) = ap upto (count_at t A i links values p.start S.start_in) ∙ upto-tabulate n in
        ap (all (λ r. eqb (follow I (path_of p).edges r) (follow I (path_of q).edges r))) e
        ∙ all_same _ _ n (λ r. r) (λ r. r)
        (λ r h. ap₂ eqb (sym (led p.start (path_of p).edges r S.left_joins h).same) (sym (led q.start (path_of q).edges r S.right_joins (rw (← S.one_start) h)).same))

    pub left-followable : (k : ℕ) → k < t.equations → Followable links (path_of (get_or t.left k no_path)).edges (get_or i.counts (get_or t.left k no_path).start 0)
    left-followable k l = let S = sides-at t A k l in record { stays = λ r h. (led (get_or t.left k no_path).start (path_of (get_or t.left k no_path)).edges r S.left_joins h).stays }

    pub right-followable : (k : ℕ) → k < t.equations → Followable links (path_of (get_or t.right k no_path)).edges (get_or i.counts (get_or t.left k no_path).start 0)
    right-followable k l = let S = sides-at t A k l in record { stays = λ r h. (led (get_or t.right k no_path).start (path_of (get_or t.right k no_path)).edges r S.right_joins (rw (← S.one_start) h)).stays }
