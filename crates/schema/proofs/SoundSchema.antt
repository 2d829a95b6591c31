-- What a sound schema's arrays hold: nodes and edges that exist, and equations between paths with one start and one end.
use Prim.Native.Nat.{ℕ, ◌<◌}
use mathlib.Core.Path.{◌≡◌}
use mathlib.Core.Bool.{Bool, true, ◌&&◌}
use lib.ListN.{get_or}
use lib.Dec.{ltb, eqb}
use borrow.Author.Tests.{ltb-true, eqb-true}
use Rattle.meaning.specs.Lists.{all}
use Rattle.meaning.specs.Schema.{Attribute, Equation, end, joins, is_path}
use Rattle.meaning.specs.Judge.{edge_fits, attribute_fits, equation_fits}
use Rattle.meaning.proofs.Tabulate.{and_both, all-at}
use Rattle.schema.specs.declared.Path.{Path}
use Rattle.schema.specs.declared.Schema.{Schema}
use Rattle.schema.specs.Decoded.{path_of, no_path, graph_of, equation_of, schema_of}
use Rattle.schema.specs.Judged.{Sound}
use Rattle.schema.proofs.Judging.{fit}

-- two paths with one start and one end
pub record Sides (t : Schema) (l r : Path) : Type 0 where
  pub left_path : is_path (graph_of t.graph) (path_of l) ≡ true
  pub right_path : is_path (graph_of t.graph) (path_of r) ≡ true
  pub start_in : l.start < t.graph.nodes
  pub left_joins : joins (graph_of t.graph) l.start (path_of l).edges ≡ true
  pub right_joins : joins (graph_of t.graph) r.start (path_of r).edges ≡ true
  pub one_start : l.start ≡ r.start
  pub one_end : end (graph_of t.graph) (path_of l) ≡ end (graph_of t.graph) (path_of r)

module _ (t : Schema) (A : Sound t) where
  abbrev edges_fit : Bool
  edges_fit = all (edge_fits (graph_of t.graph)) (graph_of t.graph).edges

  abbrev attributes_fit : Bool
  attributes_fit = all (attribute_fits (graph_of t.graph)) (schema_of t).attributes

  abbrev equations_fit : Bool
  equations_fit = all (equation_fits (graph_of t.graph)) (schema_of t).equations

  pub source_in : (e : ℕ) → e < t.graph.edges → get_or t.graph.source e 0 < t.graph.nodes
  source_in = (fit A.limits A.well-formed).sources

  pub target-in : (e : ℕ) → e < t.graph.edges → get_or t.graph.target e 0 < t.graph.nodes
  target-in = (fit A.limits A.well-formed).targets

  pub home_in : (a : ℕ) → a < t.attributes → get_or t.node a 0 < t.graph.nodes
  home_in a l =
      let fits = (and_both edges_fit attributes_fit (and_both (edges_fit && attributes_fit) equations_fit A.well-formed).0).1 in
      ltb-true _ _ (all-at {A = Attribute} (attribute_fits (graph_of t.graph)) t.attributes (λ k. record { node = get_or t.node k 0; kind = get_or t.kind k 0 }) fits a l)

  pub sides-at : (k : ℕ) → k < t.equations → Sides t (get_or t.left k no_path) (get_or t.right k no_path)
  sides-at k l =
      let p = get_or t.left k no_path in
      let q = get_or t.right k no_path in
      let G = graph_of t.graph in
      let fits = (and_both (edges_fit && attributes_fit) equations_fit A.well-formed).1 in
      let a = all-at {A = Equation} (equation_fits G) t.equations (λ j. equation_of (get_or t.left j no_path) (get_or t.right j no_path)) fits k l in
      let b = and_both (is_path G (path_of p) && is_path G (path_of q) && eqb p.start q.start) (eqb (end G (path_of p)) (end G (path_of q))) a in
      let d = and_both (is_path G (path_of p) && is_path G (path_of q)) (eqb p.start q.start) b.0 in
      let e = and_both (is_path G (path_of p)) (is_path G (path_of q)) d.0 in
      let f = and_both (ltb p.start t.graph.nodes) (joins G p.start (path_of p).edges) e.0 in
      let g = and_both (ltb q.start t.graph.nodes) (joins G q.start (path_of q).edges) e.1 in
      record {
        left_path = e.0;
        right_path = e.1;
        start_in = ltb-true _ _ f.0;
        left_joins = f.1;
        right_joins = g.1;
        one_start = eqb-true _ _ d.1;
        one_end = eqb-true _ _ b.1;
      }
