-- From what is decoded to what is said of a sheet.
use Prim.Native.Nat.{ℕ, min, ◌<◌, ◌≤◌}
use mathlib.Core.Path.{◌≡◌}
use mathlib.Core.Bool.{true, false, ◌&&◌}
use native.Mathlib.Omega.{arith}
use borrow.Author.Tests.{ltb-true, le-leb, lt-leb}
use lib.ListN.{get_or}
use lib.Dec.{ltb, leb}
use Rattle.meaning.specs.Lists.{all}
use Rattle.meaning.specs.Judge.{edge_fits, attribute_fits, equation_fits, is_well_formed}
use Rattle.meaning.proofs.Tabulate.{and_both, all-at}
use Rattle.schema.specs.declared.Schema.{Schema}
use Rattle.schema.specs.Decoded.{Limits, graph_of, schema_of}
use Rattle.schema.specs.Counted.{Fit}

-- the edges of a well formed schema join nodes
pub fit : {t : Schema} → Limits t → is_well_formed (schema_of t) ≡ true → Fit t.graph
fit {t} k h = record { nodes = k.nodes; edges = k.edges; sources = λ e l. (ends e l).0; targets = λ e l. (ends e l).1 }
  where
    edges : all (edge_fits (graph_of t.graph)) (graph_of t.graph).edges ≡ true
    edges =
        let G = graph_of t.graph in
        let a = all (edge_fits G) G.edges in
        let b = all (attribute_fits G) (schema_of t).attributes in
        (and_both a b (and_both (a && b) (all (equation_fits G) (schema_of t).equations) h).0).0

    ends : (e : ℕ) → e < t.graph.edges → (get_or t.graph.source e 0 < t.graph.nodes) × (get_or t.graph.target e 0 < t.graph.nodes)
    ends e l =
        let s = get_or t.graph.source e 0 in
        let d = get_or t.graph.target e 0 in
        let x = and_both (ltb s t.graph.nodes) (ltb d t.graph.nodes) (all-at (edge_fits (graph_of t.graph)) t.graph.edges (λ i. record { source = get_or t.graph.source i 0; target = get_or t.graph.target i 0 }) edges e l) in
        (ltb-true s t.graph.nodes x.0, ltb-true d t.graph.nodes x.1)

-- more than 256 paths, and at most 256, by the capped count
module _ (n : ℕ) {p : ℕ} (e : p ≡ min 257 n) where
  pub crowd : 256 < p → leb n 256 ≡ false
  crowd h = lt-leb n 256 (omega arith)

  pub no-crowd : p ≤ 256 → leb n 256 ≡ true
  no-crowd h = le-leb n 256 (omega arith)
