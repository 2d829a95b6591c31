-- A path followed edge by edge, in a decoded graph.
use Prim.Native.Nat.{ℕ, ◌+◌, ◌<◌, ◌≤◌}
use mathlib.Core.Path.{◌≡◌, refl, ap, ◌∙◌}
use mathlib.Core.Bool.{true, false}
use mathlib.Core.List.{◌∷◌}
use native.Mathlib.Omega.{arith}
use borrow.Author.Tests.{ne_eqb, eq-eqb, le-ltb, lt-ltb}
use lib.ListN.{get_or, drop}
use Rattle.theory.specs.Schema.{endpoint}
use Rattle.meaning.specs.Schema.{target, joins}
use Rattle.meaning.proofs.Tabulate.{rest_more, rest-done}
use Rattle.schema.specs.declared.Graph.{Graph}
use Rattle.schema.specs.declared.Path.{Path}
use Rattle.schema.specs.Decoded.{graph_of, path_of}
use Rattle.schema.proofs.GraphEdges.{edges-count, source-at, target_at}

-- i edges are gone, and lead to node
module _ (g : Graph) (p : Path) where
  pub record Gone (i node : ℕ) : Type 0 where
    pub some : i ≤ p.length
    pub joined : joins (graph_of g) p.start (path_of p).edges ≡ joins (graph_of g) node (drop i (path_of p).edges)
    pub led : endpoint (target (graph_of g)) p.start (path_of p).edges ≡ endpoint (target (graph_of g)) node (drop i (path_of p).edges)

  pub gone-start : Gone 0 p.start
  gone-start = record { some = omega arith; joined = refl; led = refl }

  next : (i : ℕ) → i < p.length → drop i (path_of p).edges ≡ get_or p.edges i 0 ∷ drop (i + 1) (path_of p).edges
  next i l = rest_more (λ k. get_or p.edges k 0) p.length i l

  pub gone-missing : {i node : ℕ} → Gone i node → i < p.length → g.edges ≤ get_or p.edges i 0 → joins (graph_of g) p.start (path_of p).edges ≡ false
  gone-missing {i} u l h = u.joined ∙ rw (next i l, edges-count g.edges g.source g.target, le-ltb (get_or p.edges i 0) g.edges h)

  pub gone-apart : {i node : ℕ} → Gone i node → i < p.length → get_or p.edges i 0 < g.edges → (get_or g.source (get_or p.edges i 0) 0 ≡ node → ⊥) →
      joins (graph_of g) p.start (path_of p).edges ≡ false
  gone-apart {i} {node} u l h n =
      let e = get_or p.edges i 0 in
      u.joined ∙ rw (next i l, edges-count g.edges g.source g.target, lt-ltb e g.edges h, source-at g.edges g.source g.target e h, ne_eqb (get_or g.source e 0) node n)

  pub gone-step : {i node : ℕ} → Gone i node → i < p.length → get_or p.edges i 0 < g.edges → get_or g.source (get_or p.edges i 0) 0 ≡ node →
      Gone (i + 1) (get_or g.target (get_or p.edges i 0) 0)
  gone-step {i} {node} u l h q =
      let e = get_or p.edges i 0 in
      record {
        some = omega arith;
        joined = u.joined ∙ rw (next i l, edges-count g.edges g.source g.target, lt-ltb e g.edges h, source-at g.edges g.source g.target e h, target_at g.edges g.source g.target e h, eq-eqb (get_or g.source e 0) node q);
        led = u.led ∙ ap (endpoint (target (graph_of g)) node) (next i l) ∙ ap (λ (x : ℕ). endpoint (target (graph_of g)) x (drop (i + 1) (path_of p).edges)) (target_at g.edges g.source g.target e h);
      }

  pub gone-done : {i node : ℕ} → Gone i node → p.length ≤ i →
      (joins (graph_of g) p.start (path_of p).edges ≡ true) × (endpoint (target (graph_of g)) p.start (path_of p).edges ≡ node)
  gone-done {i} u l =
      let d = rest-done (λ k. get_or p.edges k 0) p.length i l in
      (u.joined ∙ rw d, u.led ∙ rw d)
