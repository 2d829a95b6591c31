-- Refusal 7 by the arrays of a decoded mapping.
use Prim.Native.Nat.{ℕ, ◌<◌}
use mathlib.Core.Path.{◌≡◌, refl}
use mathlib.Core.Bool.{Bool, true, false, ◌&&◌}
use mathlib.Core.List.{List}
use borrow.Author.Tests.{ltb-true}
use lib.ListN.{get_or}
use lib.Dec.{ltb, eqb}
use Rattle.theory.specs.Schema.{endpoint}
use Rattle.meaning.specs.Lists.{upto, all}
use Rattle.meaning.specs.Schema.{target, joins, attribute_at}
use Rattle.meaning.specs.Judge.{edge_image_fits, attribute_image_fits, images_fit}
use Rattle.meaning.proofs.Tabulate.{all-at, all-upto-same}
use Rattle.schema.specs.declared.Graph.{Graph}
use Rattle.schema.specs.declared.Schema.{Schema}
use Rattle.schema.specs.Decoded.{graph_of, schema_of, front_of}
use Rattle.schema.specs.Judged.{Sound}
use Rattle.schema.proofs.GraphEdges.{edges-count, source-at, target_at}
use Rattle.schema.proofs.SoundSchema.{source_in, target-in, home_in}
use Rattle.mapping.specs.declared.Image.{Image}
use Rattle.mapping.specs.declared.Mapping.{Mapping}
use Rattle.mapping.specs.Decoded.{image_of, no_image, mapping_of}
use Rattle.mapping.specs.Judged.{NodesIn}
use Rattle.mapping.proofs.Viewing.{node_at, edge-at, attribute-at, attributes-count, attribute-is}

-- ---- the tests of an edge and of an attribute, by arrays
abbrev pub edge_test : Graph → Graph → List ℕ → List Image → ℕ → Bool
edge_test g h node edge e =
    joins (graph_of h) (get_or node (get_or g.source e 0) 0) (image_of (get_or edge e no_image)) &&
    eqb (endpoint (target (graph_of h)) (get_or node (get_or g.source e 0) 0) (image_of (get_or edge e no_image))) (get_or node (get_or g.target e 0) 0)

abbrev pub attribute_test : Schema → List ℕ → List ℕ → List ℕ → List ℕ → ℕ → Bool
attribute_test t homes kinds images columns a =
    ltb (get_or columns a 0) t.attributes && eqb (get_or t.kind (get_or columns a 0) 0) (get_or kinds a 0) && eqb (get_or t.node (get_or columns a 0) 0) (get_or images (get_or homes a 0) 0)

module _ (s t : Schema) (f : Mapping) (s_is : Sound s) where
  edge_test_lem : (e : ℕ) → e < s.graph.edges → edge_image_fits (schema_of s) (schema_of t) (mapping_of s f) e ≡ edge_test s.graph t.graph f.node f.edge e
  edge_test_lem e l =
      rw (
        source-at s.graph.edges s.graph.source s.graph.target e l,
        target_at s.graph.edges s.graph.source s.graph.target e l,
        edge-at s f e l,
        node_at s f (get_or s.graph.source e 0) (source_in s s_is e l),
        node_at s f (get_or s.graph.target e 0) (target-in s s_is e l),
      )

  pub edges-test : all (edge_image_fits (schema_of s) (schema_of t) (mapping_of s f)) (upto s.graph.edges) ≡ all (edge_test s.graph t.graph f.node f.edge) (upto s.graph.edges)
  edges-test = all-upto-same (edge_image_fits (schema_of s) (schema_of t) (mapping_of s f)) (edge_test s.graph t.graph f.node f.edge) s.graph.edges edge_test_lem

  attribute-test : (a : ℕ) → a < s.attributes → attribute_image_fits (schema_of s) (schema_of t) (mapping_of s f) a ≡ attribute_test t s.node s.kind f.node f.attribute a
  attribute-test a l =
      rw (attribute-at s f a l, attribute-is s a l, node_at s f (get_or s.node a 0) (home_in s s_is a l), attributes-count t) (go (ltb b t.attributes) refl)
    where
      b : ℕ
      b = get_or f.attribute a 0

      go : (x : Bool) → ltb b t.attributes ≡ x →
          (x && eqb (attribute_at (schema_of t) b).kind (get_or s.kind a 0) && eqb (attribute_at (schema_of t) b).node (get_or f.node (get_or s.node a 0) 0))
          ≡ (x && eqb (get_or t.kind b 0) (get_or s.kind a 0) && eqb (get_or t.node b 0) (get_or f.node (get_or s.node a 0) 0))
      go true e = rw (attribute-is t b (ltb-true b t.attributes e))
      go false e = refl

  pub attributes-test : all (attribute_image_fits (schema_of s) (schema_of t) (mapping_of s f)) (upto s.attributes) ≡ all (attribute_test t s.node s.kind f.node f.attribute) (upto s.attributes)
  attributes-test = all-upto-same (attribute_image_fits (schema_of s) (schema_of t) (mapping_of s f)) (attribute_test t s.node s.kind f.node f.attribute) s.attributes attribute-test

-- the nodes' test gives what the others rely on
pub nodes-in : {s t : Schema} {f : Mapping} → all (λ d. ltb d t.graph.nodes) (front_of s.graph.nodes f.node) ≡ true → NodesIn s t f
nodes-in {s} {t} {f} h = record { each = λ c l. ltb-true (get_or f.node c 0) t.graph.nodes (all-at (λ d. ltb d t.graph.nodes) s.graph.nodes (λ i. get_or f.node i 0) h c l) }

-- all three together
pub fits_by : (s t : Schema) (f : Mapping) → images_fit (schema_of s) (schema_of t) (mapping_of s f) ≡
    (all (λ d. ltb d t.graph.nodes) (front_of s.graph.nodes f.node) &&
    all (edge_image_fits (schema_of s) (schema_of t) (mapping_of s f)) (upto s.graph.edges) &&
    all (attribute_image_fits (schema_of s) (schema_of t) (mapping_of s f)) (upto s.attributes))
fits_by s t f = rw (edges-count s.graph.edges s.graph.source s.graph.target, attributes-count s)
