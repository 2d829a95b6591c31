-- What a mapping that passed test 7 gives, by its arrays.
use Prim.Native.Nat.{ℕ, ◌<◌}
use mathlib.Core.Path.{◌≡◌, sym, ap, ◌∙◌}
use mathlib.Core.Bool.{true, ◌&&◌}
use borrow.Author.Tests.{ltb-true, eqb-true}
use lib.ListN.{length, get_or}
use lib.Dec.{ltb, eqb}
use Rattle.theory.specs.Schema.{endpoint}
use Rattle.meaning.specs.Lists.{upto, all}
use Rattle.meaning.specs.Schema.{source, target, joins}
use Rattle.meaning.specs.Judge.{edge_image_fits, attribute_image_fits}
use Rattle.meaning.specs.Views.{node_image}
use Rattle.meaning.proofs.Tabulate.{and_both}
use Rattle.meaning.proofs.Lists.{upto_all}
use Rattle.agreement.proofs.Mappings.{Fits}
use Rattle.schema.specs.declared.Schema.{Schema}
use Rattle.schema.specs.Decoded.{graph_of, schema_of, front_of}
use Rattle.schema.proofs.GraphEdges.{edges-count, source-at, target_at}
use Rattle.schema.proofs.SoundSchema.{source_in, target-in}
use Rattle.mapping.specs.declared.Mapping.{Mapping}
use Rattle.mapping.specs.Decoded.{mapping_of}
use Rattle.mapping.proofs.Viewing.{node_at, edge-at}
use Rattle.mapping.proofs.Fitting.{attribute_test, attributes-test, fits_by}
use Rattle.mapping.proofs.Imaging.{fits}
use Rattle.delta.specs.Pulled.{Fitting, edges_of_image}

-- the image of attribute a is an attribute of T, at the image of a's node
pub record AttributeFits (s t : Schema) (f : Mapping) (a : ℕ) : Type 0 where
  pub attribute-in : get_or f.attribute a 0 < t.attributes
  pub home_is : get_or t.node (get_or f.attribute a 0) 0 ≡ get_or f.node (get_or s.node a 0) 0

module _ {s t : Schema} {f : Mapping} (B : Fitting s t f) where
  image-fits : Fits (schema_of s) (schema_of t) (mapping_of s f)
  image-fits = fits s (schema_of t) f B.fits

  pub node_in : (c : ℕ) → c < s.graph.nodes → get_or f.node c 0 < t.graph.nodes
  node_in c l = rw (node_at s f c l) at (image-fits.node_in c l)

  -- ---- of an edge
  pub source_is : (e : ℕ) → e < s.graph.edges → node_image (mapping_of s f) (source (graph_of s.graph) e) ≡ get_or f.node (get_or s.graph.source e 0) 0
  source_is e l =
      ap (node_image (mapping_of s f)) (source-at s.graph.edges s.graph.source s.graph.target e l)
      ∙ node_at s f (get_or s.graph.source e 0) (source_in s B.source e l)

  target_is : (e : ℕ) → e < s.graph.edges → node_image (mapping_of s f) (target (graph_of s.graph) e) ≡ get_or f.node (get_or s.graph.target e 0) 0
  target_is e l =
      ap (node_image (mapping_of s f)) (target_at s.graph.edges s.graph.source s.graph.target e l)
      ∙ node_at s f (get_or s.graph.target e 0) (target-in s B.source e l)

  edge_in : (e : ℕ) → e < s.graph.edges → e < length (schema_of s).graph.edges
  edge_in e l = rw (edges-count s.graph.edges s.graph.source s.graph.target) l

  pub edge_joins : (e : ℕ) → e < s.graph.edges → joins (graph_of t.graph) (get_or f.node (get_or s.graph.source e 0) 0) (edges_of_image f e) ≡ true
  edge_joins e l = rw (source_is e l, edge-at s f e l) at (image-fits.edge_joins e (edge_in e l))

  pub end_in : (e : ℕ) → e < s.graph.edges → endpoint (target (graph_of t.graph)) (get_or f.node (get_or s.graph.source e 0) 0) (edges_of_image f e) < t.graph.nodes
  end_in e l =
      let h = rw (source_is e l, edge-at s f e l, target_is e l) at (image-fits.edge_end e (edge_in e l)) in
      rw h (node_in (get_or s.graph.target e 0) (target-in s B.source e l))

  -- ---- of an attribute
  pub attribute-fits : (a : ℕ) → a < s.attributes → AttributeFits s t f a
  attribute-fits a l =
      let nodes = all (λ d. ltb d t.graph.nodes) (front_of s.graph.nodes f.node) in
      let edges = all (edge_image_fits (schema_of s) (schema_of t) (mapping_of s f)) (upto s.graph.edges) in
      let attributes = all (attribute_image_fits (schema_of s) (schema_of t) (mapping_of s f)) (upto s.attributes) in
      let b = get_or f.attribute a 0 in
      let here = ltb b t.attributes in
      let kind = eqb (get_or t.kind b 0) (get_or s.kind a 0) in
      let home = eqb (get_or t.node b 0) (get_or f.node (get_or s.node a 0) 0) in
      let u = (and_both (nodes && edges) attributes (sym (fits_by s t f) ∙ B.fits)).1 in
      let v = and_both (here && kind) home (upto_all (attribute_test t s.node s.kind f.node f.attribute) s.attributes (sym (attributes-test s t f B.source) ∙ u) a l) in
      let w = and_both here kind v.0 in
      record { attribute-in = ltb-true _ _ w.0; home_is = eqb-true _ _ v.1 }
