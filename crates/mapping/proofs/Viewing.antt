-- A decoded mapping, read by node, edge and attribute; and a loop over all numbers below a bound.
use Prim.Native.Nat.{ℕ, ◌<◌, ◌≤◌}
use mathlib.Core.Path.{◌≡◌, ap, ◌∙◌}
use mathlib.Core.Bool.{Bool, true, false}
use lib.ListN.{length, get_or}
use Rattle.theory.proofs.Numbering.{tabulate-length, tabulate-get_or}
use Rattle.meaning.specs.Lists.{upto, all}
use Rattle.meaning.specs.Schema.{Attribute, attribute_at}
use Rattle.meaning.specs.Views.{node_image, edge_image, attribute_image}
use Rattle.meaning.proofs.Tabulate.{upto-tabulate, Passed, passed-fail, passed-done}
use Rattle.schema.specs.declared.Schema.{Schema}
use Rattle.schema.specs.Decoded.{schema_of}
use Rattle.mapping.specs.declared.Mapping.{Mapping}
use Rattle.mapping.specs.Decoded.{image_of, no_image, mapping_of}

-- ---- images
module _ (s : Schema) (f : Mapping) where
  pub node_at : (c : ℕ) → c < s.graph.nodes → node_image (mapping_of s f) c ≡ get_or f.node c 0
  node_at c l = tabulate-get_or s.graph.nodes (λ i. get_or f.node i 0) 0 c l

  pub edge-at : (e : ℕ) → e < s.graph.edges → edge_image (mapping_of s f) e ≡ image_of (get_or f.edge e no_image)
  edge-at e l = tabulate-get_or s.graph.edges (λ i. image_of (get_or f.edge i no_image)) _ e l

  pub attribute-at : (a : ℕ) → a < s.attributes → attribute_image (mapping_of s f) a ≡ get_or f.attribute a 0
  attribute-at a l = tabulate-get_or s.attributes (λ i. get_or f.attribute i 0) 0 a l

-- ---- attributes of a schema
module _ (s : Schema) where
  abbrev attribute : ℕ → Attribute
  attribute a = record { node = get_or s.node a 0; kind = get_or s.kind a 0 }

  pub attributes-count : length (schema_of s).attributes ≡ s.attributes
  attributes-count = tabulate-length s.attributes attribute

  pub attribute-is : (a : ℕ) → a < s.attributes → attribute_at (schema_of s) a ≡ attribute a
  attribute-is a l = tabulate-get_or s.attributes attribute _ a l

-- ---- a loop that tests all numbers below n
module _ {f : ℕ → Bool} {n i : ℕ} (u : Passed f n (λ k. k) i) where
  pub upto-fail : i < n → f i ≡ false → all f (upto n) ≡ false
  upto-fail l e = ap (all f) (upto-tabulate n) ∙ passed-fail u l e

  pub upto_done : n ≤ i → all f (upto n) ≡ true
  upto_done l = ap (all f) (upto-tabulate n) ∙ passed-done u l
