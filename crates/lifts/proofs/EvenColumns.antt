-- The attributes' part of evenness by arrays, and both parts together.
use Prim.Native.Nat.{ℕ, ◌<◌}
use mathlib.Core.Path.{◌≡◌, sym, ap, ◌∙◌}
use mathlib.Core.Bool.{Bool, true, cond, ◌&&◌}
use mathlib.Core.List.{List}
use lib.ListN.{length, get_or}
use lib.Dec.{eqb}
use Rattle.meaning.specs.Lists.{upto, all}
use Rattle.meaning.specs.Schema as meaning
use Rattle.meaning.specs.Schema.{attribute_at}
use Rattle.meaning.specs.Formats as formats
use Rattle.meaning.specs.Views.{node_image}
use Rattle.meaning.specs.Evenness.{attributes_at, attributes_over, even_at, even}
use Rattle.meaning.proofs.Tabulate.{all-upto-same}
use Rattle.meaning.specs.Category.{listed_category}
use Rattle.schema.specs.declared.Schema.{Schema}
use Rattle.schema.specs.Decoded.{schema_of}
use Rattle.paths.specs.declared.Paths.{Paths}
use Rattle.paths.specs.Table.{Filled}
use Rattle.mapping.specs.declared.Mapping.{Mapping}
use Rattle.mapping.specs.Decoded.{mapping_of}
use Rattle.mapping.specs.Judged.{Schemas, Sound}
use Rattle.mapping.proofs.Viewing.{node_at, attributes-count, attribute-is}
use Rattle.meaning.proofs.Lists.{all_filter}
use Rattle.mapping.proofs.Counting.{all_both}
use Rattle.lifts.specs.Even.{image_class, even_column_at, even_columns_at, even_paths_at}
use Rattle.lifts.proofs.Columns.{attributes-over}
use Rattle.lifts.proofs.EvenPaths.{even-paths}

module _ (s t : Schema) (f : Mapping) where
  abbrev S : meaning.Schema
  S = schema_of s

  abbrev T : meaning.Schema
  T = schema_of t

  abbrev F : formats.Mapping
  F = mapping_of s f

  abbrev one : ℕ → ℕ → Bool
  one c b = eqb (length (attributes_over S F c b)) 1

  even-columns : (c : ℕ) → c < s.graph.nodes → even_columns_at s t f c ≡ all (one c) (attributes_at T (node_image F c))
  even-columns c l = sym (
      all_filter (λ b. eqb (attribute_at T b).node (node_image F c)) (one c) (upto (length T.attributes))
      ∙ ap (λ (n : ℕ). all (λ b. cond (eqb (attribute_at T b).node (node_image F c)) (one c b) true) (upto n)) (attributes-count t)
      ∙ all-upto-same (λ b. cond (eqb (attribute_at T b).node (node_image F c)) (one c b) true) (even_column_at s.node f.attribute s.attributes t.node c (get_or f.node c 0)) t.attributes
      (λ b k. rw (attribute-is t b k, node_at s f c l, attributes-over s f c b)))

  pub even-by : {source-paths target-paths : Paths} {over : List ℕ} → Schemas s t source-paths target-paths → Sound s t f → Filled 256 (image_class S T F) source-paths.count over →
      even (listed_category S) (listed_category T) F ≡ (all (even_paths_at source-paths target-paths over f.node) (upto s.graph.nodes) && all (even_columns_at s t f) (upto s.graph.nodes))
  even-by {source-paths} {target-paths} {over} h k o =
      all-upto-same (even_at (listed_category S) (listed_category T) F) (λ c. even_paths_at source-paths target-paths over f.node c && even_columns_at s t f c) s.graph.nodes
      (λ c l. rw (even-paths h k o c l, even-columns c l))
      ∙ all_both (even_paths_at source-paths target-paths over f.node) (even_columns_at s t f) (upto s.graph.nodes)
