-- Attributes over an attribute, by arrays.
use Prim.Native.Nat.{ℕ}
use mathlib.Core.Path.{◌≡◌, ap, ◌∙◌}
use mathlib.Core.Bool.{◌&&◌}
use lib.ListN.{length}
use lib.Dec.{eqb}
use Rattle.meaning.specs.Lists.{upto, filter, head_or}
use Rattle.meaning.specs.Schema as meaning
use Rattle.meaning.specs.Schema.{attribute_at}
use Rattle.meaning.specs.Formats as formats
use Rattle.meaning.specs.Views.{attribute_image}
use Rattle.meaning.specs.Evenness.{attributes_over}
use Rattle.meaning.specs.Sigma.{attribute_over}
use Rattle.meaning.proofs.Lists.{of-upto}
use Rattle.schema.specs.declared.Schema.{Schema}
use Rattle.schema.specs.Decoded.{schema_of}
use Rattle.mapping.specs.declared.Mapping.{Mapping}
use Rattle.mapping.specs.Decoded.{mapping_of}
use Rattle.mapping.proofs.Viewing.{attribute-at, attributes-count, attribute-is}
use Rattle.mapping.proofs.Counting.{filter-filter, filter_same}
use Rattle.lifts.specs.Even.{is_over}

module _ (s : Schema) (f : Mapping) where
  abbrev S : meaning.Schema
  S = schema_of s

  abbrev F : formats.Mapping
  F = mapping_of s f

  pub attributes-over : (c b : ℕ) → attributes_over S F c b ≡ filter (is_over s.node f.attribute c b) (upto s.attributes)
  attributes-over c b =
      filter-filter (λ a. eqb (attribute_at S a).node c) (λ a. eqb (attribute_image F a) b) (upto (length S.attributes))
      ∙ ap (λ (n : ℕ). filter (λ a. eqb (attribute_at S a).node c && eqb (attribute_image F a) b) (upto n)) (attributes-count s)
      ∙ filter_same (λ a. eqb (attribute_at S a).node c && eqb (attribute_image F a) b) (is_over s.node f.attribute c b) (upto s.attributes)
      (λ a i. let l = of-upto s.attributes i in rw (attribute-is s a l, attribute-at s f a l))

  -- the one that `first_over` finds
  pub attribute-over : (c b : ℕ) → attribute_over S F c b ≡ head_or 0 (filter (is_over s.node f.attribute c b) (upto s.attributes))
  attribute-over c b = ap (head_or 0) (attributes-over c b)
