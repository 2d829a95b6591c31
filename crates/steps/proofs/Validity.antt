-- An accepted mapping that was opened is valid, as `agreement` has it.
use mathlib.Core.Path.{sym, ◌∙◌}
use lib.ListN.{get_or}
use Rattle.theory.proofs.Numbering.{tabulate-length}
use Rattle.agreement.proofs.Categories.{listed-category}
use Rattle.agreement.proofs.Mappings.{mapping-is}
use Rattle.agreement.specs.Valid.{ValidMapping}
use Rattle.schema.specs.declared.Schema.{Schema}
use Rattle.schema.specs.Decoded.{schema_of, category_of}
use Rattle.schema.specs.Judged.{Sound}
use Rattle.paths.proofs.TablePaths.{formed}
use Rattle.mapping.specs.declared.Mapping.{Mapping}
use Rattle.mapping.specs.Decoded.{mapping_of}
use Rattle.mapping.specs.Judged as mapping
use Rattle.mapping.proofs.Viewing.{attributes-count}
use Rattle.steps.specs.declared.open.Opened.{Opened}
use Rattle.steps.specs.Opened.{Ready}

pub sound-valid : {s t : Schema} {f : Mapping} → Sound s → Sound t → mapping.Sound s t f → ValidMapping (category_of s) (category_of t) (mapping_of s f)
sound-valid {s} {t} {f} S T F =
    let s_is = listed-category (schema_of s) (formed S) in
    let t_is = listed-category (schema_of t) (formed T) in
    record {
      s_is = s_is;
      t_is = t_is;
      attributes = tabulate-length s.attributes (λ k. get_or f.attribute k 0) ∙ sym (attributes-count s);
      is = mapping-is (category_of s) (category_of t) (mapping_of s f) s_is t_is (tabulate-length s.graph.nodes (λ k. get_or f.node k 0)) F.fits F.keeps;
    }

pub ready-valid : {o : Opened} → Ready o → ValidMapping (category_of o.source) (category_of o.target) (mapping_of o.source o.mapping)
ready-valid R = sound-valid R.schemas.source R.schemas.target R.mapping
