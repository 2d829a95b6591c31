-- Sigma of an accepted run is valid, and has as many rows as the run: 15 never arises for it.
use Prim.Native.Nat.{ℕ}
use mathlib.Core.Path.{◌≡◌}
use mathlib.Core.Bool.{true}
use mathlib.Core.List.{List}
use Rattle.theory.specs.Mapping.{Even}
use Rattle.meaning.specs.Lists.{sum_of}
use Rattle.meaning.specs.Schema as meaning
use Rattle.meaning.specs.Formats as formats
use Rattle.meaning.specs.Formats.{kinds}
use Rattle.meaning.specs.Views as views
use Rattle.meaning.specs.Judge.{links_in_range}
use Rattle.meaning.specs.Sigma.{sigma}
use Rattle.meaning.specs.Category.{listed_category}
use Rattle.agreement.proofs.Instances.{links-iff}
use Rattle.agreement.specs.Valid.{ValidMapping, ValidInstance}
use Rattle.agreement.proofs.Evenness.{even-iff}
use Rattle.agreement.proofs.Sigma.{sigma-total, sigma-valid}
use Rattle.schema.specs.Decoded.{schema_of}
use Rattle.instance.specs.Decoded.{tables_of}
use Rattle.mapping.specs.Decoded.{mapping_of}
use Rattle.steps.specs.declared.open.Opened.{Opened}
use Rattle.migration.specs.declared.sides.Sides.{Sides}
use Rattle.migration.specs.Sides.{Migratable}
use Rattle.instance.proofs.Validity.{accepted-valid}
use Rattle.steps.proofs.Validity.{ready-valid}

-- ---- the run and its Sigma

module _ {o : Opened} {x : Sides} {links values links' values' : List ℕ} (M : Migratable o x links values links' values') where
  abbrev S : meaning.Schema
  S = schema_of o.source

  abbrev T : meaning.Schema
  T = schema_of o.target

  abbrev F : formats.Mapping
  F = mapping_of o.source o.mapping

  abbrev run : formats.Instance
  run = tables_of o.source x.run links values

  mapping-valid : ValidMapping (listed_category S) (listed_category T) F
  mapping-valid = ready-valid M.ready

  mapping-even : Even (views.mapping_of S T F)
  mapping-even = (even-iff mapping-valid).0 M.is-even

  run-valid : ValidInstance S run
  run-valid = accepted-valid M.ready.schemas.source x.run links values M.run.limits M.run.accepted

  pub pushed-valid : ValidInstance T (sigma (listed_category S) (listed_category T) F run)
  pushed-valid = sigma-valid mapping-valid mapping-even run-valid

  pub pushed-rows : sum_of (sigma (listed_category S) (listed_category T) F run).counts ≡ sum_of run.counts
  pushed-rows = sigma-total mapping-valid mapping-even run-valid

  pub pushed-links-in : links_in_range T (sigma (listed_category S) (listed_category T) F run) ≡ true
  pushed-links-in = (links-iff kinds T (sigma (listed_category S) (listed_category T) F run) pushed-valid.shaped).1 pushed-valid.is.link-in
