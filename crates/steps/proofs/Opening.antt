-- What opened sheets give to Pi.
use Rattle.pi.specs.Given.{Mapped}
use Rattle.steps.specs.declared.open.Opened.{Opened}
use Rattle.steps.specs.Opened.{Ready}

-- what Pi takes of the sheets of S, T and a mapping
pub mapped : {o : Opened} → Ready o → Mapped o.source o.target o.target_paths o.mapping
mapped R = record { source = R.schemas.source; target = R.schemas.target; is_paths = R.schemas.target-paths; short = R.mapping.short; fits = R.mapping.fits; keeps = R.mapping.keeps }
