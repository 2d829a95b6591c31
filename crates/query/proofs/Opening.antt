-- The mappings of a query with their schemas, as the migrations take them.
use Rattle.steps.specs.Opened as migration
use Rattle.steps.specs.Opened.{opened_between}
use Rattle.query.specs.declared.open.Query.{Query}
use Rattle.query.specs.Opened.{Ready}

module _ {q : Query} (R : Ready q) where
  pub ready-g : migration.Ready (opened_between q.second q.third q.g)
  ready-g = record { schemas = record { source = R.schemas.second.sound; target = R.schemas.third.sound; source-paths = R.schemas.second.paths; target-paths = R.schemas.third.paths }; mapping = R.g }

  pub ready-h : migration.Ready (opened_between q.third q.fourth q.h)
  ready-h = record { schemas = record { source = R.schemas.third.sound; target = R.schemas.fourth.sound; source-paths = R.schemas.third.paths; target-paths = R.schemas.fourth.paths }; mapping = R.h }
