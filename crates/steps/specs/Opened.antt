-- What the judges of a schema, a mapping and an instance give, and those of S, T and a mapping together.
use Rattle.std.specs.Prelude.{ℕ, ◌*◌, ◌≤◌, ◌≡◌, Bool, ◌&&◌, List}
use Rattle.meaning.specs.Schema as meaning
use Rattle.meaning.specs.Calls.{Migration, migration, accepted}
use Rattle.schema.specs.declared.Schema.{Schema}
use Rattle.schema.specs.Decoded.{schema_of}
use Rattle.schema.specs.Judged as schema
use Rattle.paths.specs.Classes.{IsPaths}
use Rattle.mapping.specs.declared.Mapping.{Mapping}
use Rattle.mapping.specs.Decoded.{mapping_of}
use Rattle.mapping.specs.Judged.{Schemas, Sound}
use Rattle.instance.specs.declared.Instance.{Instance}
use Rattle.instance.specs.Decoded as instance
use Rattle.instance.specs.Tested.{Accepted}
use Rattle.steps.specs.declared.open.Category.{Category}
use Rattle.steps.specs.declared.open.Opened.{Opened}

-- a judged schema with the table of its paths
abbrev pub listed_schema : Category → meaning.Schema
listed_schema c = schema_of c.schema

pub record IsListed (c : Category) : Type 0 where
  pub sound : schema.Sound c.schema
  pub paths : IsPaths (schema_of c.schema) c.paths

-- a judged instance in working arrays
pub record SoundTables (t : Schema) (i : Instance) (links values : List ℕ) : Type 0 where
  pub limits : instance.Limits t i
  pub accepted : Accepted t i links values

-- two schemas and a mapping between them
abbrev pub opened_between : Category → Category → Mapping → Opened
opened_between c d f = record { source = c.schema; target = d.schema; source_paths = c.paths; target_paths = d.paths; mapping = f }

abbrev pub migration_of : Opened → Migration
migration_of o = record { S = schema_of o.source; T = schema_of o.target; F = mapping_of o.source o.mapping }

-- what a migration relies on
pub record Ready (o : Opened) : Type 0 where
  pub schemas : Schemas o.source o.target o.source_paths o.target_paths
  pub mapping : Sound o.source o.target o.mapping

-- opened from some sheets
pub record FromSheets (o : Opened) : Type 0 where
  pub s : List ℕ
  pub t : List ℕ
  pub f : List ℕ
  pub says : accepted (migration_of o) ≡ migration s t f
  pub ready : Ready o

-- working arrays of these lengths, which are no longer than any schema needs, do for the instances of a schema
pub record RoomIn (t : Schema) (links values : ℕ) : Type 0 where
  pub for_links : 512 * t.graph.edges ≤ links
  pub for_values : 512 * t.attributes ≤ values
  pub links_short : links ≤ 16384
  pub values_short : values ≤ 8192

-- and for those of both schemas
pub record RoomsIn (o : Opened) (links values : ℕ) : Type 0 where
  pub source : RoomIn o.source links values
  pub target : RoomIn o.target links values

-- both schemas have few columns
abbrev pub have_few_columns : Opened → Bool
have_few_columns o = instance.has_few_columns o.source && instance.has_few_columns o.target
