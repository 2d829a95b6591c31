-- What the steps of a query yield, one behind the other, and what each relies on.
use Rattle.std.specs.Prelude.{ℕ, ◌≡◌, List, length}
use Rattle.meaning.specs.Formats as formats
use Rattle.meaning.specs.Category.{listed_category}
use Rattle.meaning.specs.Judge.{judge_instance}
use Rattle.meaning.specs.Sigma.{sigma}
use Rattle.meaning.specs.Pi.{pi}
use Rattle.meaning.specs.Calls.{Outcome, accepted, ◌>>=◌, at, ensure_fits, Migrated}
use Rattle.meaning.specs.Query as meaning
use Rattle.meaning.specs.Query.{ensure_mappings, migrate_query}
use Rattle.agreement.specs.Valid.{ValidInstance}
use Rattle.schema.specs.Decoded.{schema_of}
use Rattle.instance.specs.declared.Instance.{Instance}
use Rattle.instance.specs.Decoded.{tables_of, Limits, RoomFor}
use Rattle.pi.specs.declared.components.Components.{Components}
use Rattle.query.specs.declared.open.Query.{Query}
use Rattle.query.specs.Opened.{Tested}

-- Sigma of Pi of Delta's tables, and 15 of both
abbrev pub pushed_pi : meaning.Query → formats.Instance → Outcome Migrated
pushed_pi q D = do
  P ← ensure_fits (pi (listed_category q.S2) (listed_category q.S3) q.G D)
  Q ← ensure_fits (sigma (listed_category q.S3) (listed_category q.S4) q.H P)
  accepted (record { schema = q.S4; tables = Q })

-- the run's sheet, the tests of G and H, then the migrations
abbrev pub answered : Outcome meaning.Query → List ℕ → Outcome Migrated
answered X i = do
  q ← X
  I ← at 8 (judge_instance q.S1 i)
  _ ← ensure_mappings q
  migrate_query q I

-- ---- in working arrays

-- room for the run and for Pi's tables in one pair of arrays, for Delta's and for Sigma's in the other; and for the rows of all families
pub record Rooms (q : Query) (run-links run-values links values rows : List ℕ) : Type 0 where
  pub run : RoomFor q.first run-links run-values
  pub joined : RoomFor q.third.schema run-links run-values
  pub pulled : RoomFor q.second.schema links values
  pub pushed : RoomFor q.fourth.schema links values
  pub families : length rows ≡ 32768

-- accepted mappings that passed their tests, and a valid instance of the second schema
pub record Joinable (q : Query) (k : Components) (pulled : Instance) (links values : List ℕ) : Type 0 where
  pub tested : Tested q k
  pub limits : Limits q.second.schema pulled
  pub valid : ValidInstance (schema_of q.second.schema) (tables_of q.second.schema pulled links values)

-- and a run
pub record Migratable (q : Query) (k : Components) (run : Instance) (links values : List ℕ) : Type 0 where
  pub tested : Tested q k
  pub limits : Limits q.first run
  pub valid : ValidInstance (schema_of q.first) (tables_of q.first run links values)
