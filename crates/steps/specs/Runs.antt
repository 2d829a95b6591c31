-- What the judges of a mapping and a run over S give together.
use Rattle.std.specs.Prelude.{ℕ, ◌≡◌, true, List}
use Rattle.meaning.specs.Formats as formats
use Rattle.meaning.specs.Judge.{judge_instance}
use Rattle.meaning.specs.Evenness.{even}
use Rattle.meaning.specs.Sigma.{sigma}
use Rattle.meaning.specs.Calls as meaning
use Rattle.meaning.specs.Calls.{Outcome, accepted, ◌>>=◌, at, ensure, ensure_fits, Migration}
use Rattle.meaning.specs.Category.{listed_category}
use Rattle.meaning.specs.Changes as changes
use Rattle.schema.specs.Decoded.{category_of}
use Rattle.mapping.specs.Decoded.{mapping_of}
use Rattle.instance.specs.declared.Instance.{Instance}
use Rattle.instance.specs.Decoded.{tables_of}
use Rattle.sigma.specs.Pushed.{Pushable}
use Rattle.steps.specs.declared.open.Opened.{Opened}
use Rattle.steps.specs.Opened.{migration_of, SoundTables}

-- a mapping with its schemas, and a run
pub record RunInput : Type 0 where
  pub m : Migration
  pub run : formats.Instance

abbrev pub run_input : Outcome Migration → List ℕ → Outcome RunInput
run_input M i = do
  m ← M
  I ← at 4 (judge_instance m.S i)
  accepted (record { m = m; run = I })

-- Sigma of the run, and its size
abbrev pub pushed_run : RunInput → Outcome meaning.Migrated
pushed_run y = do
  P ← ensure_fits (sigma (listed_category y.m.S) (listed_category y.m.T) y.m.F y.run)
  accepted (record { schema = y.m.T; tables = P })

-- the test of evenness, then Sigma
abbrev pub evenly_pushed : Outcome RunInput → Outcome meaning.Migrated
evenly_pushed X = do
  y ← X
  _ ← ensure (even (listed_category y.m.S) (listed_category y.m.T) y.m.F) 12
  pushed_run y

-- ---- in working arrays: the run's links and values

abbrev pub run_input_of : Opened → Instance → List ℕ → List ℕ → RunInput
run_input_of o run links values = record { m = migration_of o; run = tables_of o.source run links values }

-- what Sigma relies on
abbrev pub PushableRun : Opened → Instance → List ℕ → List ℕ → Type 0
PushableRun o = Pushable o.source o.target o.source_paths o.target_paths o.mapping

abbrev pub run_of : Opened → Instance → List ℕ → List ℕ → changes.Run
run_of o run links values = record { m = migration_of o; tables = tables_of o.source run links values }

-- a run with an even mapping
pub record EvenRun (o : Opened) (run : Instance) (links values : List ℕ) : Type 0 where
  pub tables : SoundTables o.source run links values
  pub is-even : even (category_of o.source) (category_of o.target) (mapping_of o.source o.mapping) ≡ true
