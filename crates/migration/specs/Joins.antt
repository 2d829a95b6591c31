-- Pi of a run: its families as they are listed, and the tables that they make.
use Rattle.std.specs.Prelude.{ℕ, ◌≡◌, List, Result, IfOk}
use Rattle.meaning.specs.Pi.{is_bijective, has_few_components, pi}
use Rattle.meaning.specs.Calls as meaning
use Rattle.meaning.specs.Calls.{Outcome, accepted, ◌>>=◌, ensure, ensure_fits}
use Rattle.meaning.specs.Category.{listed_category}
use Rattle.schema.specs.Decoded.{schema_of}
use Rattle.pi.specs.Tables.{tables_from, Listed}
use Rattle.steps.specs.declared.Refusal.{Refusal}
use Rattle.steps.specs.declared.open.Opened.{Opened}
use Rattle.migration.specs.declared.joins.Joined.{Joined}
use Rattle.steps.specs.Answers.{outcome_of}
use Rattle.steps.specs.Runs.{RunInput}

-- Pi of the run, and its size
abbrev pub joined_run : RunInput → Outcome meaning.Migrated
joined_run y = do
  P ← ensure_fits (pi (listed_category y.m.S) (listed_category y.m.T) y.m.F y.run)
  accepted (record { schema = y.m.T; tables = P })

-- tests 13 and 14, then Pi
abbrev pub tested_joined : Outcome RunInput → Outcome meaning.Migrated
tested_joined X = do
  y ← X
  _ ← ensure (is_bijective y.m.T y.m.F) 13
  _ ← ensure (has_few_components (listed_category y.m.S) (listed_category y.m.T) y.m.F) 14
  joined_run y

-- ---- in working arrays: the rows of all families, and the run's values

-- the tables that the families make
abbrev pub joined_of : Opened → Joined → List ℕ → List ℕ → meaning.Migrated
joined_of o x rows values = record { schema = schema_of o.target; tables = tables_from o.source o.target o.target_paths o.mapping x.run x.components x.counts rows values }

-- what making them relies on
abbrev pub ListedRun : Opened → Joined → List ℕ → List ℕ → Type 0
ListedRun o x = Listed o.source o.target o.target_paths o.mapping x.run x.components x.counts

-- listed families that make X's tables, or X's refusal
pub record Joins (o : Opened) (r : Result Joined Refusal) (rows values : List ℕ) (X : Outcome meaning.Migrated) : Type 0 where
  pub says : outcome_of (λ x. joined_of o x rows values) r ≡ X
  pub listed : IfOk r (λ x. ListedRun o x rows values)
