-- What a checker leaves to a turning, and what each turning makes of it.
use Rattle.std.specs.Prelude.{ℕ, ◌≡◌, List, []}
use Rattle.theory.specs.Transposition.{to_raw, to_pushed}
use Rattle.meaning.specs.Lists.{sum_of}
use Rattle.meaning.specs.Formats as formats
use Rattle.meaning.specs.Formats.{matching_sheet}
use Rattle.meaning.specs.Views.{mapping_of, instance_of}
use Rattle.meaning.specs.Sigma.{sigma}
use Rattle.meaning.specs.Calls.{Outcome, accepted, ◌>>=◌, Migration}
use Rattle.meaning.specs.Category.{listed_category}
use Rattle.schema.specs.Decoded.{front_of}
use Rattle.instance.specs.declared.Instance.{Instance}
use Rattle.instance.specs.Decoded.{Limits}
use Rattle.matching.specs.Compared.{partners_of}
use Rattle.migration.specs.declared.matchings.Side.{Side}
use Rattle.migration.specs.declared.matchings.Side.TheVariants as side
use Rattle.steps.specs.declared.open.Opened.{Opened}
use Rattle.steps.specs.Opened.{migration_of, Ready}
use Rattle.migration.specs.Sides.{Inputs, inputs}
use Rattle.migration.specs.Matched.{side_list}

-- the mapping, the counts of the run, and a list of partners: a turning looks at nothing else
pub record Turnable : Type 0 where
  pub m : Migration
  pub counts : List ℕ
  pub list : List ℕ

abbrev pub turnable : Inputs → List ℕ → Turnable
turnable y l = record { m = y.m; counts = y.run.counts; list = l }

-- the tests of a side
abbrev pub matched_side : Side → Outcome Migration → List ℕ → List ℕ → List ℕ → Outcome Turnable
matched_side side M i j k = do
  y ← inputs M i j
  l ← side_list side y k
  accepted (turnable y l)

-- the run and its Sigma, their counts alone
abbrev pub run_of : Turnable → formats.Instance
run_of z = record { counts = z.counts; links = []; values = [] }

abbrev pub pushed_of : Turnable → formats.Instance
pushed_of z = sigma (listed_category z.m.S) (listed_category z.m.T) z.m.F (run_of z)

-- a list turned to the other side
abbrev pub turned_list : Side → Turnable → List ℕ
turned_list side.Pushed z = to_raw (mapping_of z.m.S z.m.T z.m.F) (instance_of (run_of z)) (instance_of (pushed_of z)) z.list
turned_list side.Raw z = to_pushed (mapping_of z.m.S z.m.T z.m.F) (instance_of (run_of z)) (instance_of (pushed_of z)) z.list

-- a side's tests alone
abbrev pub checked_side : Side → Outcome Migration → List ℕ → List ℕ → List ℕ → Outcome (Unit {0})
checked_side side M i j k = do
  _ ← matched_side side M i j k
  accepted tt

-- the sheet of the list that a side's matching sheet turns into
abbrev pub turned_side : Side → Outcome Migration → List ℕ → List ℕ → List ℕ → Outcome (List ℕ)
turned_side side M i j k = do
  z ← matched_side side M i j k
  accepted (matching_sheet (turned_list side z))

-- ---- in working arrays

-- either list has as many partners as the run has rows
abbrev pub turnable_of : Opened → Instance → List ℕ → Turnable
turnable_of o run list = record { m = migration_of o; counts = front_of o.source.graph.nodes run.counts; list = partners_of o.source run list }

-- what a turning relies on
pub record ReadyToTurn (o : Opened) (run : Instance) : Type 0 where
  pub ready : Ready o
  pub limits : Limits o.source run
  pub rows : sum_of (pushed_of (turnable_of o run [])).counts ≡ sum_of (turnable_of o run []).counts
