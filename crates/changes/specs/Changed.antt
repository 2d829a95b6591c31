-- A changed run in working arrays, with Sigma's tables of it, and what is made of both.
use Rattle.std.specs.Prelude.{ℕ, ◌≡◌, List, take, Result, IfOk}
use Rattle.meaning.specs.Schema as meaning
use Rattle.meaning.specs.Formats as formats
use Rattle.meaning.specs.Formats.{instance_sheet}
use Rattle.meaning.specs.Calls.{Outcome, accepted, ◌>>=◌, Migration, migration}
use Rattle.meaning.specs.Changes.{Sheets, addition, withdrawal, sheets_of, Trays, in_trays}
use Rattle.schema.specs.declared.Schema.{Schema}
use Rattle.schema.specs.Judged.{Sound}
use Rattle.instance.specs.declared.Instance.{Instance}
use Rattle.instance.specs.Decoded.{tables_of, Limits, RoomFor}
use Rattle.instance.specs.Tested.{Accepted}
use Rattle.steps.specs.declared.Refusal.{Refusal}
use Rattle.steps.specs.declared.open.Opened.{Opened}
use Rattle.steps.specs.Answers.{outcome_of}
use Rattle.meaning.specs.Changes.{even_run}
use Rattle.changes.specs.declared.results.Change.{Change}
use Rattle.changes.specs.declared.tables.Kind.{Kind}
use Rattle.changes.specs.declared.tables.Kind.TheVariants as kind

-- ---- what a change makes of a run

abbrev pub changed_by : Kind → meaning.Schema → formats.Instance → ℕ → List ℕ → Outcome formats.Instance
changed_by kind.Add S I c row = addition S I c row
changed_by (kind.Withdraw x) S I c row = withdrawal S I c x

abbrev pub changed_sheets : Kind → Outcome Migration → List ℕ → ℕ → List ℕ → Outcome Sheets
changed_sheets k M i c row = do
  x ← even_run M i
  J ← changed_by k x.m.S x.tables c row
  accepted (sheets_of x J)

abbrev pub changed_trays : Kind → (s t f run : List ℕ) (n c : ℕ) (row pushed : List ℕ) → Trays
changed_trays k s t f run n c row pushed = in_trays run pushed (changed_sheets k (migration s t f) (take n run) c row)

-- ---- in working arrays

-- an accepted run
pub record AcceptedRun (t : Schema) (i : Instance) (links values : List ℕ) : Type 0 where
  pub sound : Sound t
  pub limits : Limits t i
  pub accepted : Accepted t i links values

-- the tables after a change, or its refusal
pub record ChangesTo (t : Schema) (r : Result Instance Refusal) (links values : List ℕ) (X : Outcome formats.Instance) : Type 0 where
  pub says : outcome_of (λ i. tables_of t i links values) r ≡ X
  pub run : IfOk r (λ i. AcceptedRun t i links values)

-- the run's arrays, and others for the added row and for Sigma
pub record Rooms (o : Opened) (run-links run-values links values : List ℕ) : Type 0 where
  pub run : RoomFor o.source run-links run-values
  pub row : RoomFor o.source links values
  pub pushed : RoomFor o.target links values

abbrev pub sheets_in : Opened → Change → (run-links run-values links values : List ℕ) → Sheets
sheets_in o x run-links run-values links values = record {
  run = instance_sheet (tables_of o.source x.run run-links run-values);
  pushed = instance_sheet (tables_of o.target x.pushed links values);
}

-- what writing both sheets relies on
pub record Writable (o : Opened) (x : Change) (run-links run-values links values : List ℕ) : Type 0 where
  pub source : Sound o.source
  pub target : Sound o.target
  pub run_limits : Limits o.source x.run
  pub pushed_limits : Limits o.target x.pushed
  pub run_room : RoomFor o.source run-links run-values
  pub pushed_room : RoomFor o.target links values

-- both sheets after a change, or its refusal
pub record Changes (o : Opened) (r : Result Change Refusal) (run-links run-values links values : List ℕ) (X : Outcome Sheets) : Type 0 where
  pub says : outcome_of (λ x. sheets_in o x run-links run-values links values) r ≡ X
  pub writable : IfOk r (λ x. Writable o x run-links run-values links values)
