-- What a migrated instance in working arrays means.
use Rattle.std.specs.Prelude.{ℕ, ◌≡◌, List, Result, IfOk}
use Rattle.meaning.specs.Calls as meaning
use Rattle.meaning.specs.Calls.{Outcome}
use Rattle.schema.specs.Decoded.{schema_of}
use Rattle.schema.specs.Judged.{Sound}
use Rattle.instance.specs.Decoded.{tables_of, Limits, RoomFor}
use Rattle.steps.specs.declared.Refusal.{Refusal}
use Rattle.steps.specs.declared.results.Migrated.{Migrated}
use Rattle.steps.specs.Answers.{outcome_of}

abbrev pub migrated_of : Migrated → List ℕ → List ℕ → meaning.Migrated
migrated_of m links values = record { schema = schema_of m.schema; tables = tables_of m.schema m.tables links values }

-- what writing it relies on
pub record Writable (m : Migrated) (links values : List ℕ) : Type 0 where
  pub sound : Sound m.schema
  pub limits : Limits m.schema m.tables
  pub room : RoomFor m.schema links values

-- a migrated instance that is M, or M's refusal
pub record Migrates (r : Result Migrated Refusal) (links values : List ℕ) (M : Outcome meaning.Migrated) : Type 0 where
  pub says : outcome_of (λ m. migrated_of m links values) r ≡ M
  pub writable : IfOk r (λ m. Writable m links values)
