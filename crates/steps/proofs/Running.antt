-- What the sheets of S, T and a mapping and the sheet of a run say together.
use Prim.Native.Nat.{ℕ}
use mathlib.Core.Path.{◌≡◌, refl, ap, ◌∙◌}
use mathlib.Core.List.{List}
use Rattle.std.specs.Prelude.{Result, Ok, Err, IfOk}
use Rattle.meaning.specs.Judge.{judge_instance}
use Rattle.meaning.specs.Calls.{Outcome, accepted, at, Migration, ◌>>=◌}
use Rattle.schema.specs.Decoded.{schema_of}
use Rattle.instance.specs.declared.Instance.{Instance}
use Rattle.instance.specs.Decoded.{tables_of}
use Rattle.steps.specs.declared.Refusal.{Refusal}
use Rattle.steps.specs.declared.open.Opened.{Opened}
use Rattle.steps.specs.Answers.{outcome_of}
use Rattle.steps.specs.Opened.{migration_of, Ready, SoundTables}
use Rattle.steps.specs.Runs.{RunInput, run_input, run_input_of}

-- what the sheets of S, T and a mapping opened as, and what the run's sheet then did
module _ (R : Result Opened Refusal) (run : Opened → Result Instance Refusal) (links values : List ℕ) where
  abbrev pub opened_run : Outcome RunInput
  opened_run = outcome_of (λ o. o) R >>= λ o. outcome_of (λ i. run_input_of o i links values) (run o)

-- the run's tables stand beside the mapping
run-beside : (o : Opened) (links values : List ℕ) (r : Result Instance Refusal)
    → outcome_of (λ i. run_input_of o i links values) r ≡ (outcome_of (λ i. tables_of o.source i links values) r >>= λ I. accepted (record { m = migration_of o; run = I }))
run-beside o links values (Ok i) = refl
run-beside o links values (Err r) = refl

module _ {M : Outcome Migration} (run : Opened → Result Instance Refusal) (links values i : List ℕ)
    (I : (o : Opened) → Ready o → outcome_of (λ r. tables_of o.source r links values) (run o) ≡ at 4 (judge_instance (schema_of o.source) i))
    (S : (o : Opened) → Ready o → IfOk (run o) (λ r. SoundTables o.source r links values)) where
  -- they say what the judges of the four sheets say together; where none is refused, the mapping and the run are what a migration relies on
  pub run-open : (R : Result Opened Refusal) → outcome_of migration_of R ≡ M → IfOk R Ready
      → (opened_run R run links values ≡ run_input M i) × IfOk R (λ o. Ready o × IfOk (run o) (λ r. SoundTables o.source r links values))
  run-open (Ok o) h r = (run-beside o links values (run o) ∙ ap (λ X. X >>= λ I. accepted (record { m = migration_of o; run = I })) (I o r) ∙ ap (λ M. run_input M i) h, (r, S o r))
  run-open (Err q) h r = (ap (λ M. run_input M i) h, r)
