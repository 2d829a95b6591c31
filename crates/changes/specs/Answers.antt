-- What the answer of a change says, and the trays that it leaves.
use Rattle.std.specs.Prelude.{ℕ, ◌≤◌, List, Result, IfOk}
use Rattle.meaning.specs.Formats.{max_instance_bytes}
use Rattle.meaning.specs.Calls.{Outcome}
use Rattle.meaning.specs.Changes.{Trays}
use Rattle.migration.specs.Answers.{encoded, lengths_number}
use Rattle.steps.specs.declared.Refusal.{Refusal}
use Rattle.steps.specs.Answers.{outcome_of}
use Rattle.changes.specs.declared.Lengths.{Lengths}

-- the answer of a change
abbrev pub Changed : Type 0
Changed = Result Lengths Refusal

-- the byte lengths of the run and of the pushed sheet
abbrev pub changed_of : Changed → Outcome (ℕ × ℕ)
changed_of r = outcome_of (λ x. (x.run, x.pushed)) r

abbrev pub trays_of : Changed → List ℕ → List ℕ → Trays
trays_of r run pushed = record { answer = changed_of r; run = run; pushed = pushed }

-- ---- for C

-- byte lengths of instance sheets
abbrev pub LengthsWithin : Changed → Type 0
LengthsWithin r = IfOk r (λ x. (x.run ≤ max_instance_bytes) × (x.pushed ≤ max_instance_bytes))

-- an answer as one number, and both trays
abbrev pub returned : Trays → ℕ × List ℕ × List ℕ
returned x = (encoded (lengths_number x.answer), x.run, x.pushed)
