-- Demand 3 of the public calls: any answers that meet the contracts of the two checkers and the two turnings, in the terms of `agreement`, whose
-- provisos and clauses are asked of them.
use Rattle.std.specs.Prelude.{ℕ, List, Result, Ok, Err}
use Rattle.meaning.specs.Calls.{Outcome, refused, accepted, check_pushed, check_raw, pushed_to_raw, raw_to_pushed, Lent, in_tray}
use Rattle.agreement.specs.Demand3.{Turning, Answers}
use Rattle.migration.specs.Answers.{PushedChecked, RawChecked, TurnedToRaw, TurnedToPushed}
use Rattle.steps.specs.declared.Refusal.{Refusal}
use Rattle.steps.specs.Answers.{Verdict, verdict_of, Written, lent_of}

-- of the sheets s, t, f, run, book and list
abbrev pub Checker : Type 0
Checker = List ℕ → List ℕ → List ℕ → List ℕ → List ℕ → List ℕ → Verdict

-- and of a tray: what a turning answers, and the tray that it leaves
abbrev pub Turner : Type 0
Turner = List ℕ → List ℕ → List ℕ → List ℕ → List ℕ → List ℕ → List ℕ → Written × List ℕ

-- what the four calls answer
pub record Calls : Type 0 where
  pub check-pushed : Checker
  pub check-raw : Checker
  pub pushed-to-raw : Turner
  pub raw-to-pushed : Turner

-- the contracts of `check_pushed`, `check_raw`, `pushed_to_raw` and `raw_to_pushed`
pub record MeetsContracts (c : Calls) : Type 0 where
  pub check-pushed : (s t f i j k : List ℕ) → PushedChecked s t f i j k (c.check-pushed s t f i j k)
  pub check-raw : (s t f i j k : List ℕ) → RawChecked s t f i j k (c.check-raw s t f i j k)
  pub pushed-to-raw : (s t f i j k tray : List ℕ) → TurnedToRaw s t f i j k tray (c.pushed-to-raw s t f i j k tray)
  pub raw-to-pushed : (s t f i j k tray : List ℕ) → TurnedToPushed s t f i j k tray (c.raw-to-pushed s t f i j k tray)

-- ---- answers to the sheets s, t, f, i and j, in the terms of document 01

abbrev pub turned : Turner → List ℕ → List ℕ → List ℕ → List ℕ → List ℕ → Turning
turned turner s t f i j tray k = lent_of (turner s t f i j k tray).0 (turner s t f i j k tray).1

abbrev pub answers : Calls → List ℕ → List ℕ → List ℕ → List ℕ → List ℕ → Answers
answers c s t f i j = record {
  check-pushed = λ k. verdict_of (c.check-pushed s t f i j k);
  check-raw = λ k. verdict_of (c.check-raw s t f i j k);
  to-raw = turned c.pushed-to-raw s t f i j;
  to-pushed = turned c.raw-to-pushed s t f i j;
}

-- ---- the meanings as answers, of lists that are no bytes too, which nobody can lend

module _ {A : Type 0} where
  abbrev pub answer_of : Outcome A → Result A Refusal
  answer_of (accepted a) = Ok a
  answer_of (refused n place) = Err (record { number = n; place = place })

abbrev pub as_turned : Lent → Written × List ℕ
as_turned l = (answer_of l.answer, l.tray)

abbrev pub meaning_calls : Calls
meaning_calls = record {
  check-pushed = λ s t f i j k. answer_of (check_pushed s t f i j k);
  check-raw = λ s t f i j k. answer_of (check_raw s t f i j k);
  pushed-to-raw = λ s t f i j k tray. as_turned (in_tray tray (pushed_to_raw s t f i j k));
  raw-to-pushed = λ s t f i j k tray. as_turned (in_tray tray (raw_to_pushed s t f i j k));
}
