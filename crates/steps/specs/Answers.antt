-- What an answer says in the terms of document 01.
use Rattle.std.specs.Prelude.{ℕ, List, Result, Ok, Err}
use Rattle.meaning.specs.Calls.{Outcome, refused, accepted, Lent}
use Rattle.steps.specs.declared.Refusal.{Refusal}

module _ {A B : Type 0} where
  -- an answer, whose value means what f says
  abbrev pub outcome_of : (A → B) → Result A Refusal → Outcome B
  outcome_of f (Ok a) = accepted (f a)
  outcome_of f (Err r) = refused r.number r.place

-- the answer of a check
abbrev pub Verdict : Type 0
Verdict = Result (Unit {0}) Refusal

abbrev pub verdict_of : Verdict → Outcome (Unit {0})
verdict_of r = outcome_of (λ u. u) r

-- the answer of a call that writes into a tray, and the tray that it leaves
abbrev pub Written : Type 0
Written = Result ℕ Refusal

abbrev pub written_of : Written → Outcome ℕ
written_of r = outcome_of (λ n. n) r

abbrev pub lent_of : Written → List ℕ → Lent
lent_of r tray = record { answer = written_of r; tray = tray }
