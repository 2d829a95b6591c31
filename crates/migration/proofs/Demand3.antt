-- Demand 3 holds of the public calls: their contracts say that they answer as their meanings do, of which `agreement` shows it.
use Prim.Native.Nat.{ℕ}
use mathlib.Core.Path.{◌≡◌, refl, sym, subst}
use mathlib.Core.List.{List}
use Rattle.meaning.specs.Calls.{Outcome, refused, accepted, check_pushed, check_raw, pushed_to_raw, raw_to_pushed, Lent, in_tray}
use Rattle.agreement.specs.Demand3.{meaning_answers, Provided, Clauses, AllRefuse}
use Rattle.agreement.proofs.Demand3.{demand3, unprovided-refused}
use Rattle.steps.specs.Answers.{outcome_of, lent_of}
use Rattle.migration.specs.Demand3.{Calls, MeetsContracts, answers, answer_of, as_turned, meaning_calls}

module _ {c : Calls} (C : MeetsContracts c) where
  same-answers : (s t f i j : List ℕ) → meaning_answers s t f i j ≡ answers c s t f i j
  same-answers s t f i j = sym (λ n. record {
    check-pushed = λ k. C.check-pushed s t f i j k n;
    check-raw = λ k. C.check-raw s t f i j k n;
    to-raw = λ tray k. C.pushed-to-raw s t f i j k tray n;
    to-pushed = λ tray k. C.raw-to-pushed s t f i j k tray n;
  })

  pub calls-demand3 : {s t f i j : List ℕ} (x : Provided s t f i j) → Clauses x (answers c s t f i j)
  calls-demand3 {s} {t} {f} {i} {j} x = subst (Clauses x) (same-answers s t f i j) (demand3 x)

  pub calls_refuse : (s t f i j : List ℕ) → (Provided s t f i j → ⊥) → AllRefuse (answers c s t f i j)
  calls_refuse s t f i j none = subst AllRefuse (same-answers s t f i j) (unprovided-refused s t f i j none)

-- ---- the meanings meet the contracts

answer-again : {A : Type 0} (o : Outcome A) → outcome_of (λ a. a) (answer_of o) ≡ o
answer-again (accepted a) = refl
answer-again (refused n place) = refl

turned-again : (l : Lent) → lent_of (as_turned l).0 (as_turned l).1 ≡ l
turned-again l = λ n. record { answer = answer-again l.answer n; tray = l.tray }

pub meanings_meet : MeetsContracts meaning_calls
meanings_meet = record {
  check-pushed = λ s t f i j k. answer-again (check_pushed s t f i j k);
  check-raw = λ s t f i j k. answer-again (check_raw s t f i j k);
  pushed-to-raw = λ s t f i j k tray. turned-again (in_tray tray (pushed_to_raw s t f i j k));
  raw-to-pushed = λ s t f i j k tray. turned-again (in_tray tray (raw_to_pushed s t f i j k));
}
