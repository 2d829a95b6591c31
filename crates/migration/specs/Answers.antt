-- What an answer says in the terms of document 01.
use Rattle.std.specs.Prelude.{ℕ, ◌+◌, ◌*◌, ◌≡◌, cond, List, eqb, Option, None, Some, Result, Ok, Err}
use Rattle.meaning.specs.Schema.{Schema}
use Rattle.meaning.specs.Category.{listed_category}
use Rattle.meaning.specs.Judge.{judge_mapping, judge_instance}
use Rattle.meaning.specs.Calls.{Outcome, refused, accepted, ◌>>=◌, at, check_pushed, check_raw, pushed_to_raw, raw_to_pushed, Lent, in_tray}
use Rattle.steps.specs.declared.Refusal.{Refusal}
use Rattle.steps.specs.Answers.{Verdict, verdict_of, Written, lent_of}

-- the answer to which steps lead from one path to another: no bytes are no chain
abbrev pub Explained : Type 0
Explained = Result (Option ℕ) Refusal

abbrev pub explained_of : Explained → Outcome ℕ
explained_of (Ok (Some n)) = accepted n
explained_of (Ok None) = accepted 0
explained_of (Err r) = refused r.number r.place

-- and back
abbrev pub explanation_of : Outcome ℕ → Explained
explanation_of (accepted n) = Ok (cond (eqb n 0) None (Some n))
explanation_of (refused n place) = Err (record { number = n; place = place })

abbrev pub explained : Lent → Explained × List ℕ
explained l = (explanation_of l.answer, l.tray)

-- a mapping sheet at place 3
abbrev pub checked_images : Schema → Schema → List ℕ → Outcome (Unit {0})
checked_images S T f = do
  _ ← at 3 (judge_mapping (listed_category S) (listed_category T) f)
  accepted tt

-- an instance sheet at place 2
abbrev pub checked_sheet : Schema → List ℕ → Outcome (Unit {0})
checked_sheet S i = do
  _ ← at 2 (judge_instance S i)
  accepted tt

-- ---- what the checkers and the turnings promise, of the sheets s, t, f, run, book and list

module _ (s t f run book list : List ℕ) where
  abbrev pub PushedChecked : Verdict → Type 0
  PushedChecked r = verdict_of r ≡ check_pushed s t f run book list

  abbrev pub RawChecked : Verdict → Type 0
  RawChecked r = verdict_of r ≡ check_raw s t f run book list

  -- of a tray: the answer, and the tray that it leaves
  abbrev pub TurnedToRaw : List ℕ → Written × List ℕ → Type 0
  TurnedToRaw tray r = lent_of r.0 r.1 ≡ in_tray tray (pushed_to_raw s t f run book list)

  abbrev pub TurnedToPushed : List ℕ → Written × List ℕ → Type 0
  TurnedToPushed tray r = lent_of r.0 r.1 ≡ in_tray tray (raw_to_pushed s t f run book list)

-- ---- for C: an answer as one number

abbrev pub encoded : Outcome ℕ → ℕ
encoded (accepted n) = n
encoded (refused n place) = 4294967296 + 256 * n + place

-- an accepted check is 0
abbrev pub checked : Outcome (Unit {0}) → Outcome ℕ
checked o = do
  _ ← o
  accepted 0

-- two byte lengths, both below 65,536
abbrev pub lengths_number : Outcome (ℕ × ℕ) → Outcome ℕ
lengths_number o = do
  x ← o
  accepted (65536 * x.0 + x.1)

-- a byte length, and the tray
abbrev pub returned : Lent → ℕ × List ℕ
returned l = (encoded l.answer, l.tray)
