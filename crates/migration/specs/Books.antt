-- Delta of a book: its sheet, judged behind the mapping's, and the size of the result.
use Rattle.std.specs.Prelude.{ℕ, List}
use Rattle.meaning.specs.Judge.{judge_instance}
use Rattle.meaning.specs.Delta.{delta}
use Rattle.meaning.specs.Calls as meaning
use Rattle.meaning.specs.Calls.{Outcome, accepted, ◌>>=◌, at, ensure_fits, Migration}

-- Delta of a book over T, and its size
abbrev pub pulled_book : Outcome Migration → List ℕ → Outcome meaning.Migrated
pulled_book M j = do
  m ← M
  J ← at 4 (judge_instance m.T j)
  D ← ensure_fits (delta m.S m.F J)
  accepted (record { schema = m.S; tables = D })
