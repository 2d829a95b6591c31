-- The changes of a run, by which rows come and go and the pushed table is kept current (document 02, C-16): what each call yields, and both trays after it.
use Rattle.std.specs.Prelude.{ℕ, cond, not, ◌&&◌, List, ◌++◌, length, take, drop, leb, ltb}
use Rattle.meaning.specs.Schema.{Schema}
use Rattle.meaning.specs.Category.{listed_category}
use Rattle.meaning.specs.Formats.{Instance, instance_sheet}
use Rattle.meaning.specs.Views.{count}
use Rattle.meaning.specs.Judge.{judge_instance}
use Rattle.meaning.specs.Evenness.{even}
use Rattle.meaning.specs.Sigma.{sigma}
use Rattle.meaning.specs.Calls.{Outcome, refused, accepted, ◌>>=◌, at, ensure, ensure_fits, Migration, migration}
use Rattle.meaning.specs.Rows.{added, judge_row, is_held, withdrawn}

-- ---- S, T, mapping, run and 12 are judged first, then the change itself, at place 0

-- a run over S, with the even mapping along which it is pushed
pub record Run : Type 0 where
  pub m : Migration
  pub tables : Instance

-- the run's sheet, after those of S, T and the mapping, and 12
abbrev pub even_run : Outcome Migration → List ℕ → Outcome Run
even_run M i = do
  m ← M
  I ← at 4 (judge_instance m.S i)
  _ ← ensure (even (listed_category m.S) (listed_category m.T) m.F) 12
  accepted (record { m = m; tables = I })

abbrev pub judge_run : List ℕ → List ℕ → List ℕ → List ℕ → Outcome Run
judge_run s t f i = even_run (migration s t f) i

-- the run after an addition: 18 (absent), then 1, 2, 9, 10 and 11 of the row, then 15 where the run would pass 512 rows
abbrev pub addition : Schema → Instance → ℕ → List ℕ → Outcome Instance
addition S I c row = do
  _ ← ensure (ltb c S.graph.nodes) 18
  R ← at 0 (judge_row S I c row)
  ensure_fits (added S I R)

-- the run after a withdrawal: 18, then 19
abbrev pub withdrawal : Schema → Instance → ℕ → ℕ → Outcome Instance
withdrawal S I c r = do
  _ ← ensure (ltb c S.graph.nodes && ltb r (count I c)) 18
  _ ← ensure (not (is_held S I c r)) 19
  accepted (withdrawn S I c r)

-- the sheets of a changed run and of its Sigma
pub record Sheets : Type 0 where
  pub run : List ℕ
  pub pushed : List ℕ

-- after each accepted change the pushed sheet is a fresh Sigma of the changed run
abbrev pub sheets_of : Run → Instance → Sheets
sheets_of x J = record { run = instance_sheet J; pushed = instance_sheet (sigma (listed_category x.m.S) (listed_category x.m.T) x.m.F J) }

abbrev pub addition_sheets : (s t f i : List ℕ) (c : ℕ) (row : List ℕ) → Outcome Sheets
addition_sheets s t f i c row = do
  x ← judge_run s t f i
  J ← addition x.m.S x.tables c row
  accepted (sheets_of x J)

abbrev pub withdrawal_sheets : (s t f i : List ℕ) (c r : ℕ) → Outcome Sheets
withdrawal_sheets s t f i c r = do
  x ← judge_run s t f i
  J ← withdrawal x.m.S x.tables c r
  accepted (sheets_of x J)

-- ---- both sheets in their trays: their byte lengths, or 16 where either does not fit; bytes beyond them keep their values, and a refusal changes none

pub record Trays : Type 0 where
  pub answer : Outcome (ℕ × ℕ)
  pub run : List ℕ
  pub pushed : List ℕ

abbrev pub both_written : List ℕ → List ℕ → Sheets → Trays
both_written run pushed x =
    cond (leb (length x.run) (length run) && leb (length x.pushed) (length pushed))
    (record { answer = accepted (length x.run, length x.pushed); run = x.run ++ drop (length x.run) run; pushed = x.pushed ++ drop (length x.pushed) pushed })
    (record { answer = refused 16 0; run = run; pushed = pushed })

abbrev pub in_trays : List ℕ → List ℕ → Outcome Sheets → Trays
in_trays run pushed (refused n place) = record { answer = refused n place; run = run; pushed = pushed }
in_trays run pushed (accepted x) = both_written run pushed x

-- the run is the first n bytes of its tray or, where n is beyond it, the whole tray
abbrev pub add_row : (s t f run : List ℕ) (n c : ℕ) (row pushed : List ℕ) → Trays
add_row s t f run n c row pushed = in_trays run pushed (addition_sheets s t f (take n run) c row)

abbrev pub withdraw_row : (s t f run : List ℕ) (n c r : ℕ) (pushed : List ℕ) → Trays
withdraw_row s t f run n c r pushed = in_trays run pushed (withdrawal_sheets s t f (take n run) c r)
