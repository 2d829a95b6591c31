-- What the judges of a mapping, a run and a book give together, the test of evenness, and the sizes of both migrated tables.
use Rattle.std.specs.Prelude.{ℕ, ◌≡◌, true, List}
use Rattle.meaning.specs.Formats as formats
use Rattle.meaning.specs.Judge.{judge_instance}
use Rattle.meaning.specs.Evenness.{even}
use Rattle.meaning.specs.Delta.{delta}
use Rattle.meaning.specs.Sigma.{sigma}
use Rattle.meaning.specs.Calls as meaning
use Rattle.meaning.specs.Calls.{Outcome, accepted, ◌>>=◌, at, ensure, ensure_fits, Migration}
use Rattle.meaning.specs.Category.{listed_category}
use Rattle.schema.specs.Decoded.{category_of}
use Rattle.mapping.specs.Decoded.{mapping_of}
use Rattle.instance.specs.Decoded.{tables_of, RoomFor}
use Rattle.steps.specs.declared.open.Opened.{Opened}
use Rattle.migration.specs.declared.sides.Sides.{Sides}
use Rattle.steps.specs.Opened.{migration_of, Ready, SoundTables}

-- a mapping with its schemas, a run and a book
pub record Inputs : Type 0 where
  pub m : Migration
  pub run : formats.Instance
  pub book : formats.Instance

-- the tests before any table is migrated
abbrev pub inputs : Outcome Migration → List ℕ → List ℕ → Outcome Inputs
inputs M i j = do
  m ← M
  I ← at 4 (judge_instance m.S i)
  J ← at 5 (judge_instance m.T j)
  _ ← ensure (even (listed_category m.S) (listed_category m.T) m.F) 12
  accepted (record { m = m; run = I; book = J })

-- 15 of either migrated table
abbrev pub sized : Inputs → Outcome meaning.Sides
sized y = do
  P ← ensure_fits (sigma (listed_category y.m.S) (listed_category y.m.T) y.m.F y.run)
  D ← ensure_fits (delta y.m.S y.m.F y.book)
  accepted (record { m = y.m; run = y.run; book = y.book; pushed = P; pulled = D })

-- both sides of accepted inputs
abbrev pub sides_of : Inputs → meaning.Sides
sides_of y = record { m = y.m; run = y.run; book = y.book; pushed = sigma (listed_category y.m.S) (listed_category y.m.T) y.m.F y.run; pulled = delta y.m.S y.m.F y.book }

-- ---- in working arrays: the run's links and values, and the book's

abbrev pub inputs_of : Opened → Sides → List ℕ → List ℕ → List ℕ → List ℕ → Inputs
inputs_of o x links values links' values' = record {
  m = migration_of o;
  run = tables_of o.source x.run links values;
  book = tables_of o.target x.book links' values';
}

-- what the migrations of both rely on
pub record Migratable (o : Opened) (x : Sides) (links values links' values' : List ℕ) : Type 0 where
  pub ready : Ready o
  pub run : SoundTables o.source x.run links values
  pub book : SoundTables o.target x.book links' values'
  pub is-even : even (category_of o.source) (category_of o.target) (mapping_of o.source o.mapping) ≡ true

-- room for the run, for the book, and for Sigma of the run or Delta of the book
pub record Rooms (o : Opened) (links values links' values' made-links made-values : List ℕ) : Type 0 where
  pub run : RoomFor o.source links values
  pub book : RoomFor o.target links' values'
  pub pushed : RoomFor o.target made-links made-values
  pub pulled : RoomFor o.source made-links made-values
