-- The tests of a mapping along which Pi is made.
use Rattle.meaning.specs.Category.{listed_category}
use Rattle.meaning.specs.Pi.{is_bijective, has_few_components}
use Rattle.meaning.specs.Calls.{Outcome, ◌>>=◌, ensure, Migration}

-- 13, then 14
abbrev pub joinable : Migration → Outcome (Unit {0})
joinable m = do
  _ ← ensure (is_bijective m.T m.F) 13
  ensure (has_few_components (listed_category m.S) (listed_category m.T) m.F) 14
