-- The partners of each side where its tests are passed.
use Rattle.std.specs.Prelude.{ℕ, List}
use Rattle.meaning.specs.Calls.{Outcome, ◌>>=◌, judge_pushed, judge_raw}
use Rattle.migration.specs.declared.matchings.Side.{Side}
use Rattle.migration.specs.declared.matchings.Side.TheVariants as side
use Rattle.migration.specs.Sides.{Inputs, sized}

-- ---- 15 of either migrated table, then the matching sheet

abbrev pub pushed_list : Inputs → List ℕ → Outcome (List ℕ)
pushed_list y k = do
  x ← sized y
  judge_pushed x k

abbrev pub raw_list : Inputs → List ℕ → Outcome (List ℕ)
raw_list y k = do
  x ← sized y
  judge_raw x k

abbrev pub side_list : Side → Inputs → List ℕ → Outcome (List ℕ)
side_list side.Pushed = pushed_list
side_list side.Raw = raw_list
