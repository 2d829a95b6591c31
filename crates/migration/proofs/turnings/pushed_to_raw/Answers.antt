-- `migration::turnings::pushed_to_raw` meets its contract.
use mathlib.Core.Path.{ap, ◌∙◌}
use Rattle.meaning.specs.Calls.{in_tray}
use Rattle.migration.proofs.Grouping.{pushed_turned}
use Rattle.migration.proofs.turnings.pushed_to_raw.Goals as goal

pub returns : goal.returns
returns c = let a = c.args in c.turn_side.ensures ∙ ap (in_tray a.tray.now) (pushed_turned a.s.now a.t.now a.f.now a.run.now a.book.now a.list.now)
