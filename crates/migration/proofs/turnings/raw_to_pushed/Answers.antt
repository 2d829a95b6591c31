-- `migration::turnings::raw_to_pushed` meets its contract.
use mathlib.Core.Path.{ap, ◌∙◌}
use Rattle.meaning.specs.Calls.{in_tray}
use Rattle.migration.proofs.Grouping.{raw_turned}
use Rattle.migration.proofs.turnings.raw_to_pushed.Goals as goal

pub returns : goal.returns
returns c = let a = c.args in c.turn_side.ensures ∙ ap (in_tray a.tray.now) (raw_turned a.s.now a.t.now a.f.now a.run.now a.book.now a.list.now)
