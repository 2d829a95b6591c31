-- `migration::checks::check_raw` meets its contract.
use mathlib.Core.Path.{◌∙◌}
use Rattle.migration.proofs.Grouping.{raw_checked}
use Rattle.migration.proofs.checks.check_raw.Goals as goal

pub returns : goal.returns
returns c = let a = c.args in c.check_side.ensures ∙ raw_checked a.s.now a.t.now a.f.now a.run.now a.book.now a.list.now
