-- `steps::tests::check_joinable` meets its contract.
use mathlib.Core.Path.{◌∙◌}
use Rattle.pi.proofs.ComponentList.{few-are}
use Rattle.steps.proofs.tests.check_joinable.Goals as goal

pub returns : goal.returns
returns c = c.ensure-2.ensures ∙ rw (c.has_few_components.ensures ∙ few-are c.requires.1, ← c.is_bijective.ensures, ← c.in_ok-ensure.ensures)
