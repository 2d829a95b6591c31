-- `text::framing::nth_sheet` meets its contract.
use mathlib.Core.Path.{◌∙◌}
use Rattle.text.proofs.framing.nth_sheet.Goals as goal

pub returns : goal.returns
returns c = c.bytes_of.ensures ∙ c.nth_part.ensures.is
