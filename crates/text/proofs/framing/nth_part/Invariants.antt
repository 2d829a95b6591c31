-- `text::framing::nth_part` meets its contract: after each turn one more sheet is passed.
use Rattle.text.proofs.SheetParts.{EndsAt}
use Rattle.text.proofs.framing.nth_part.Given as goal

abbrev pub invariant-loop : goal.invariant-loop
invariant-loop l = EndsAt l.input l.counter l.at
