-- `text::framing::nth_part` meets its contract: after each turn one more sheet is passed.
use native.Mathlib.Omega.{arith}
use Rattle.text.proofs.SheetParts.{begins, ends_next, nth-found}
use Rattle.text.proofs.framing.nth_part.Goals as goal

pub loop-init : goal.loop-init
loop-init c = begins _

pub sheet_at-at-requires : goal.sheet_at-at-requires
sheet_at-at-requires c = c.loop.invariant.within

pub loop-preserved : goal.loop-preserved
loop-preserved c = ends_next c.loop.invariant c.sheet_at-at.ensures

pub sheet_at-requires : goal.sheet_at-requires
sheet_at-requires c = c.loop.invariant.within

pub returns : goal.returns
returns c = nth-found c.loop.invariant c.sheet_at.ensures (omega arith)
