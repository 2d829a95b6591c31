-- `text::framing::sheet_at` meets its contract: no byte length, a sheet that the input cuts, a whole one.
use native.Mathlib.Omega.{arith}
use Rattle.text.proofs.SheetParts.{sheet-none, sheet-cut, sheet-whole}
use Rattle.text.proofs.framing.sheet_at.Goals as goal

pub returns-then-all-at-lt2 : goal.returns-then-all-at-lt2
returns-then-all-at-lt2 c = sheet-none _ _ (omega arith) c.if-all-at-lt2.true

pub returns-then-all-start : goal.returns-then-all-start
returns-then-all-start c = sheet-cut _ _ (omega arith) (rw c.length_at-size.ensures.is at c.if-all-start.true)

pub returns : goal.returns
returns c = sheet-whole _ _ c.length_at-size.ensures.is (omega arith) c.if-all-start.false
