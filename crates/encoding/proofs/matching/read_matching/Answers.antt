-- `encoding::matching::read_matching` meets its contract.
use Prim.Native.Nat.{◌+◌, ◌*◌, ◌≤◌, ◌<◌}
use mathlib.Core.Path.{◌≡◌, sym, ap, ◌∙◌}
use mathlib.Core.Bool.{true, false}
use native.Mathlib.Omega.{arith}
use lib.ListN.{length}
use borrow.Author.Tests.{ltb-true, ltb-false}
use Rattle.bits.specs.Field.{tail_ok}
use Rattle.meaning.specs.Sheet.{judged}
use Rattle.encoding.proofs.MatchingSheets.{partners-cut, partners-tail, partners-read}
use Rattle.encoding.proofs.matching.read_matching.Goals as goal

pub returns-then-lacks_at : goal.returns-then-lacks_at
returns-then-lacks_at c =
    let a = c.args in
    let h : 8 * length a.s.now < 0 + 9 * a.n = ltb-true _ _ (sym c.lacks_at.ensures ∙ c.if-lacks_at.true) in
    sym (ap judged (partners-cut a.s.now a.n (omega arith)))

pub returns-then-not-ends_at : goal.returns-then-not-ends_at
returns-then-not-ends_at c =
    let a = c.args in
    let h : 0 + 9 * a.n ≤ 8 * length a.s.now = ltb-false _ _ (sym c.lacks_at.ensures ∙ c.if-lacks_at.false) in
    let t : tail_ok a.s.now (9 * a.n) ≡ false = sym c.ends_at.ensures ∙ c.if-not-ends_at.true in
    sym (ap judged (partners-tail a.s.now a.n (omega arith) t))

pub returns : goal.returns
returns c =
    let a = c.args in
    let h : 0 + 9 * a.n ≤ 8 * length a.s.now = ltb-false _ _ (sym c.lacks_at.ensures ∙ c.if-lacks_at.false) in
    let t : tail_ok a.s.now (9 * a.n) ≡ true = sym c.ends_at.ensures ∙ c.if-not-ends_at.false in
    sym (ap judged (partners-read a.s.now a.n c.read_column.ensures (omega arith) t))
