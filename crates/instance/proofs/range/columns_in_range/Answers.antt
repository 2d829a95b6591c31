-- `instance::range::columns_in_range` meets its contract.
use mathlib.Core.Path.{sym, ◌∙◌}
use Rattle.meaning.proofs.Tabulate.{passed-more, passed-fail, passed-done}
use Rattle.instance.proofs.range.columns_in_range.Goals as goal

pub loop-a-preserved : goal.loop-a-preserved
loop-a-preserved c =
    let r = rw (c.rows_of-rows.ensures, c.range_of-range.ensures, c.from.ensures) at c.column_within.ensures in
    passed-more c.loop-a.invariant c.loop-a-test.true (sym r ∙ c.if-not-column_within.false)

pub returns-then-not-column_within : goal.returns-then-not-column_within
returns-then-not-column_within c =
    let r = rw (c.rows_of-rows.ensures, c.range_of-range.ensures, c.from.ensures) at c.column_within.ensures in
    sym (passed-fail c.loop-a.invariant c.loop-a-test.true (sym r ∙ c.if-not-column_within.true))

pub returns : goal.returns
returns c = sym (passed-done c.loop-a.invariant c.loop-a-test.false)
