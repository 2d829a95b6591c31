-- `rows::judge::judge_row` meets its contract.
use mathlib.Core.Path.{sym, ◌∙◌}
use native.Mathlib.Omega.{arith}
use Rattle.rows.proofs.FromRow.{row-limits}
use Rattle.rows.proofs.judge.judge_row.Goals as goal

pub values_in_range-requires : goal.values_in_range-requires
values_in_range-requires c = rw c.one_row.ensures (c.requires.0, row-limits c.args.schema c.requires.0 c.args.table c.requires.1, omega (arith, c.requires.3.for_values, c.read_row.auto.values))

pub returns-then-not-values_in_range : goal.returns-then-not-values_in_range
returns-then-not-values_in_range c =
    rw (sym c.in_ok-read_row.ensures, sym c.links_in_range.ensures ∙ c.if-not-links_in_range.false, sym (rw (c.kinds.ensures, c.one_row.ensures) at c.values_in_range.ensures) ∙ c.if-not-values_in_range.true)

pub returns-then-not-obeys_equations : goal.returns-then-not-obeys_equations
returns-then-not-obeys_equations c =
    rw (sym c.in_ok-read_row.ensures, sym c.links_in_range.ensures ∙ c.if-not-links_in_range.false, sym (rw (c.kinds.ensures, c.one_row.ensures) at c.values_in_range.ensures) ∙ c.if-not-values_in_range.false, sym c.obeys_equations.ensures ∙ c.if-not-obeys_equations.true)

pub returns : goal.returns
returns c =
    rw (sym c.in_ok-read_row.ensures, sym c.links_in_range.ensures ∙ c.if-not-links_in_range.false, sym (rw (c.kinds.ensures, c.one_row.ensures) at c.values_in_range.ensures) ∙ c.if-not-values_in_range.false, sym c.obeys_equations.ensures ∙ c.if-not-obeys_equations.false)
