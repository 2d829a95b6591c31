-- `instance::test` meets its contract.
use mathlib.Core.Path.{sym, ◌∙◌}
use Rattle.instance.proofs.test.Goals as goal

pub returns-then-not-values_in_range-clause-says : goal.returns-then-not-values_in_range-clause-says
returns-then-not-values_in_range-clause-says c =
    rw (sym c.links_in_range.ensures ∙ c.if-not-links_in_range.false, sym (rw c.kinds.ensures at c.values_in_range.ensures) ∙ c.if-not-values_in_range.true)

pub returns-then-not-obeys_equations-clause-says : goal.returns-then-not-obeys_equations-clause-says
returns-then-not-obeys_equations-clause-says c =
    rw (sym c.links_in_range.ensures ∙ c.if-not-links_in_range.false, sym (rw c.kinds.ensures at c.values_in_range.ensures) ∙ c.if-not-values_in_range.false, sym c.obeys_equations.ensures ∙ c.if-not-obeys_equations.true)

pub returns-clause-says : goal.returns-clause-says
returns-clause-says c =
    rw (sym c.links_in_range.ensures ∙ c.if-not-links_in_range.false, sym (rw c.kinds.ensures at c.values_in_range.ensures) ∙ c.if-not-values_in_range.false, sym c.obeys_equations.ensures ∙ c.if-not-obeys_equations.false)

pub returns-clause-accepted : goal.returns-clause-accepted
returns-clause-accepted c = record {
  links_in = sym c.links_in_range.ensures ∙ c.if-not-links_in_range.false;
  values_in = sym (rw c.kinds.ensures at c.values_in_range.ensures) ∙ c.if-not-values_in_range.false;
  obeys = sym c.obeys_equations.ensures ∙ c.if-not-obeys_equations.false;
}
