-- `matching::values_kept` meets its contract.
use borrow.Author.Rules.{rules}
use borrow.Author.Tests.{tests}
use Rattle.matching.specs.Compared.{value_test}
use Rattle.matching.proofs.Comparing.{all-below}
use Rattle.matching.proofs.values_kept.Goals as goal

pub returns : goal.returns
returns c = let a = c.args in all-below (value_test a.node.now a.tables a.list.now a.a_values.now a.b_values.now) a.n c.all.ensures.ran (λ x b q k. search (rules, tests))
