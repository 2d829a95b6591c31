-- `matching::rows::values_agree` meets its contract.
use borrow.Author.Rules.{rules}
use borrow.Author.Tests.{tests}
use Rattle.matching.specs.Compared.{value_kept}
use Rattle.matching.proofs.Comparing.{all-below}
use Rattle.matching.proofs.rows.values_agree.Goals as goal

pub returns : goal.returns
returns c = let a = c.args in all-below (value_kept a.list.now a.first a.a.now a.b.now a.base) a.n c.all.ensures.ran (λ x b q k. search (rules, tests))
