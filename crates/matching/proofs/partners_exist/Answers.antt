-- `matching::partners_exist` meets its contract.
use borrow.Author.Rules.{rules}
use borrow.Author.Tests.{tests}
use Rattle.matching.specs.Compared.{exist_test}
use Rattle.matching.proofs.Comparing.{all-below}
use Rattle.matching.proofs.partners_exist.Goals as goal

pub returns : goal.returns
returns c = let a = c.args in all-below (exist_test a.tables a.counts.now a.list.now) a.n c.all.ensures.ran (λ x b q k. search (rules, tests))
