-- `matching::links_kept` meets its contract.
use borrow.Author.Rules.{rules}
use borrow.Author.Tests.{tests}
use Rattle.matching.specs.Compared.{link_test}
use Rattle.matching.proofs.Comparing.{all-below}
use Rattle.matching.proofs.links_kept.Goals as goal

pub returns : goal.returns
returns c = let a = c.args in all-below (link_test a.source.now a.target.now a.tables a.list.now a.a_links.now a.b_links.now) a.n c.all.ensures.ran (λ x b q k. search (rules, tests))
