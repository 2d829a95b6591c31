-- `instance::range::columns_below` meets its contract.
use Rattle.std.proofs.Common.{arith, rules, refl, ◌∙◌}
use borrow.Author.Tests.{tests}
use Rattle.std.proofs.lemmas.Iterator.{YieldsList-from_range}
use Rattle.std.proofs.lemmas.Iterator.Search.{all_from_yields_List}
use Rattle.instance.specs.Tested.{link_test}
use Rattle.instance.proofs.Chains.{all-below}
use Rattle.instance.proofs.range.columns_below.Goals as goal

pub returns : goal.returns
returns c =
    let a = c.args in
    all_from_yields_List (link_test a.source.now a.target.now a.rows.now a.counts.now a.links.now) _ _ c.all.result c.all.ensures.ran (YieldsList-from_range 0 a.n a.n refl (omega arith))
    (λ x b q k. search (rules, tests))
    ∙ all-below _ a.n
