-- `lifts::even::count_over` meets its contract.
use Rattle.std.proofs.Common.{arith, rules, ◌∙◌}
use borrow.Author.Tests.{tests}
use Rattle.std.proofs.lemmas.Iterator.{YieldsList-from_range}
use Rattle.std.proofs.lemmas.Iterator.Consumers.{YieldsList-from_filter, count_from_yields_List}
use Rattle.lifts.specs.Even.{is_over}
use Rattle.lifts.proofs.Chains.{count_below}
use Rattle.lifts.proofs.even.count_over.Goals as goal

pub returns : goal.returns
returns c =
    let a = c.args in
    count_from_yields_List c.filter.result c.count.result c.count.ensures.ran
    (YieldsList-from_filter _ (is_over a.home.now a.image.now a.c a.b) (YieldsList-from_range 0 a.n a.n (c.filter.ensures.source) (omega arith)) c.filter.ensures.closure (λ x b q k. search (rules, tests)))
    ∙ count_below _ a.n
