-- `lifts::even::lifts_unique` meets its contract.
use Rattle.std.proofs.Common.{arith, rules, refl, ◌∙◌}
use borrow.Author.Tests.{tests}
use Rattle.std.proofs.lemmas.Iterator.{YieldsList-from_range}
use Rattle.std.proofs.lemmas.Iterator.Search.{all_from_yields_List}
use Rattle.lifts.specs.Even.{unique_at}
use Rattle.lifts.proofs.Chains.{all_below}
use Rattle.lifts.proofs.even.lifts_unique.Goals as goal

pub returns : goal.returns
returns c =
    let a = c.args in
    all_from_yields_List (unique_at a.paths.now.start a.paths.now.class a.over.now a.lifts.now a.c) _ _ c.all.result c.all.ensures.ran (YieldsList-from_range 0 a.paths.now.count a.paths.now.count refl (omega arith)) (λ x b q k. search (rules, tests))
    ∙ all_below _ a.paths.now.count
