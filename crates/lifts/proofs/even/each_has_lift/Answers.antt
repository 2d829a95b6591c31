-- `lifts::even::each_has_lift` meets its contract.
use Rattle.std.proofs.Common.{arith, rules, refl, ◌∙◌}
use borrow.Author.Tests.{tests}
use Rattle.std.proofs.lemmas.Iterator.{YieldsList-from_range}
use Rattle.std.proofs.lemmas.Iterator.Search.{all_from_yields_List}
use Rattle.lifts.specs.Even.{has_lift_at}
use Rattle.lifts.proofs.Chains.{all_below}
use Rattle.lifts.proofs.even.each_has_lift.Goals as goal

pub returns : goal.returns
returns c =
    let a = c.args in
    all_from_yields_List (has_lift_at a.paths.now.start a.paths.now.class a.lifts.now a.d) _ _ c.all.result c.all.ensures.ran (YieldsList-from_range 0 a.paths.now.count a.paths.now.count refl (omega arith)) (λ x b q k. search (rules, tests))
    ∙ all_below _ a.paths.now.count
