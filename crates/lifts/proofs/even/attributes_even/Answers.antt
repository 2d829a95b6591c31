-- `lifts::even::attributes_even` meets its contract.
use Rattle.std.proofs.Common.{arith, rules, refl, ◌∙◌}
use borrow.Author.Tests.{tests}
use Rattle.std.proofs.lemmas.Iterator.{YieldsList-from_range}
use Rattle.std.proofs.lemmas.Iterator.Search.{all_from_yields_List}
use Rattle.lifts.specs.Even.{even_columns_at}
use Rattle.lifts.proofs.Chains.{all_below}
use Rattle.lifts.proofs.even.attributes_even.Goals as goal

pub returns : goal.returns
returns c =
    let a = c.args in
    all_from_yields_List (even_columns_at a.s a.t a.f) _ _ c.all.result c.all.ensures.ran (YieldsList-from_range 0 a.s.graph.nodes a.s.graph.nodes refl (omega arith)) (λ x b q k. search (rules, tests))
    ∙ all_below _ a.s.graph.nodes
