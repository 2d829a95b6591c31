-- `lifts::even::paths_even` meets its contract.
use Rattle.std.proofs.Common.{arith, rules, refl, ◌∙◌}
use borrow.Author.Tests.{tests}
use Rattle.std.proofs.lemmas.Iterator.{YieldsList-from_range}
use Rattle.std.proofs.lemmas.Iterator.Search.{all_from_yields_List}
use Rattle.lifts.specs.Even.{even_paths_at}
use Rattle.lifts.proofs.Chains.{all_below}
use Rattle.lifts.proofs.even.paths_even.Goals as goal

pub returns : goal.returns
returns c =
    let a = c.args in
    all_from_yields_List (even_paths_at a.source_paths.now a.target_paths.now a.over.now a.node.now) _ _ c.all.result c.all.ensures.ran (YieldsList-from_range 0 a.nodes a.nodes refl (omega arith)) (λ x b q k. search (rules, tests))
    ∙ all_below _ a.nodes
