-- `mapping::fits::nodes_fit` meets its contract: the chain tests each node's image.
use Rattle.std.proofs.Common.{refl, ◌∙◌, take, ltb, rules, arith}
use Rattle.std.proofs.lemmas.Iterator.{YieldsList-from_slice}
use Rattle.std.proofs.lemmas.Iterator.Search.{all_from_yields_List}
use borrow.Author.Tests.{tests}
use Rattle.schema.proofs.Chains.{all-front}
use Rattle.mapping.proofs.fits.nodes_fit.Goals as goal

pub returns : goal.returns
returns c =
    let a = c.args in
    all_from_yields_List (λ d. ltb d a.bound) _ _ _ c.all.ensures.ran (YieldsList-from_slice (take a.n a.node.now) (search rules)) (λ x b q k. search (rules, tests))
    ∙ all-front _ _ a.n a.node.now _ (omega arith) (λ i. refl)
