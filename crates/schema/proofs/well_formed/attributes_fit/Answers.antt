-- `schema::well_formed::attributes_fit` meets its contract: the chain tests each attribute.
use mathlib.Core.Path.{refl, ◌∙◌}
use native.Mathlib.Omega.{arith}
use borrow.Author.Rules.{rules}
use borrow.Author.Tests.{tests}
use lib.ListN.{take}
use lib.Dec.{ltb}
use Rattle.std.proofs.lemmas.Iterator.{YieldsList-from_slice}
use Rattle.std.proofs.lemmas.Iterator.Search.{all_from_yields_List}
use Rattle.schema.proofs.Chains.{all-front}
use Rattle.schema.proofs.well_formed.attributes_fit.Goals as goal

pub returns : goal.returns
returns c =
    let t = c.args.t in
    all_from_yields_List (λ x. ltb x t.graph.nodes) _ _ _ c.all.ensures.ran (YieldsList-from_slice (take t.attributes t.node) cc) (λ x b q k. search (rules, tests))
    ∙ all-front _ _ t.attributes t.node _ (omega arith) (λ i. refl)
