-- `schema::well_formed::edges_fit` meets its contract: the chain tests each edge.
use mathlib.Core.Path.{refl, ◌∙◌}
use native.Mathlib.Omega.{arith}
use borrow.Author.Rules.{rules}
use borrow.Author.Tests.{tests}
use lib.ListN.{get_or}
use lib.Dec.{ltb}
use mathlib.Core.Bool.{◌&&◌}
use Rattle.std.proofs.lemmas.Iterator.{YieldsList-from_range}
use Rattle.std.proofs.lemmas.Iterator.Search.{all_from_yields_List}
use Rattle.schema.proofs.Chains.{all-range}
use Rattle.schema.proofs.well_formed.edges_fit.Goals as goal

pub returns : goal.returns
returns c =
    let g = c.args.g in
    all_from_yields_List (λ i. ltb (get_or g.source i 0) g.nodes && ltb (get_or g.target i 0) g.nodes) _ _ _ c.all.ensures.ran (YieldsList-from_range 0 g.edges g.edges refl (omega arith)) (λ x b q k. search (rules, tests))
    ∙ all-range _ _ g.edges _ (λ i. refl)
