-- `schema::well_formed::equations_fit` meets its contract: the chain tests each equation.
use mathlib.Core.Path.{refl, ◌∙◌}
use native.Mathlib.Omega.{arith}
use borrow.Author.Rules.{rules}
use borrow.Author.Tests.{tests}
use lib.ListN.{get_or}
use Rattle.std.proofs.lemmas.Iterator.{YieldsList-from_range}
use Rattle.std.proofs.lemmas.Iterator.Search.{all_from_yields_List}
use Rattle.meaning.specs.Judge.{equation_fits}
use Rattle.schema.specs.Decoded.{graph_of, equation_of, no_path}
use Rattle.schema.proofs.Chains.{all-range}
use Rattle.schema.proofs.well_formed.equations_fit.Goals as goal

pub returns : goal.returns
returns c =
    let t = c.args.t in
    all_from_yields_List (λ i. equation_fits (graph_of t.graph) (equation_of (get_or t.left i no_path) (get_or t.right i no_path))) _ _ _ c.all.ensures.ran (YieldsList-from_range 0 t.equations t.equations refl (omega arith)) (λ x b q k. search (rules, tests))
    ∙ all-range _ _ t.equations _ (λ i. refl)
