-- `rows::withdrawing::is_held` meets its contract.
use mathlib.Core.Path.{◌≡◌, refl, sym, ◌∙◌}
use mathlib.Core.List.{[]}
use native.Mathlib.Omega.{arith}
use lib.ListN.{length}
use borrow.Author.Rules.{rules}
use borrow.Author.Tests.{tests}
use Rattle.std.proofs.iter.Serving.{serving}
use Rattle.std.proofs.lemmas.Iterator.{YieldsList-from_range}
use Rattle.std.proofs.lemmas.Iterator.Search.{any_from_yields_List}
use Rattle.instance.specs.Decoded.{Columns}
use Rattle.instance.proofs.Decoding.{link-columns}
use Rattle.rows.proofs.Holding.{held_test, held_test_lem, any-below}
use Rattle.rows.proofs.withdrawing.is_held.Goals.{Start}
use Rattle.rows.proofs.withdrawing.is_held.Goals as goal

source-long : (c : Start) → length c.args.schema.graph.source ≡ 32
source-long c = search rules

columns : (c : Start) → Columns c.args.schema.graph.edges c.args.schema.graph.source c.args.run.counts
columns c = link-columns c.args.schema c.requires.0 c.args.run.counts c.requires.1.rows c.requires.1.long (source-long c)

pub any-requires-clause-callable : goal.any-requires-clause-callable
any-requires-clause-callable c =
    let e = c.requires.0.limits.edges in
    let C = columns (goal.at.any-requires-clause-callable c).Start in
    grind serving

pub returns : goal.returns
returns c =
    let a = c.args in
    let g = a.schema.graph in
    any_from_yields_List (held_test g.source g.target a.run.counts a.links.now a.table a.x) _ _ c.any.result c.any.ensures.ran (YieldsList-from_range 0 g.edges g.edges refl (omega arith)) (λ x b q k. search (rules, tests))
    ∙ any-below _ g.edges ∙ sym (held_test_lem a.schema a.run a.links.now [] a.table a.x)
