-- `rows::withdrawing::stands` meets its contract.
use Rattle.std.proofs.Common.{rules, ◌∙◌}
use Prim.Native.Nat.{◌+◌, ◌-◌}
use lib.Dec.{eqb}
use lib.ListN.{take, drop}
use borrow.Author.Tests.{tests}
use Rattle.std.proofs.lemmas.Iterator.{YieldsList-from_slice}
use Rattle.std.proofs.lemmas.Iterator.Search.{any_from_yields_List}
use Rattle.rows.proofs.Holding.{any-part}
use Rattle.rows.proofs.withdrawing.stands.Goals as goal

pub returns : goal.returns
returns c =
    let a = c.args in
    any_from_yields_List (eqb a.x) _ _ c.any.result c.any.ensures.ran (YieldsList-from_slice (take (a.base + a.n - a.base) (drop a.base a.l.now)) cc) (λ x b q k. search (rules, tests))
    ∙ any-part _ a.l.now a.base a.n c.requires
