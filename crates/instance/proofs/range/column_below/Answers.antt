-- `instance::range::column_below` meets its contract.
use Rattle.std.proofs.Common.{rules, ◌∙◌}
use Prim.Native.Nat.{◌+◌, ◌-◌}
use lib.Dec.{ltb}
use lib.ListN.{take, drop}
use borrow.Author.Tests.{tests}
use Rattle.std.proofs.lemmas.Iterator.{YieldsList-from_slice}
use Rattle.std.proofs.lemmas.Iterator.Search.{all_from_yields_List}
use Rattle.instance.proofs.Chains.{all-part}
use Rattle.instance.proofs.range.column_below.Goals as goal

pub returns : goal.returns
returns c =
    let a = c.args in
    all_from_yields_List (λ x. ltb x a.bound) _ _ c.all.result c.all.ensures.ran (YieldsList-from_slice (take (a.base + a.n - a.base) (drop a.base a.l.now)) cc) (λ x b q k. search (rules, tests))
    ∙ all-part _ a.l.now a.base a.n c.requires
