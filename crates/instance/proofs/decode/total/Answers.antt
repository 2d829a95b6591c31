-- `instance::decode::total` meets its contract.
use Prim.Native.Nat.{◌<◌}
use Rattle.std.proofs.Common.{arith, rules, ◌∙◌}
use lib.ListN.{take}
use Rattle.std.proofs.lemmas.Iterator.{YieldsList-from_slice, YieldsList-from_map}
use Rattle.std.proofs.lemmas.Iterator.Consumers.{sum_from_yields_List, fits_from_yields_list}
use Rattle.std.specs.List.{sum}
use mathlib.Core.List.{map}
use lib.ListN.{get_or}
use Rattle.instance.proofs.Columns.{sum_of-few}
use Rattle.instance.proofs.Chains.{sum-front}
use Rattle.instance.proofs.decode.total.Goals as goal

pub sum-requires-clause-fits : goal.sum-requires-clause-fits
sum-requires-clause-fits c =
    let a = c.args in
    let e = sum-front a.n a.counts.now c.requires.1 in
    let few = sum_of-few 4294967295 a.n (λ k. get_or a.counts.now k 0) (λ k h. omega (arith, c.type_inv.counts k)) in
    let small : sum (map (λ x. x) (take a.n a.counts.now)) < 18446744073709551616 = omega arith in
    fits_from_yields_list c.map.result _ (YieldsList-from_map _ (λ x. x) (YieldsList-from_slice (take a.n a.counts.now) cc) c.map.ensures.closure (λ x r q k. search rules)) small

pub returns : goal.returns
returns c =
    let a = c.args in
    sum_from_yields_List c.map.result c.sum.result c.sum.ensures.ran (YieldsList-from_map _ (λ x. x) (YieldsList-from_slice (take a.n a.counts.now) cc) c.map.ensures.closure (λ x r q k. search rules))
    ∙ sum-front a.n a.counts.now c.requires.1
