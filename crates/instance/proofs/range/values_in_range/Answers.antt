-- `instance::range::values_in_range` meets its contract.
use mathlib.Core.Path.{◌≡◌, sym, ◌∙◌}
use mathlib.Core.List.{[]}
use native.Mathlib.Omega.{arith}
use lib.ListN.{length}
use borrow.Author.Rules.{rules}
use Rattle.instance.specs.Ranges.{kinds_of}
use Rattle.instance.proofs.Decoding.{value-columns}
use Rattle.instance.proofs.Following.{values-test}
use Rattle.instance.proofs.range.values_in_range.Goals.{Start}
use Rattle.instance.proofs.range.values_in_range.Goals as goal

node_long : (c : Start) → length c.args.schema.node ≡ 16
node_long c = search rules

kind-long : (c : Start) → length c.args.schema.kind ≡ 16
kind-long c = search rules

pub columns_in_range-requires : goal.columns_in_range-requires
columns_in_range-requires c =
    let a = c.args in
    let A = c.requires.0 in
    let L = c.requires.1 in
    let e = A.limits.attributes in
    (value-columns a.schema A a.instance.counts L.rows L.long (node_long (goal.at.columns_in_range-requires c).Start), omega (arith, kind-long (goal.at.columns_in_range-requires c).Start), omega arith)

pub returns : goal.returns
returns c = c.columns_in_range.ensures ∙ sym (values-test c.args.schema c.requires.0 c.args.instance [] c.args.values.now (kinds_of c.args.kinds))
