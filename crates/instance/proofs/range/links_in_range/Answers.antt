-- `instance::range::links_in_range` meets its contract.
use mathlib.Core.Path.{◌≡◌, sym, ◌∙◌}
use mathlib.Core.List.{[]}
use native.Mathlib.Omega.{arith}
use lib.ListN.{length}
use borrow.Author.Rules.{rules}
use Rattle.instance.proofs.Decoding.{link-columns, target-columns}
use Rattle.instance.proofs.Following.{links-test}
use Rattle.instance.proofs.range.links_in_range.Goals.{Start}
use Rattle.instance.proofs.range.links_in_range.Goals as goal

source-long : (c : Start) → length c.args.schema.graph.source ≡ 32
source-long c = search rules

target-long : (c : Start) → length c.args.schema.graph.target ≡ 32
target-long c = search rules

pub columns_below-requires : goal.columns_below-requires
columns_below-requires c =
    let a = c.args in
    let A = c.requires.0 in
    let L = c.requires.1 in
    let e = A.limits.edges in (
      link-columns a.schema A a.instance.counts L.rows L.long (source-long (goal.at.columns_below-requires c).Start),
      target-columns a.schema A a.instance.counts L.rows L.long (target-long (goal.at.columns_below-requires c).Start),
      omega arith,
    )

pub returns : goal.returns
returns c = c.columns_below.ensures ∙ sym (links-test c.args.schema c.requires.0 c.args.instance c.args.links.now [])
