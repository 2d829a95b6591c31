-- `rows::judge::links_in_range` meets its contract.
use mathlib.Core.Path.{◌≡◌, sym, ◌∙◌}
use mathlib.Core.List.{[]}
use native.Mathlib.Omega.{arith}
use lib.ListN.{length}
use borrow.Author.Rules.{rules}
use Rattle.instance.proofs.Decoding.{link-columns, target-columns}
use Rattle.instance.proofs.Following.{row-links-test}
use Rattle.rows.specs.Row.{row_counts, row_alone}
use Rattle.rows.proofs.FromRow.{row-limits}
use borrow.Author.Rules.{rules}
use Rattle.rows.proofs.judge.links_in_range.Goals.{Start}
use Rattle.rows.proofs.judge.links_in_range.Goals as goal

source-long : (c : Start) → length c.args.schema.graph.source ≡ 32
source-long c = search rules

target-long : (c : Start) → length c.args.schema.graph.target ≡ 32
target-long c = search rules

pub columns_below-requires : goal.columns_below-requires
columns_below-requires c = let a = c.args in
    let A = c.requires.0 in
    let L = c.requires.2 in
    let l = row-limits a.schema A a.table c.requires.1 in
    let e = A.limits.edges in
    rw c.one_row-row.ensures (link-columns a.schema A (row_counts a.table) l.rows l.long (source-long (goal.at.columns_below-requires c).Start), target-columns a.schema A a.run.counts L.rows L.long (target-long (goal.at.columns_below-requires c).Start), omega (arith, c.requires.3))

pub returns : goal.returns
returns c = let a = c.args in
    let r = rw c.one_row-row.ensures at c.columns_below.ensures in
    r ∙ sym (row-links-test a.schema c.requires.0 a.run [] [] (row_alone a.table) a.row_links.now [])
