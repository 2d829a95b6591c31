-- `rows::withdrawing::take_row` meets its contract.
use mathlib.Core.Path.{◌≡◌}
use native.Mathlib.Omega.{arith}
use lib.ListN.{length}
use borrow.Author.Rules.{rules}
use Rattle.schema.proofs.SoundSchema.{source_in, home_in}
use Rattle.rows.proofs.Changing.{row-one-more, row-taken}
use borrow.Author.Rules.{rules}
use Rattle.rows.proofs.withdrawing.take_row.Goals.{Start}
use Rattle.rows.proofs.withdrawing.take_row.Goals as goal

source-long : (c : Start) → length c.args.schema.graph.source ≡ 32
source-long c = search rules

target-long : (c : Start) → length c.args.schema.graph.target ≡ 32
target-long c = search rules

node_long : (c : Start) → length c.args.schema.node ≡ 16
node_long c = search rules

pub take_row_out-requires : goal.take_row_out-requires
take_row_out-requires c = let a = c.args in let A = c.requires.0 in row-one-more a.schema A a.run c.requires.2 a.table a.x c.requires.1 c.requires.3 a.schema.graph.edges a.schema.graph.source (source_in a.schema A) (omega (arith, source-long (goal.at.take_row_out-requires c).Start, A.limits.edges)) (omega (arith, c.requires.4.for_links))

pub move_links_down-requires : goal.move_links_down-requires
move_links_down-requires c = let O = (let a = c.args in let A = c.requires.0 in row-one-more a.schema A a.run c.requires.2 a.table a.x c.requires.1 c.requires.3 a.schema.graph.edges a.schema.graph.source (source_in a.schema A) (omega (arith, source-long (goal.at.move_links_down-requires c).Start, A.limits.edges)) {l = c.args.links.now} (omega (arith, c.requires.4.for_links))) in (record { homes = O.homes; tables = O.counted; rows = O.few }, omega (arith, target-long (goal.at.move_links_down-requires c).Start, c.requires.0.limits.edges), omega (arith, c.requires.4.for_links, c.take_row_out.ensures.long))

pub take_row_out-requires-2 : goal.take_row_out-requires-2
take_row_out-requires-2 c = let a = c.args in let A = c.requires.0 in row-one-more a.schema A a.run c.requires.2 a.table a.x c.requires.1 c.requires.3 a.schema.attributes a.schema.node (home_in a.schema A) (omega (arith, node_long (goal.at.take_row_out-requires-2 c).Start, A.limits.attributes)) (omega (arith, c.requires.4.for_values))

pub returns : goal.returns
returns c = let a = c.args in row-taken a.schema c.requires.0 a.run c.requires.2 a.table a.x c.requires.1 c.requires.3 a.links.now a.values.now _ _ _ c.take_row_out.ensures c.move_links_down.ensures c.take_row_out-2.ensures
