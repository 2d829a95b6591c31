-- `rows::adding::put_row` meets its contract.
use mathlib.Core.Path.{◌≡◌}
use native.Mathlib.Omega.{arith}
use lib.ListN.{length}
use borrow.Author.Rules.{rules}
use Rattle.schema.proofs.SoundSchema.{source_in, home_in}
use Rattle.rows.proofs.Changing.{row_put, row-joins, counts-few}
use borrow.Author.Rules.{rules}
use Rattle.rows.proofs.adding.put_row.Goals.{Start}
use Rattle.rows.proofs.adding.put_row.Goals as goal

source-long : (c : Start) → length c.args.schema.graph.source ≡ 32
source-long c = search rules

node_long : (c : Start) → length c.args.schema.node ≡ 16
node_long c = search rules

pub join_columns-requires : goal.join_columns-requires
join_columns-requires c = let a = c.args in let A = c.requires.0 in rw c.one_row-row.ensures (row-joins a.schema A a.run c.requires.2 a.table c.requires.1 c.requires.3 a.schema.graph.edges a.schema.graph.source (source_in a.schema A) (omega (arith, source-long (goal.at.join_columns-requires c).Start, A.limits.edges)) (omega (arith, c.requires.4.for_links)) (omega (arith, c.requires.5.for_links)))

pub join_columns-requires-2 : goal.join_columns-requires-2
join_columns-requires-2 c = let a = c.args in let A = c.requires.0 in rw c.one_row-row.ensures (row-joins a.schema A a.run c.requires.2 a.table c.requires.1 c.requires.3 a.schema.attributes a.schema.node (home_in a.schema A) (omega (arith, node_long (goal.at.join_columns-requires-2 c).Start, A.limits.attributes)) (omega (arith, c.requires.4.for_values)) (omega (arith, c.requires.5.for_values)))

pub overflow_add-after : goal.overflow_add-after
overflow_add-after c = omega (arith, counts-few c.args.schema c.args.run c.requires.2 c.args.table c.requires.1)

pub returns : goal.returns
returns c = let a = c.args in row_put a.schema c.requires.0 a.run c.requires.2 a.table c.requires.1 a.row_links.now a.row_values.now a.links.now a.values.now _ _ c.requires.3 (rw c.one_row-row.ensures at c.join_columns.ensures) (rw c.one_row-row.ensures at c.join_columns-2.ensures)
