-- `text::rows::put_tables` meets its contract. The invariant: the tables before this one are written.
use native.Mathlib.Omega.{arith}
use Rattle.text.specs.Rows.{tables_text}
use Rattle.text.proofs.Series.{series-start, series-room, series-step, series-done}
use Rattle.text.proofs.rows.put_tables.Goals as goal

pub loop-table-init : goal.loop-table-init
unfolding tables_text
loop-table-init c = series-start _ _ c.requires.0

pub put_table-p-requires : goal.put_table-p-requires
put_table-p-requires c = (series-room c.loop-table.invariant c.loop-table-test.true, c.requires.1, omega arith, c.requires.3 c.loop-table.table c.loop-table-test.true)

pub loop-table-preserved : goal.loop-table-preserved
loop-table-preserved c = series-step c.loop-table.invariant c.loop-table-test.true c.put_table-p.ensures

pub returns : goal.returns
unfolding tables_text
returns c = series-done c.loop-table.invariant (omega arith)
