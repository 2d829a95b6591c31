-- `text::rows::put_table` meets its contract. The invariant: the rows before this one are written.
use native.Mathlib.Omega.{arith}
use Rattle.text.specs.Rows.{table_text}
use Rattle.text.proofs.Series.{series-start, series-room, series-step, series-done}
use Rattle.text.proofs.rows.put_table.Goals as goal

pub loop-row-init : goal.loop-row-init
unfolding table_text
loop-row-init c = series-start _ _ c.requires.0

pub put_row-p-requires : goal.put_row-p-requires
put_row-p-requires c = (series-room c.loop-row.invariant c.loop-row-test.true, c.requires.1, c.requires.2, omega arith)

pub loop-row-preserved : goal.loop-row-preserved
loop-row-preserved c = series-step c.loop-row.invariant c.loop-row-test.true c.put_row-p.ensures

pub returns : goal.returns
unfolding table_text
returns c = series-done c.loop-row.invariant c.loop-row-test.false
