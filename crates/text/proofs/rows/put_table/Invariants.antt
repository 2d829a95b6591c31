-- `text::rows::put_table` meets its contract. The invariant: the rows before this one are written.
use Rattle.text.specs.Rows.{row_text}
use Rattle.text.proofs.Series.{SeriesWritten}
use Rattle.text.proofs.rows.put_table.Given as goal

abbrev pub invariant-loop-row : goal.invariant-loop-row
invariant-loop-row l =
    let t = l.fn.links in
    let v = l.fn.values in
    SeriesWritten (row_text t.home.now t.cells.now v.home.now v.cells.now l.table) l.rows l.initial.out l.at l.out l.p l.row
