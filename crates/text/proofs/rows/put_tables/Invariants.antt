-- `text::rows::put_tables` meets its contract. The invariant: the tables before this one are written.
use lib.ListN.{length, get_or}
use Rattle.text.specs.Rows.{table_text}
use Rattle.text.proofs.Series.{SeriesWritten}
use Rattle.text.proofs.rows.put_tables.Given as goal

abbrev pub invariant-loop-table : goal.invariant-loop-table
invariant-loop-table l =
    let t = l.fn.links in
    let v = l.fn.values in
    SeriesWritten (λ e. table_text t.home.now t.cells.now v.home.now v.cells.now e (get_or l.counts e 0)) (length l.counts) l.initial.out l.at l.out l.p l.table
