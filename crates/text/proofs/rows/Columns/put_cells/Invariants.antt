-- `text::rows::Columns::put_cells` meets its contract. The invariant: the cells of the first k columns are written.
use lib.ListN.{length}
use Rattle.text.specs.Rows.{cell_text}
use Rattle.text.proofs.Series.{SeriesWritten}
use Rattle.text.proofs.rows.Columns.put_cells.Given as goal

abbrev pub invariant-loop-k : goal.invariant-loop-k
invariant-loop-k l = SeriesWritten (cell_text l.fn.self.home.now l.fn.self.cells.now l.table l.row) (length l.fn.self.home.now) l.initial.out l.at l.out l.p l.k
