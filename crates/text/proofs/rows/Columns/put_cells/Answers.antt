-- `text::rows::Columns::put_cells` meets its contract. The invariant: the cells of the first k columns are written.
use mathlib.Core.Path.{sym, ◌∙◌}
use native.Mathlib.Omega.{arith}
use borrow.Author.Tests.{eq-eqb, ne_eqb}
use Rattle.text.specs.Rows.{cells_text}
use Rattle.text.proofs.Appending.{appended-none}
use Rattle.text.proofs.Pieces.{own-part, no_part}
use Rattle.text.proofs.Series.{series-start, series-room, series-step, series-done}
use Rattle.text.proofs.rows.Columns.put_cells.Goals.{then-from-table, else-from-table}
use Rattle.text.proofs.rows.Columns.put_cells.Goals as goal

pub loop-k-init : goal.loop-k-init
unfolding cells_text
loop-k-init c = series-start _ _ c.requires.0

pub put_part-p-requires : goal.put_part-p-requires
put_part-p-requires c =
    rw (own-part _ (eq-eqb _ _ (sym c.from.ensures ∙ c.if-from-table.true))) at (series-room c.loop-k.invariant c.loop-k-test.true)

pub loop-k-preserved : goal.loop-k-preserved
loop-k-preserved c =
    let v = c.loop-k.invariant in
    let t = c.loop-k-test.true in
    elim c.if-from-table.branch [
      | then-from-table w ↦ rw (w.out-is, w.p-is) (series-step v t (rw (own-part _ (eq-eqb _ _ (sym c.from.ensures ∙ w.if-from-table.true))) w.put_part-p.ensures))
      | else-from-table w ↦ rw (w.out-is, w.p-is) (series-step v t (rw (no_part _ (ne_eqb _ _ (λ e. w.if-from-table.false (c.from.ensures ∙ e)))) (appended-none _ _)))
    ]

pub returns : goal.returns
unfolding cells_text
returns c = series-done c.loop-k.invariant (omega arith)
