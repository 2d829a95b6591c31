-- `text::rows::put_row` meets its contract: four pieces and a newline.
use native.Mathlib.Omega.{arith}
use Rattle.text.specs.Rows.{row_text}
use Rattle.text.proofs.Pieces.{first-room, second-room, third-room, fourth-room, LineEnds, line-ends}
use Rattle.text.proofs.rows.put_row.Goals.{After-put_cells-d}
use Rattle.text.proofs.rows.put_row.Goals as goal

pub put_decimal-a-requires : goal.put_decimal-a-requires
put_decimal-a-requires c = first-room _ _ _ _ c.requires.0

pub put_part-b-requires : goal.put_part-b-requires
put_part-b-requires c = second-room _ _ _ _ c.requires.0 c.put_decimal-a.ensures

pub put_cells-c-requires : goal.put_cells-c-requires
put_cells-c-requires c = (third-room _ _ _ _ c.requires.0 c.put_decimal-a.ensures c.put_part-b.ensures, c.requires.1.for_links, c.requires.3)

pub put_cells-d-requires : goal.put_cells-d-requires
put_cells-d-requires c = (fourth-room _ _ _ _ c.requires.0 c.put_decimal-a.ensures c.put_part-b.ensures c.put_cells-c.ensures, c.requires.1.for_values, c.requires.3)

ended : (c : After-put_cells-d) → LineEnds c.args.out.now c.args.at
    (row_text c.args.links.home.now c.args.links.cells.now c.args.values.home.now c.args.values.cells.now c.args.table c.args.row)
    c.put_cells-d.result c.put_cells-d.new.out
ended c = line-ends _ _ _ _ c.requires.0 c.put_decimal-a.ensures c.put_part-b.ensures c.put_cells-c.ensures c.put_cells-d.ensures

pub bounds-out-d : goal.bounds-out-d
bounds-out-d c = (ended (goal.at.bounds-out-d c).After-put_cells-d).room

pub overflow_add-result : goal.overflow_add-result
overflow_add-result c = omega (arith, (ended (goal.at.overflow_add-result c).After-put_cells-d).room, (ended (goal.at.overflow_add-result c).After-put_cells-d).long, c.well_formed.0.0)

pub returns : goal.returns
returns c = (ended (goal.at.returns c).After-put_cells-d).written
