-- `text::lines::put_header` meets its contract: four pieces and a newline.
use native.Mathlib.Omega.{arith}
use Rattle.text.specs.Appended.{header_text}
use Rattle.text.proofs.Pieces.{first-room, second-room, third-room, fourth-room, LineEnds, line-ends}
use Rattle.text.proofs.lines.put_header.Goals.{After-put_part-d}
use Rattle.text.proofs.lines.put_header.Goals as goal

pub put_word-a-requires : goal.put_word-a-requires
put_word-a-requires c = first-room _ _ _ _ c.requires

pub put_part-b-requires : goal.put_part-b-requires
put_part-b-requires c = second-room _ _ _ _ c.requires c.put_word-a.ensures

pub put_word-c-requires : goal.put_word-c-requires
put_word-c-requires c = third-room _ _ _ _ c.requires c.put_word-a.ensures c.put_part-b.ensures

pub put_part-d-requires : goal.put_part-d-requires
put_part-d-requires c = fourth-room _ _ _ _ c.requires c.put_word-a.ensures c.put_part-b.ensures c.put_word-c.ensures

ended : (c : After-put_part-d) → LineEnds c.args.out.now 0 (header_text c.args.tables c.args.rows) c.put_part-d.result c.put_part-d.new.out
ended c = line-ends _ _ _ _ c.requires c.put_word-a.ensures c.put_part-b.ensures c.put_word-c.ensures c.put_part-d.ensures

pub bounds-out-d : goal.bounds-out-d
bounds-out-d c = (ended (goal.at.bounds-out-d c).After-put_part-d).room

pub overflow_add-result : goal.overflow_add-result
overflow_add-result c = omega (arith, (ended (goal.at.overflow_add-result c).After-put_part-d).room, (ended (goal.at.overflow_add-result c).After-put_part-d).long, c.well_formed.0.0)

pub returns : goal.returns
returns c = (ended (goal.at.returns c).After-put_part-d).written
