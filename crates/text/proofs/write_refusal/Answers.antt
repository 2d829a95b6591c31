-- `text::write_refusal` meets its contract: three pieces, an empty one and a newline.
use native.Mathlib.Omega.{arith}
use Rattle.text.specs.Appended.{Room, refusal_text}
use Rattle.text.proofs.Appending.{appended-none}
use Rattle.text.proofs.Pieces.{first-room, second-room, third-room, LineEnds, line-ends}
use Rattle.text.proofs.WholeText.{refusal-room, refusal-written}
use Rattle.text.proofs.write_refusal.Goals.{After-put_part-c, Start}
use Rattle.text.proofs.write_refusal.Goals as goal

room : (c : Start) → Room c.args.out.now 0 (refusal_text c.args.number c.args.place)
room c = refusal-room c.requires c.args.number c.args.place

pub put_word-a-requires : goal.put_word-a-requires
put_word-a-requires c = first-room _ _ _ _ (room (goal.at.put_word-a-requires c).Start)

pub put_part-b-requires : goal.put_part-b-requires
put_part-b-requires c = rw c.from.ensures (second-room _ _ _ _ (room (goal.at.put_part-b-requires c).Start) c.put_word-a.ensures)

pub put_part-c-requires : goal.put_part-c-requires
put_part-c-requires c = rw c.from-2.ensures (third-room _ _ _ _ (room (goal.at.put_part-c-requires c).Start) c.put_word-a.ensures (rw c.from.ensures at c.put_part-b.ensures))

ended : (c : After-put_part-c) → LineEnds c.args.out.now 0 (refusal_text c.args.number c.args.place) c.put_part-c.result c.put_part-c.new.out
ended c = line-ends _ _ _ _ (refusal-room c.requires c.args.number c.args.place) c.put_word-a.ensures (rw c.from.ensures at c.put_part-b.ensures) (rw c.from-2.ensures at c.put_part-c.ensures) (appended-none _ _)

pub bounds-out-c : goal.bounds-out-c
bounds-out-c c = (ended (goal.at.bounds-out-c c).After-put_part-c).room

pub overflow_add-result : goal.overflow_add-result
overflow_add-result c = omega (arith, (ended (goal.at.overflow_add-result c).After-put_part-c).room, (ended (goal.at.overflow_add-result c).After-put_part-c).long, c.well_formed.0.0)

pub returns : goal.returns
returns c = refusal-written c.requires c.args.number c.args.place (ended (goal.at.returns c).After-put_part-c).written
