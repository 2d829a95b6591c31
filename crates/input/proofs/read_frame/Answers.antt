-- `input::read_frame` meets its contract: a byte length, and the sheet or less of it.
use Rattle.std.proofs.Common.{rules, arith, ℕ, ◌≡◌, ◌+◌, ◌-◌, ◌≤◌, List, length}
use borrow.Rule.Slice.PartMut.{put_mid}
use Rattle.std.specs.Io.KnownBytes.{Consumes}
use Rattle.std.proofs.lemmas.Slice.{take-put_mid_below}
use Rattle.std.proofs.lemmas.Result.{err_from_is_err_and}
use Rattle.meaning.specs.Program.{announced}
use Rattle.input.specs.Read.{ReadFrom, read_to}
use Rattle.input.proofs.Reading.{frame-some, frame_consumed, broken_sheet}
use Rattle.input.proofs.read_frame.Given.{Over}
use Rattle.input.proofs.read_frame.Goals.{In_ok-of_sheet}
use Rattle.input.proofs.read_frame.Goals as goal

module _ (g : Over) (c : In_ok-of_sheet g) where
  -- the buffer, with the byte length in it, and with what of the sheet was read
  abbrev lengthed : List ℕ
  lengthed = put_mid c.args.at (c.args.at + 2 - c.args.at) c.args.into.now c.read_full.new.into

  abbrev filled : List ℕ
  filled = put_mid (c.args.at + 2) (c.args.at + 2 + c.length_at-size.result - (c.args.at + 2)) lengthed c.read_full-2.new.into

  abbrev end : ℕ
  end = c.args.at + 2 + c.in_ok-of_sheet.of_sheet

  framed : ReadFrom c.args.into.now c.args.at end filled × (c.length_at-size.result ≤ c.in_ok-of_sheet.of_sheet → end - c.args.at ≡ 2 + announced (read_to filled c.args.at end))
  framed =
      let at = c.args.at in
      let size = c.length_at-size.result in
      let within = c.requires in
      let first_long : length lengthed ≡ length c.args.into.now = search rules in
      let new_long : length filled ≡ length lengthed = search rules in
      let got : c.in_ok-of_sheet.of_sheet ≤ size = search rules in
      frame-some within first_long (take-put_mid_below at (at + 2 - at) c.args.into.now _ at (omega arith) (omega arith)) new_long (take-put_mid_below (at + 2) (at + 2 + size - (at + 2)) lengthed _ (at + 2) (omega arith) (omega arith)) c.length_at-size.ensures got

  consumed : Consumes (g.R.Read.remaining c.args.reader.now) (g.R.Read.remaining c.read_full-2.new.reader) (read_to filled c.args.at end)
  consumed =
      let within = c.requires in
      let first_long : length lengthed ≡ length c.args.into.now = search rules in
      let two : length c.read_full.new.into ≡ 2 = search rules in
      frame_consumed _ _ _ c.args.at _ _ _ _ c.args.into.now c.read_full.new.into c.read_full-2.new.into (omega arith) two first_long (omega (arith, c.in_ok-of_length.ensures.count.0)) c.if-of_length-lt2.false c.in_ok-of_sheet.ensures.count.0 c.in_ok-of_length.ensures.bytes c.in_ok-of_sheet.ensures.bytes

pub returns-then-of_sheet-size-clause-frame : goal.returns-then-of_sheet-size-clause-frame
returns-then-of_sheet-size-clause-frame g c = (framed g (goal.at.returns-then-of_sheet-size-clause-frame g c).In_ok-of_sheet).0

pub returns-then-of_sheet-size-clause-bytes : goal.returns-then-of_sheet-size-clause-bytes
returns-then-of_sheet-size-clause-bytes g c = consumed g (goal.at.returns-then-of_sheet-size-clause-bytes g c).In_ok-of_sheet

pub returns-clause-frame : goal.returns-clause-frame
returns-clause-frame g c = let f = framed g (goal.at.returns-clause-frame g c).In_ok-of_sheet in (f.0, f.1 c.if-of_sheet-size.false)

pub returns-clause-bytes : goal.returns-clause-bytes
returns-clause-bytes g c = consumed g (goal.at.returns-clause-bytes g c).In_ok-of_sheet

pub returns-in_err-of_sheet-clause-err : goal.returns-in_err-of_sheet-clause-err
returns-in_err-of_sheet-clause-err g c =
    let at = c.args.at in
    let size = c.length_at-size.result in
    let old = c.args.into.now in
    let within = c.requires in
    let first = put_mid at (at + 2 - at) old c.read_full.new.into in
    let first_long : length first ≡ length old = search rules in
    let two : length c.read_full.new.into ≡ 2 = search rules in
    let part : length c.read_full-2.new.into ≡ at + 2 + size - (at + 2) = search rules in
    let all_long : length (put_mid (at + 2) (at + 2 + size - (at + 2)) first c.read_full-2.new.into) ≡ length old = search rules in
    let p = err_from_is_err_and c.from_residual-in_err-of_sheet.result c.from_residual-in_err-of_sheet.ensures.1 in
    rw p.1 (broken_sheet _ _ _ at _ _ _ old c.read_full.new.into c.read_full-2.new.into _ (omega arith) two first_long (omega (arith, c.length_at-size.ensures.within)) all_long (omega (arith, c.in_ok-of_length.ensures.count.0)) c.if-of_length-lt2.false c.in_ok-of_length.ensures.bytes c.in_err-of_sheet.ensures.err)
