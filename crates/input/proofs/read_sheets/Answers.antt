-- `input::read_sheets` meets its contract: after each turn one more whole sheet has been read.
use Rattle.std.proofs.Common.{arith, sym, subst}
use Rattle.std.specs.Io.KnownBytes.{Consumes}
use Rattle.std.proofs.KnownBytes.{Consumes-nil, Consumes-trans}
use Rattle.std.proofs.lemmas.Result.{err_from_is_err_and}
use Rattle.input.proofs.Reading.{broken_next, none_read, room-left, next-read, last-read, all_read, joined}
use Rattle.input.proofs.read_sheets.Goals as goal

pub loop-init : goal.loop-init
loop-init g c = (none_read _ _, Consumes-nil _)

pub read_frame-requires : goal.read_frame-requires
read_frame-requires g c = room-left c.loop.invariant.0 (omega arith) c.requires

pub returns-in-Cut-clause-sheets : goal.returns-in-Cut-clause-sheets
returns-in-Cut-clause-sheets g c = last-read c.loop.invariant.0 (omega arith) c.requires (rw c.in-Cut.is at c.in_ok-end.ensures.frame) c.read_frame.auto.into

pub returns-in-Cut-clause-bytes : goal.returns-in-Cut-clause-bytes
returns-in-Cut-clause-bytes g c =
    let f = rw c.in-Cut.is at c.in_ok-end.ensures.frame in
    let b = rw c.in-Cut.is at c.in_ok-end.ensures.bytes in
    subst (Consumes _ _) (sym (joined c.loop.invariant.0 (omega arith) c.requires f c.read_frame.auto.into)) (Consumes-trans _ _ _ _ _ c.loop.invariant.1 b)

pub loop-preserved : goal.loop-preserved
loop-preserved g c =
    let f = rw c.in-Whole.is at c.in_ok-end.ensures.frame in
    let b = rw c.in-Whole.is at c.in_ok-end.ensures.bytes in (
      next-read c.loop.invariant.0 (omega arith) c.requires f.0 c.read_frame.auto.into f.1,
      subst (Consumes _ _) (sym (joined c.loop.invariant.0 (omega arith) c.requires f.0 c.read_frame.auto.into)) (Consumes-trans _ _ _ _ _ c.loop.invariant.1 b),
    )

pub returns-clause-sheets : goal.returns-clause-sheets
returns-clause-sheets g c = all_read c.loop.invariant.0 (omega arith) c.requires

pub returns-clause-bytes : goal.returns-clause-bytes
returns-clause-bytes g c = c.loop.invariant.1

pub returns-in_err-end-clause-err : goal.returns-in_err-end-clause-err
returns-in_err-end-clause-err g c =
    let p = err_from_is_err_and c.from_residual.result c.from_residual.ensures.1 in
    rw p.1 (broken_next _ _ _ c.loop.at c.args.into.now c.loop.into c.read_frame.new.into c.loop.invariant.1 c.in_err-end.ensures.err)
