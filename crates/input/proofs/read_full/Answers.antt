-- `input::read_full` meets its contract: nothing read, some more, and no more room.
use Rattle.std.proofs.Common.{rules, arith, length, take, ◌≡◌, ◌-◌, ◌+◌, ap, subst}
use borrow.Rule.Slice.PartMut.{put_mid}
use Rattle.std.specs.Io.KnownBytes.{Consumes}
use Rattle.std.proofs.KnownBytes.{Consumes-nil}
use Rattle.input.proofs.Reading.{consumed_behind}
use Rattle.input.proofs.read_full.Goals as goal

pub loop-done-init : goal.loop-done-init
loop-done-init g c = (search rules, search rules, Consumes-nil _)

pub returns-then-n-eq0-clause-bytes : goal.returns-then-n-eq0-clause-bytes
returns-then-n-eq0-clause-bytes g c =
    let room = length c.loop-done.into - c.loop-done.done in
    let after = put_mid c.loop-done.done room c.loop-done.into c.read.new.buf in
    let same : c.loop-done.done + c.in_ok-n.n ≡ c.loop-done.done = let h = c.if-n-eq0.true in omega arith in
    let read = consumed_behind _ _ _ c.loop-done.done room c.in_ok-n.n c.loop-done.into c.read.new.buf c.loop-done.invariant.1 c.in_ok-n.ensures.bound.0 c.loop-done.invariant.2 c.in_ok-n.ensures.bytes.0 in
    subst (Consumes _ _) (ap (λ m. take m after) same) read

pub loop-done-preserved : goal.loop-done-preserved
loop-done-preserved g c = (search rules, search rules, consumed_behind _ _ _ _ _ _ _ _ c.loop-done.invariant.1 c.in_ok-n.ensures.bound.0 c.loop-done.invariant.2 c.in_ok-n.ensures.bytes.0)
