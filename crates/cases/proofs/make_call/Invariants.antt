-- `cases::make_call`: each sheet ends behind the record's first byte and within the input.
use Rattle.std.proofs.Common.{◌≤◌, ◌<◌, length}
use Rattle.cases.proofs.make_call.Given as goal

abbrev pub invariant-loop-sheet : goal.invariant-loop-sheet
invariant-loop-sheet g l = (l.at < l.next) × (l.next ≤ length l.input)
