-- `cases::make_calls` goes on behind the record of each call.
use Rattle.std.proofs.Common.{◌-◌, length}
use Rattle.cases.proofs.make_calls.Given as goal

abbrev pub decreases-loop-at : goal.decreases-loop-at
decreases-loop-at g l = length l.input - l.at
