-- `rows::withdrawing::take_out` meets its contract.
use Rattle.rows.proofs.Places.{Taking}
use Rattle.rows.proofs.withdrawing.take_out.Given as goal

abbrev pub invariant-loop-i : goal.invariant-loop-i
invariant-loop-i l = Taking l.initial.l l.base l.x l.l l.i
