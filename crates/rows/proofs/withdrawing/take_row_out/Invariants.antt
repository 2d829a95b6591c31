-- `rows::withdrawing::take_row_out` meets its contract.
use Rattle.rows.proofs.TakingOut.{Taken}
use Rattle.rows.proofs.withdrawing.take_row_out.Given as goal

abbrev pub invariant-loop-k : goal.invariant-loop-k
invariant-loop-k l = Taken l.home l.counts l.table l.x l.initial.l l.k l.l
