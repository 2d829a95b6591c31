-- `rows::withdrawing::move_links_down` meets its contract.
use Rattle.rows.proofs.TakingOut.{Moved}
use Rattle.rows.proofs.withdrawing.move_links_down.Given as goal

abbrev pub invariant-loop-e : goal.invariant-loop-e
invariant-loop-e l = Moved l.source l.target l.counts l.table l.x l.initial.links l.e l.links
