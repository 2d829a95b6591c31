-- `schema::count::next_row` meets its contract. The invariant: the first e edges have handed their targets' numbers on.
use Rattle.schema.proofs.Tallies.{Handed}
use Rattle.schema.proofs.count.next_row.Given as goal

abbrev pub invariant-loop-e : goal.invariant-loop-e
invariant-loop-e l = Handed l.g l.initial.tally l.at l.e l.tally
