-- `matching::turning::place_tables` meets its contract.
use Rattle.matching.proofs.Placing.{Placing}
use Rattle.matching.proofs.turning.place_tables.Given as goal

abbrev pub invariant-loop-c : goal.invariant-loop-c
invariant-loop-c l = Placing l.node l.own l.initial.next l.next l.places l.c
