-- `pi::links::restricted` meets its contract.
use lib.ListN.{get_or}
use Rattle.paths.specs.Table.{Filled}
use Rattle.pi.proofs.links.restricted.Given as goal

abbrev pub invariant-loop-j : goal.invariant-loop-j
invariant-loop-j l = Filled 64 (λ i. get_or l.row (get_or l.places i 0) 0) l.j l.taken
