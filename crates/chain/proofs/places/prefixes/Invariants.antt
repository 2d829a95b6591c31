-- `chain::places::prefixes` meets its contract.
use lib.ListN.{get_or}
use Rattle.chain.proofs.Collecting.{Collected}
use Rattle.chain.proofs.places.prefixes.Given as goal

abbrev pub invariant-loop-i : goal.invariant-loop-i
invariant-loop-i l = Collected l.p.parent l.x (get_or l.p.length l.x 0) l.l l.i l.y
