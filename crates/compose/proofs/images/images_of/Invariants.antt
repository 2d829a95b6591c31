-- `compose::images::images_of` meets its contract.
use lib.ListN.{get_or}
use Rattle.instance.specs.Stored.{Counts}
use Rattle.compose.proofs.images.images_of.Given as goal

abbrev pub invariant-loop-i : goal.invariant-loop-i
invariant-loop-i l = Counts l.i (λ k. get_or l.image (get_or l.l k 0) 0) l.r
