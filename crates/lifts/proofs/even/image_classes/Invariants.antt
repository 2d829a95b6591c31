-- `lifts::even::image_classes` meets its contract.
use lib.ListN.{get_or}
use Rattle.paths.specs.Table.{Filled}
use Rattle.lifts.proofs.even.image_classes.Given as goal

abbrev pub invariant-loop-i : goal.invariant-loop-i
invariant-loop-i l = Filled 256 (λ k. get_or l.class (get_or l.path k 0) 0) l.i l.over
