-- `lifts::even::lift_classes` meets its contract.
use mathlib.Core.Path.{◌≡◌}
use Rattle.lifts.specs.Even.{lift_classes}
use Rattle.lifts.proofs.even.lift_classes.Given as goal

abbrev pub invariant-loop-i : goal.invariant-loop-i
invariant-loop-i l = l.lifts ≡ lift_classes l.paths.start l.paths.class l.over l.c l.i
