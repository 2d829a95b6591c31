-- `paths::classes::own_classes` meets its contract. The invariant: the first i numbers are written.
use Rattle.paths.specs.Table.{Filled}
use Rattle.paths.proofs.classes.own_classes.Given as goal

abbrev pub invariant-loop-i : goal.invariant-loop-i
invariant-loop-i l = Filled 256 (λ k. k) l.i l.of
