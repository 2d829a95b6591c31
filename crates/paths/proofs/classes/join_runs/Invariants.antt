-- `paths::classes::join_runs` meets its contract. The invariant: j pairs are joined.
use Rattle.paths.proofs.Joining.{Run}
use Rattle.paths.proofs.classes.join_runs.Given as goal

abbrev pub invariant-loop-j : goal.invariant-loop-j
invariant-loop-j l = Run l.a l.b l.n l.initial.of l.j l.of
