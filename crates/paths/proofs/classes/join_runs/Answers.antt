-- `paths::classes::join_runs` meets its contract. The invariant: j pairs are joined.
use mathlib.Core.Path.{sym, ◌∙◌}
use native.Mathlib.Omega.{arith}
use Rattle.paths.proofs.Joining.{join-same, run_more, run-done}
use Rattle.paths.proofs.classes.join_runs.Goals.{then-x-y, else-x-y}
use Rattle.paths.proofs.classes.join_runs.Goals as goal

pub loop-j-preserved : goal.loop-j-preserved
loop-j-preserved c = run_more c.loop-j.invariant (omega arith) (elim c.if-x-y.branch [ then-x-y w ↦ w.of-is ∙ w.join.ensures | else-x-y w ↦ w.of-is ∙ sym (join-same _ _ _ w.if-x-y.false) ])

pub returns : goal.returns
returns c = run-done c.loop-j.invariant (omega arith)
