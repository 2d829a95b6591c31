-- `paths::classes::rename` meets its contract. The invariant: the first numbers are renamed.
use mathlib.Core.Path.{◌∙◌}
use native.Mathlib.Omega.{arith}
use borrow.Author.Tests.{eq-eqb, ne_eqb}
use Rattle.paths.specs.Classes.{renamed_to}
use Rattle.paths.proofs.Joining.{front-none, front-more, front-all}
use Rattle.paths.proofs.classes.rename.Goals.{then-x-old, else-x-old}
use Rattle.paths.proofs.classes.rename.Goals as goal

pub loop-x-init : goal.loop-x-init
loop-x-init c = front-none _ _

pub loop-x-preserved : goal.loop-x-preserved
loop-x-preserved c =
    let a = c.args in
    front-more (renamed_to a.old a.new) c.loop-x.x-index c.if-x-old.x a.of.now c.loop-x.of (omega arith) c.loop-x.invariant
    (elim c.if-x-old.branch [ then-x-old w ↦ rw (eq-eqb _ _ w.if-x-old.true) w.x-is | else-x-old w ↦ rw (ne_eqb _ _ w.if-x-old.false) w.x-is ])

pub returns : goal.returns
returns c = c.loop-x.invariant ∙ front-all (renamed_to c.args.old c.args.new) c.loop-x.x-index c.args.of.now (omega arith)
