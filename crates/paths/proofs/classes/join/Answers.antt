-- `paths::classes::join` meets its contract, by which of the two numbers is the lower.
use mathlib.Core.Path.{◌∙◌}
use native.Mathlib.Omega.{arith}
use Rattle.paths.proofs.Joining.{join-lower, join-upper}
use Rattle.paths.proofs.classes.join.Goals as goal

pub returns-then-x-y : goal.returns-then-x-y
returns-then-x-y c = let a = c.args in c.rename.ensures ∙ join-lower a.x a.y a.of.now (let h = c.if-x-y.true in omega arith)

pub returns : goal.returns
returns c = let a = c.args in c.rename-2.ensures ∙ join-upper a.x a.y a.of.now c.if-x-y.false
