-- `paths::classes::rename` meets its contract. The invariant: the first numbers are renamed.
use mathlib.Core.Path.{◌≡◌}
use Rattle.paths.specs.Classes.{renamed_to}
use Rattle.paths.proofs.Joining.{front}
use Rattle.paths.proofs.classes.rename.Given as goal

abbrev pub invariant-loop-x : goal.invariant-loop-x
invariant-loop-x l = l.of ≡ front (renamed_to l.old l.new) l.x-index l.initial.of
