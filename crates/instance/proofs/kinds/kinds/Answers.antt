-- `instance::kinds::kinds` meets its contract.
use mathlib.Core.Path.{refl}
use Rattle.instance.proofs.kinds.kinds.Goals as goal

pub returns : goal.returns
returns c = refl
