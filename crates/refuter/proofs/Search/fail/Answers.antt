-- `refuter::Search::fail` meets its contract.
use mathlib.Core.Path.{refl}
use Rattle.refuter.proofs.Search.fail.Goals as goal

pub returns : goal.returns
returns c = (c.fail.ensures, (refl, (refl, refl)))
