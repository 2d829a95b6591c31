-- `paths::walk::path_number` meets its contract.
use Rattle.paths.proofs.walk.path_number.Goals as goal

pub walk-requires : goal.walk-requires
walk-requires c = rw (c.from.ensures, c.from-2.ensures) c.requires

pub returns : goal.returns
returns c = rw (← c.from.ensures, ← c.from-2.ensures) c.walk.ensures
