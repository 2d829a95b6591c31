-- `paths::path_table` meets its contract.
use Rattle.paths.proofs.path_table.Goals as goal

pub returns : goal.returns
returns c = c.fill.ensures
