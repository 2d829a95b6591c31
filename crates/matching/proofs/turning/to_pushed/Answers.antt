-- `matching::turning::to_pushed` meets its contract.
use Rattle.matching.proofs.Transposing.{pushed-moveable, pushed_is}
use Rattle.matching.proofs.turning.to_pushed.Goals as goal

pub copy_tables-requires : goal.copy_tables-requires
copy_tables-requires c = pushed-moveable c.requires.0 c.places_of.ensures c.requires.1 c.requires.2

pub returns : goal.returns
returns c = pushed_is c.requires.0 c.places_of.ensures c.copy_tables.ensures
