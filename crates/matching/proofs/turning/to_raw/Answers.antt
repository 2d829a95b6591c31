-- `matching::turning::to_raw` meets its contract.
use Rattle.matching.proofs.Transposing.{raw-moveable, raw-is}
use Rattle.matching.proofs.turning.to_raw.Goals as goal

pub copy_tables-requires : goal.copy_tables-requires
copy_tables-requires c = raw-moveable c.requires.0 c.places_of.ensures c.requires.1 c.requires.2

pub returns : goal.returns
returns c = raw-is c.requires.0 c.places_of.ensures c.copy_tables.ensures
