-- `matching::turning::places_of` meets its contract.
use borrow.Author.Rules.{rules}
use Rattle.matching.proofs.Transposing.{placeable, placement}
use Rattle.matching.proofs.turning.places_of.Goals as goal

pub place_tables-joined-requires : goal.place_tables-joined-requires
place_tables-joined-requires c = placeable c.requires c.table_list-own.result c.table_list-tables.result c.table_list-own.ensures c.table_list-tables.ensures (search rules)

pub returns : goal.returns
returns c = placement c.requires c.table_list-own.result c.table_list-tables.result c.table_list-own.ensures c.table_list-tables.ensures c.place_tables-joined.ensures
