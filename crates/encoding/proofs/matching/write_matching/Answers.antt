-- `encoding::matching::write_matching` meets its contract.
use Rattle.encoding.proofs.Writing.{matching-written}
use Rattle.encoding.proofs.matching.write_matching.Goals as goal

pub returns : goal.returns
returns c = let a = c.args in matching-written a.l.now a.n a.tray.now c.matching_length-bytes.ensures c.clear.ensures c.write_column.ensures
