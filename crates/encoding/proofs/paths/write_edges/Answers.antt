-- `encoding::paths::write_edges` meets its contract.
use Rattle.encoding.proofs.Writing.{edges-written}
use Rattle.encoding.proofs.paths.write_edges.Goals as goal

pub returns : goal.returns
returns c =
    let a = c.args in
    edges-written a.n a.edges.now a.tray.now a.at c.write_column.ensures c.write_small.ensures
