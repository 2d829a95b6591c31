-- `encoding::paths::write_path` meets its contract.
use Rattle.encoding.proofs.Writing.{path-written}
use Rattle.encoding.proofs.paths.write_path.Goals as goal

pub returns : goal.returns
returns c =
    let a = c.args in
    path-written a.n a.edges.now a.start a.tray.now c.path_length-bytes.ensures c.clear.ensures (rw c.from.ensures at c.write_column.ensures) c.write_edges.ensures
