-- `migration::first::write_first` meets its contract.
use native.Mathlib.Omega.{arith}
use Rattle.migration.proofs.Trays.{path-told, path-small}
use Rattle.migration.proofs.first.write_first.Goals as goal

pub returns-then-path_length-tray : goal.returns-then-path_length-tray
returns-then-path_length-tray c =
    let g = c.first_edges-first in
    path-small c.args.tray.now c.args.a.start g.result.length g.result.edges g.ensures.says c.of_all.ensures (omega (arith, c.from-n.ensures, c.path_length.ensures))

pub returns : goal.returns
returns c =
    let g = c.first_edges-first in
    path-told c.args.tray.now c.args.a.start c.from-n.result g.result.edges (rw c.from-n.ensures g.ensures.says) (omega (arith, c.path_length.ensures)) c.write_path.ensures
