-- `mapping::edges::first_edges` meets its contract: the path's number is found in the table, and the number of its class is that of the first path.
use native.Mathlib.Omega.{arith}
use Rattle.paths.proofs.EquationPairs.{path-numbered}
use Rattle.mapping.proofs.FirstEdges.{first_short, first-told}
use Rattle.mapping.proofs.edges.first_edges.Goals as goal

pub path_number-x-requires : goal.path_number-x-requires
path_number-x-requires c =
    (omega (arith, c.requires.1.short), (path-numbered c.args.t c.path_table-p.result c.requires.0 c.path_table-p.ensures.table c.requires.1).within)

pub bounds-p-x : goal.bounds-p-x
bounds-p-x c =
    let T = c.path_table-p.ensures.table in
    omega (arith, c.path_number-x.ensures, (path-numbered c.args.t c.path_table-p.result c.requires.0 T c.requires.1).below, T.counted, T.few)

pub path_edges-requires : goal.path_edges-requires
path_edges-requires c =
    let p = c.path_table-p in
    (omega (arith, c.from-first.ensures), first_short c.args.t p.result c.requires.0 p.ensures c.requires.1 c.path_number-x.ensures c.from-first.ensures)

pub returns : goal.returns
returns c =
    let p = c.path_table-p in
    let e = c.path_edges.ensures in
    record { says = first-told c.args.t p.result c.requires.0 p.ensures c.requires.1 c.path_number-x.ensures c.from-first.ensures e.says; short = e.short }
