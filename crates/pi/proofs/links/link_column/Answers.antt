-- `pi::links::link_column` meets its contract.
use native.Mathlib.Omega.{arith}
use lib.ListN.{take}
use Rattle.instance.proofs.Storing.{stored_more}
use Rattle.pi.proofs.Rows.{found-link, link-low}
use Rattle.pi.proofs.links.link_column.Goals as goal

pub overflow_cast-out : goal.overflow_cast-out
overflow_cast-out c = omega (arith, link-low c.args.tables.rows.now c.args.here c.args.there (take c.args.there.width c.restricted-taken.result) c.find.ensures, c.requires.1.few)

pub loop-x-preserved : goal.loop-x-preserved
loop-x-preserved c =
    let z = c.args in
    stored_more c.loop-x.invariant (omega (arith, c.requires.3, c.loop-x.invariant.long))
    (found-link z.tables.rows.now z.here z.there z.places.now c.loop-x.x c.requires.1.narrow (omega (arith, c.requires.1.narrow)) c.row.ensures c.restricted-taken.ensures c.find.ensures)
