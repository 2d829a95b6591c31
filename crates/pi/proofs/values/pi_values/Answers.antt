-- `pi::values::pi_values` meets its contract.
use Prim.Native.Nat.{◌*◌, ◌≤◌, ◌<◌}
use mathlib.Core.Path.{ap, ◌∙◌}
use native.Mathlib.Omega.{arith}
use Rattle.instance.proofs.Storing.{columns-more}
use Rattle.pi.specs.Links.{table_rows}
use Rattle.pi.proofs.Rows.{part-list}
use Rattle.pi.proofs.ValueColumns.{value-stored}
use Rattle.pi.proofs.values.pi_values.Goals as goal

pub loop-b-preserved : goal.loop-b-preserved
loop-b-preserved c =
    let z = c.args in
    let k = z.tables.k.now in
    let p = c.requires.0 in
    let a = c.attribute_to-a.result in
    let in_s : a < z.s.attributes = rw c.attribute_to-a.ensures (p.attribute-in c.loop-b.b c.loop-b-test.true) in
    let few : c.rows_of-n.result ≤ 512 = rw c.rows_of-n.ensures (p.rows_few a in_s) in
    let long = p.values_long in
    columns-more (λ j m. (p.within j (omega arith)).few) c.loop-b.invariant
    (value-stored z.s z.t z.paths k z.f.attribute z.run.counts z.tables.counts.now z.tables.rows.now z.values.now c.loop-b.b (c.at-here.ensures ∙ ap (table_rows z.tables.counts.now k.count) c.from.ensures) c.attribute_to-a.ensures c.value_place-place.ensures c.rows_of-n.ensures (part-list z.values.now (512 * a) c.rows_of-n.result (omega arith)) c.value_column.ensures)
