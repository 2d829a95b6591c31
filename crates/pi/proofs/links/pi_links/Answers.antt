-- `pi::links::pi_links` meets its contract.
use mathlib.Core.Path.{ap, ◌∙◌}
use native.Mathlib.Omega.{arith}
use Rattle.instance.proofs.Storing.{columns-more}
use Rattle.pi.specs.Links.{table_rows}
use Rattle.pi.proofs.Rows.{link-stored}
use Rattle.pi.proofs.links.pi_links.Goals as goal

pub loop-e-preserved : goal.loop-e-preserved
loop-e-preserved c =
    let z = c.args in
    let k = z.tables.k.now in
    let p = c.requires.0 in
    columns-more (λ j m. (p.source_within j (omega arith)).few) c.loop-e.invariant
    (link-stored z.g z.paths k z.tables.counts.now z.tables.rows.now c.loop-e.e (c.at-here.ensures ∙ ap (table_rows z.tables.counts.now k.count) c.from.ensures) (c.at-there.ensures ∙ ap (table_rows z.tables.counts.now k.count) c.from-in-loop-e.ensures) c.places_after-places.ensures c.link_column.ensures)
