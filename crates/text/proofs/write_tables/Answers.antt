-- `text::write_tables` meets its contract: the first line, and the lines of all tables.
use mathlib.Core.Path.{sym}
use borrow.Author.Rules.{rules}
use Rattle.text.proofs.ArrayTexts.{Sized, edges-within, attributes-within, nodes-within, source-long, node_long, counts_long}
use Rattle.text.proofs.WholeText.{tables-few, rows_few, columns-fit, header-room, rows-room, tables-written}
use Rattle.text.proofs.write_tables.Goals.{Start}
use Rattle.text.proofs.write_tables.Goals as goal

sized : (c : Start) → Sized c.args.schema c.args.tables
sized c = record { limits = c.requires.0.limits; source = search rules; node = search rules; counts = search rules }

pub total-rows-requires : goal.total-rows-requires
total-rows-requires c = (c.requires.0.limits.nodes, nodes-within (sized (goal.at.total-rows-requires c).Start))

pub put_header-at-requires : goal.put_header-at-requires
put_header-at-requires c = rw c.total-rows.ensures (header-room _ _ _ _ (sized (goal.at.put_header-at-requires c).Start) c.requires.0 _ c.requires.1)

pub slice_bounds-counts-end : goal.slice_bounds-counts-end
slice_bounds-counts-end c = nodes-within (sized (goal.at.slice_bounds-counts-end c).Start)

pub slice_bounds-put_tables-end : goal.slice_bounds-put_tables-end
slice_bounds-put_tables-end c = sym (counts_long (sized (goal.at.slice_bounds-put_tables-end c).Start))

pub slice_bounds-source-end : goal.slice_bounds-source-end
slice_bounds-source-end c = edges-within (sized (goal.at.slice_bounds-source-end c).Start)

pub slice_bounds-put_tables-end-2 : goal.slice_bounds-put_tables-end-2
slice_bounds-put_tables-end-2 c = sym (source-long (sized (goal.at.slice_bounds-put_tables-end-2 c).Start))

pub slice_bounds-node-end : goal.slice_bounds-node-end
slice_bounds-node-end c = attributes-within (sized (goal.at.slice_bounds-node-end c).Start)

pub slice_bounds-put_tables-end-3 : goal.slice_bounds-put_tables-end-3
slice_bounds-put_tables-end-3 c = sym (node_long (sized (goal.at.slice_bounds-put_tables-end-3 c).Start))

pub put_tables-length-requires : goal.put_tables-length-requires
put_tables-length-requires c =
    let a = c.args in
    let P = c.requires.0 in
    let Z = sized (goal.at.put_tables-length-requires c).Start in (
      rows-room a.schema a.tables a.links.now a.values.now Z P a.out.now c.requires.1 (rw c.total-rows.ensures at c.put_header-at.ensures),
      columns-fit a.schema a.tables a.links.now a.values.now Z P,
      tables-few a.schema a.tables a.links.now a.values.now Z P,
      rows_few a.schema a.tables a.links.now a.values.now Z P,
    )

pub returns : goal.returns
returns c =
    let a = c.args in
    tables-written a.schema a.tables a.links.now a.values.now (sized (goal.at.returns c).Start) c.requires.0 a.out.now c.requires.1
    (rw c.total-rows.ensures at c.put_header-at.ensures) c.put_tables-length.ensures
