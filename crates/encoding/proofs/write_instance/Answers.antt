-- `encoding::write_instance` meets its contract.
use Prim.Native.Nat.{◌*◌, ◌≤◌}
use native.Mathlib.Omega.{arith}
use lib.ListN.{length}
use borrow.Author.Rules.{rules}
use Rattle.instance.proofs.Decoding.{link-columns, value-columns}
use Rattle.encoding.specs.Written.{sheet_bits}
use Rattle.encoding.proofs.Writing.{sheet-written}
use Rattle.encoding.proofs.write_instance.Goals.{Start}
use Rattle.encoding.proofs.write_instance.Goals as goal

-- the tray has room for all bits
room : (c : Start) → sheet_bits c.args.schema c.args.instance ≤ 8 * length c.args.tray.now
room c = omega (arith, c.requires.3)

pub write_columns-middle-requires : goal.write_columns-middle-requires
write_columns-middle-requires c =
    let A = c.requires.0 in
    let L = c.requires.1 in
    let e = A.limits.edges in
    let n = A.limits.nodes in
    let a = c.clear.auto.s in
    let b = c.write_column.auto.tray in
    record {
      narrow = omega arith;
      counted = omega arith;
      columns = link-columns c.args.schema A c.args.instance.counts L.rows L.long (search rules);
      long = omega (arith, c.requires.2.for_links);
      within = omega (arith, room (goal.at.write_columns-middle-requires c).Start);
    }

pub write_columns-requires : goal.write_columns-requires
write_columns-requires c =
    let A = c.requires.0 in
    let L = c.requires.1 in
    let e = A.limits.edges in
    let n = A.limits.nodes in
    let m = A.limits.attributes in
    let a = c.clear.auto.s in
    let b = c.write_column.auto.tray in
    let d = c.write_columns-middle.auto.tray in
    record {
      narrow = omega arith;
      counted = omega (arith, c.write_columns-middle.ensures.near);
      columns = value-columns c.args.schema A c.args.instance.counts L.rows L.long (search rules);
      long = omega (arith, c.requires.2.for_values);
      within = omega (arith, room (goal.at.write_columns-requires c).Start, c.write_columns-middle.ensures.next_is);
    }

pub returns : goal.returns
returns c =
    sheet-written c.args.schema c.args.instance c.args.links.now c.args.values.now c.args.tray.now
    c.sheet_length-n.ensures c.clear.ensures c.write_column.ensures c.write_columns-middle.ensures.says c.write_columns-middle.ensures.next_is c.write_columns.ensures.says
