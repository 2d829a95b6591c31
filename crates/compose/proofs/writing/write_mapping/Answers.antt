-- `compose::writing::write_mapping` meets its contract.
use native.Mathlib.Omega.{arith}
use lib.ListN.{length}
use Prim.Native.Nat.{◌≤◌}
use Rattle.compose.proofs.SheetFields.{bits-few, lent-length, lent-bits, lent-images, lent-short, sheet-written}
use Rattle.compose.proofs.writing.write_mapping.Goals.{Start}
use Rattle.compose.proofs.writing.write_mapping.Goals as goal

room : (c : Start) → c.args.s.graph.edges ≤ length c.args.f.edge
room c = omega (arith, c.requires.0.limits.edges)

pub write_images-next-requires : goal.write_images-next-requires
write_images-next-requires c =
    let a = c.args in
    let P = c.requires in
    let h = room (goal.at.write_images-next-requires c).Start in
    record {
      short = lent-short a.f.edge a.s.graph.edges h P.1;
      few = omega (arith, lent-length a.f.edge a.s.graph.edges h, P.0.limits.edges);
      counted = omega (arith, P.0.limits.nodes);
      within = omega (arith, lent-bits a.f.edge a.s.graph.edges h, P.2);
    }

pub write_small-requires-2 : goal.write_small-requires-2
write_small-requires-2 c =
    let a = c.args in
    let P = c.requires in
    let w = c.write_images-next.ensures in
    let few = bits-few a.f.edge a.s.graph.edges P.1 in
    let e = lent-bits a.f.edge a.s.graph.edges (room (goal.at.write_small-requires-2 c).Start) in
    (record { narrow = omega arith; counted = omega (arith, w.next_is, e, P.0.limits.nodes, P.0.limits.edges, P.0.limits.attributes); within = omega (arith, w.next_is, e, P.2) }, P.0.limits.attributes)

pub returns : goal.returns
returns c =
    let a = c.args in
    let h = room (goal.at.returns c).Start in
    let w = c.write_images-next.ensures in
    sheet-written a.s a.f a.tray.now c.mapping_length-bytes.ensures c.clear.ensures c.write_small.ensures
    (rw (lent-images a.f.edge a.s.graph.edges h) at w.says) (rw (lent-bits a.f.edge a.s.graph.edges h) at w.next_is) c.write_small-2.ensures
