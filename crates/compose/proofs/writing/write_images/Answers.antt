-- `compose::writing::write_images` meets its contract.
use mathlib.Core.Path.{refl, sym, ap, ◌∙◌}
use native.Mathlib.Omega.{arith}
use lib.ListN.{length}
use Rattle.bits.proofs.Writing.{length-put_all}
use Rattle.encoding.proofs.Writing.{put-none}
use Rattle.compose.proofs.SheetFields.{bits-more, bits-front, put-image}
use Rattle.compose.proofs.writing.write_images.Goals as goal

pub loop-image-init : goal.loop-image-init
loop-image-init c = record { near = omega arith; next = omega arith; long = refl; so_far = put-none _ _ }

pub write_edges-requires : goal.write_edges-requires
write_edges-requires c =
    let P = c.requires in
    let l = c.loop-image in
    let s = P.short.each l.image-index c.loop-image-test.true in
    let d = bits-front c.args.images.now (length c.args.images.now) l.image-index c.loop-image-test.true in
    record {
      few = omega (arith, s, c.from-n.ensures);
      counted = omega (arith, l.invariant.near, P.counted, P.few, c.loop-image-test.true);
      within = omega (arith, d, P.within, l.invariant.next, l.invariant.long, c.from-n.ensures);
    }

pub loop-image-preserved : goal.loop-image-preserved
loop-image-preserved c =
    let a = c.args in
    let l = c.loop-image in
    let v = l.invariant in
    let s = c.requires.short.each l.image-index c.loop-image-test.true in
    let w = c.write_edges in
    record {
      near = omega (arith, v.near, s, c.from-n.ensures);
      next = omega (arith, v.next, bits-more a.images.now l.image-index, c.from-n.ensures);
      long = ap length w.ensures ∙ length-put_all l.tray l.p _ ∙ v.long;
      so_far = w.ensures ∙ rw (v.so_far, v.next, c.from-n.ensures) (sym (put-image a.images.now a.tray.now a.at l.image-index));
    }
