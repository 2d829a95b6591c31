-- `encoding::write_column` meets its contract. The invariant: all fields before the index are put, the last byte's head apart.
use Prim.Native.Nat.{◌+◌}
use mathlib.Core.Path.{refl, sym, ◌∙◌}
use native.Mathlib.Omega.{arith}
use native.Mathlib.Nat.{mul-suc, mul-zero}
use native.Mathlib.Numerals.{add-one}
use lib.ListN.{get_or}
use Rattle.bits.proofs.Appending.{head_small, put_head-field}
use Rattle.encoding.proofs.Writing.{part-at, put-none, put-more}
use Rattle.encoding.proofs.write_column.Goals as goal

pub loop-x-init : goal.loop-x-init
loop-x-init c =
    let a = c.args in
    let e = c.read_head-head.ensures in
    record {
      small = rw e (head_small a.tray.now a.at);
      next = rw mul-zero (omega arith);
      long = refl;
      so_far = rw e (put_head-field a.tray.now a.at) ∙ put-none _ _;
    }

pub loop-x-preserved : goal.loop-x-preserved
loop-x-preserved c =
    let a = c.args in
    let l = c.loop-x in
    let v = l.invariant in
    let w = c.append_field-head in
    let q = c.from.ensures ∙ part-at a.l.now a.base a.n l.x-index c.loop-x-test.true in
    record {
      small = w.ensures.small;
      next = rw (add-one, mul-suc) (omega (arith, v.next));
      long = w.auto.s ∙ v.long;
      so_far = w.ensures.says ∙ rw (v.so_far, v.next, q) (sym (put-more a.width a.tray.now a.at l.x-index (λ r. get_or a.l.now (a.base + r) 0)));
    }
