-- `encoding::write_columns` meets its contract.
use Prim.Native.Nat.{◌+◌, ◌*◌, ◌≤◌}
use mathlib.Core.Path.{◌≡◌, refl, sym, ap, ◌∙◌}
use native.Mathlib.Omega.{arith}
use native.Mathlib.Nat.{mul-zero, mul-add}
use lib.ListN.{length}
use Rattle.bits.specs.Put.{put_all}
use Rattle.bits.proofs.Writing.{length-put_all}
use Rattle.meaning.specs.Formats.{fields_of}
use Rattle.instance.specs.Decoded.{rows_of, column_of}
use Rattle.instance.proofs.Columns.{width_few, column-ends, sum_of-more}
use Rattle.encoding.proofs.Writing.{put-none, put_all-more}
use Rattle.encoding.proofs.write_columns.Goals as goal

pub loop-k-init : goal.loop-k-init
loop-k-init c = record { near = omega arith; next = rw mul-zero (omega arith); long = refl; so_far = put-none _ _ }

pub write_column-requires : goal.write_column-requires
write_column-requires c =
    let a = c.args in
    let P = c.requires in
    let l = c.loop-k in
    let t = c.loop-k-test.true in
    let e = c.rows_of-rows.ensures in
    let q = P.columns.rows l.k t in
    let w = width_few a.width c.rows_of-rows.result P.narrow (omega arith) in
    let d : l.p + a.width * c.rows_of-rows.result ≤ 8 * length l.tray =
    rw e (let x = column-ends a.width a.n (rows_of a.home.now a.counts.now) l.k t in omega (arith, P.within, l.invariant.next, l.invariant.long))
    in
    (record { narrow = P.narrow; counted = omega (arith, P.counted, l.invariant.near); within = d }, omega (arith, P.long))

pub loop-k-preserved : goal.loop-k-preserved
loop-k-preserved c =
    let a = c.args in
    let P = c.requires in
    let l = c.loop-k in
    let v = l.invariant in
    let e = c.rows_of-rows.ensures in
    let w = c.write_column in
    let rows = rows_of a.home.now a.counts.now in
    let f = width_few a.width c.rows_of-rows.result P.narrow (omega (arith, P.columns.rows l.k c.loop-k-test.true)) in
    let d : w.new.tray ≡ put_all l.tray l.p (fields_of a.width (column_of a.l.now (512 * l.k) (rows l.k))) = rw e at w.ensures in
    record {
      near = omega (arith, v.near);
      next = rw (sum_of-more l.k rows, mul-add, e) (omega (arith, v.next));
      long = ap length d ∙ length-put_all l.tray l.p _ ∙ v.long;
      so_far = d ∙ rw (v.so_far, v.next) (sym (put_all-more a.width rows a.l.now a.tray.now a.at l.k));
    }
