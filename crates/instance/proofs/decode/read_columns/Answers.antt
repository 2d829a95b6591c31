-- `instance::decode::read_columns` meets its contract.
use Prim.Native.Nat.{ℕ, ◌+◌, ◌*◌, ◌≤◌, ◌<◌}
use mathlib.Core.Path.{◌≡◌, sym, ap, ◌∙◌}
use native.Mathlib.Omega.{arith}
use lib.ListN.{length}
use borrow.Author.Tests.{ltb-true, ltb-false}
use Rattle.meaning.specs.Sheet.{reads}
use Rattle.meaning.proofs.Reading.{turned-step, turned-cut, turned-done, fixed-times, fixed-field}
use Rattle.instance.specs.Decoded.{rows_of, columns_of}
use Rattle.instance.proofs.Columns.{width_few, columns-more}
use Rattle.instance.proofs.decode.read_columns.Goals as goal

pub returns-then-lacks_at : goal.returns-then-lacks_at
returns-then-lacks_at c =
    let a = c.args in
    let l = c.loop-k in
    let h : 8 * length a.s.now < l.p + a.width * c.rows_of-rows.result = ltb-true _ _ (sym c.lacks_at.ensures ∙ c.if-lacks_at.true) in
    let g = rw c.rows_of-rows.ensures at h in
    record {
      says = sym (turned-cut l.invariant.so_far c.loop-k-test.true ((fixed-times (rows_of a.home.now a.counts.now l.k) (fixed-field a.width)).cut a.s.now l.p l.invariant.inside g));
      inside = tt;
      near = tt;
    }

pub loop-k-preserved : goal.loop-k-preserved
loop-k-preserved c =
    let a = c.args in
    let C = c.requires.2 in
    let l = c.loop-k in
    let v = l.invariant in
    let t = c.loop-k-test.true in
    let e = c.rows_of-rows.ensures in
    let b = c.read_column in
    let w = width_few a.width c.rows_of-rows.result c.requires.0 (omega (arith, C.rows l.k t, e)) in
    let h : l.p + a.width * c.rows_of-rows.result ≤ 8 * length a.s.now = ltb-false _ _ (sym c.lacks_at.ensures ∙ c.if-lacks_at.false) in
    let stored = rw e at b.ensures in
    record {
      inside = h;
      near = omega (arith, v.near);
      so_far = rw (columns-more (rows_of a.home.now a.counts.now) l.k (λ j m. C.rows j (omega arith)) stored, e)
          (turned-step v.so_far t ((fixed-times (rows_of a.home.now a.counts.now l.k) (fixed-field a.width)).here a.s.now l.p (rw e at h)));
      long = b.ensures.long ∙ v.long;
    }

pub returns : goal.returns
returns c =
    let a = c.args in
    let l = c.loop-k in
    let e : l.k ≡ a.n = omega arith in
    record {
      says = sym (turned-done l.invariant.so_far c.loop-k-test.false ∙ ap (λ (k : ℕ). reads (columns_of k (rows_of a.home.now a.counts.now) l.out) l.p) e);
      inside = l.invariant.inside;
      near = omega (arith, l.invariant.near);
    }
