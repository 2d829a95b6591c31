-- `rows::adding::join_columns` meets its contract.
use native.Mathlib.Omega.{arith}
use Rattle.instance.specs.Decoded.{rows_of}
use Rattle.rows.proofs.Joining.{joining-done}
use Rattle.rows.proofs.adding.join_columns.Goals as goal

pub returns : goal.returns
returns c =
    let a = c.args in
    let v = c.loop-k.invariant in
    record {
      each = λ k h. joining-done (rows_of a.home.now a.counts.now) (rows_of a.home.now a.rows.now) a.list.now a.out.now v k (omega (arith, h, c.loop-k-test.false));
      long = v.long;
    }
