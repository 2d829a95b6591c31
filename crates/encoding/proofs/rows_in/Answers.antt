-- `encoding::rows_in` meets its contract.
use native.Mathlib.Omega.{arith}
use Rattle.instance.specs.Decoded.{rows_of}
use Rattle.instance.proofs.Columns.{sum_of-more}
use Rattle.encoding.proofs.rows_in.Goals as goal

pub loop-k-preserved : goal.loop-k-preserved
loop-k-preserved c =
    let a = c.args in
    let l = c.loop-k in
    let rows = rows_of a.home.now a.counts.now in
    (omega (arith, c.rows_of-sum.ensures, c.requires.0.rows l.k c.loop-k-test.true), omega (arith, l.invariant.1, c.rows_of-sum.ensures, sum_of-more l.k rows))
