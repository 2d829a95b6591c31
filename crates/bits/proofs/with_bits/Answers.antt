-- `bits::with_bits` meets its contract: each part, and the whole, is below 256.
use native.Mathlib.Omega.{arith}
use borrow.Author.Rules.{rules}
use Rattle.bits.specs.Put.{with_bits}
use Rattle.bits.proofs.Replacing.{Parts, parts}
use Rattle.bits.proofs.with_bits.Goals.{After-bound}
use Rattle.bits.proofs.with_bits.Goals as goal

facts : (c : After-bound)
    → Parts c.from-n.result c.bound-top.result c.bound-low.result c.bound.result c.args.v
facts c =
    let g = c.args in
    parts _ g.w g.k g.v _ _ _ c.bound-top.ensures c.bound-low.ensures c.bound.ensures (omega arith)
    (rw c.from-n.ensures (search rules))

pub nonzero_rem-part : goal.nonzero_rem-part
nonzero_rem-part c = omega (arith, facts c)

pub nonzero_div-result : goal.nonzero_div-result
nonzero_div-result c = omega (arith, facts c)

pub overflow_mul-result : goal.overflow_mul-result
overflow_mul-result c = omega (arith, facts c)

pub overflow_mul-result-2 : goal.overflow_mul-result-2
overflow_mul-result-2 c = omega (arith, facts c)

pub overflow_add-result : goal.overflow_add-result
overflow_add-result c = omega (arith, facts c)

pub nonzero_rem-result : goal.nonzero_rem-result
nonzero_rem-result c = omega (arith, facts c)

pub overflow_add-result-2 : goal.overflow_add-result-2
overflow_add-result-2 c = omega (arith, facts c)

pub overflow_cast-result : goal.overflow_cast-result
overflow_cast-result c = omega (arith, facts c)

pub returns : goal.returns
unfolding with_bits
returns c = rw (c.bound-top.ensures, c.bound-low.ensures, c.bound.ensures, c.from-n.ensures)
