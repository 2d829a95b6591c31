-- `schema::decode::column` meets its contract. The invariant: the first i fields are read.
use Prim.Native.Nat.{◌*◌, ◌≤◌}
use mathlib.Core.Path.{◌≡◌}
use native.Mathlib.Omega.{arith}
use native.Mathlib.Nat.{mul-le-mul_left}
use Rattle.schema.proofs.Decoding.{column-start, column-more}
use Rattle.schema.proofs.decode.column.Goals.{In-loop-i}
use Rattle.schema.proofs.decode.column.Goals as goal

-- a field begins before the end of the last one
before_end : (c : In-loop-i) → c.args.step * c.loop-i.i ≤ c.args.step * c.args.n
before_end c = mul-le-mul_left c.args.step (omega arith)

pub loop-i-init : goal.loop-i-init
loop-i-init c = column-start _ _ _ _ 16

pub overflow_mul-step : goal.overflow_mul-step
overflow_mul-step c = omega (arith, before_end c, c.requires.counted)

pub overflow_add-at : goal.overflow_add-at
overflow_add-at c = omega (arith, before_end c, c.requires.counted)

pub small-requires : goal.small-requires
small-requires c = (c.requires.narrow, c.requires.within c.loop-i.i c.loop-i-test.true)

pub loop-i-preserved : goal.loop-i-preserved
loop-i-preserved c = column-more c.loop-i.invariant (let f = c.requires.few in omega arith) c.small.ensures

pub returns : goal.returns
returns c = let e : c.loop-i.i ≡ c.args.n = omega arith in rw e at c.loop-i.invariant
