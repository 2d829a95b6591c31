-- `chain::levels::find_distances` meets its contract. The invariant: each path up to level k has its distance, and no other is of a level.
use Prim.Native.Nat.{◌<◌}
use native.Mathlib.Omega.{arith}
use native.Mathlib.Numerals.{add-one}
use Rattle.schema.specs.Decoded.{schema_of}
use Rattle.chain.proofs.LevelDistances.{labelled-start, labelled-level, labelled-low, labelled-reaches}
use Rattle.chain.proofs.levels.find_distances.Goals.{In-loop-d}
use Rattle.chain.proofs.levels.find_distances.Goals as goal

-- where path x is of no level, it is farther than k
low : (c : In-loop-d) → c.loop-d.k < 255
low c = labelled-low c.args.t c.args.p c.requires.0 c.requires.1.table c.args.y c.args.x c.requires.2 c.loop-d.invariant c.loop-d-test.true

pub loop-d-init : goal.loop-d-init
loop-d-init c = labelled-start (schema_of c.args.t) c.args.y c.requires.2.y_in (omega (arith, c.requires.2.y_in, c.requires.1.table.few, c.requires.1.table.counted))

pub mark_level-requires : goal.mark_level-requires
mark_level-requires c = (c.requires.0, c.requires.1, low (goal.at.mark_level-requires c).In-loop-d)

pub overflow_add-k : goal.overflow_add-k
overflow_add-k c = omega (arith, low (goal.at.overflow_add-k c).In-loop-d)

pub loop-d-smaller : goal.loop-d-smaller
loop-d-smaller c = omega (arith, low (goal.at.loop-d-smaller c).In-loop-d)

pub loop-d-preserved : goal.loop-d-preserved
loop-d-preserved c =
    let v = c.loop-d in
    rw (add-one v.k, c.mark_level.ensures) (labelled-level c.args.t c.args.p c.requires.0 c.requires.1.table c.args.y v.k (low (goal.at.loop-d-preserved c).In-loop-d) v.d.of v.invariant)

pub returns : goal.returns
returns c = labelled-reaches c.args.t c.args.p c.requires.0 c.requires.1.table c.args.y c.args.x c.requires.2 c.loop-d.invariant c.loop-d-test.false
