-- `chain::nearer::nearer_step` meets its contract.
use Prim.Native.Nat.{◌+◌, ◌*◌, ◌<◌}
use mathlib.Core.Path.{◌≡◌}
use native.Mathlib.Omega.{arith}
use Rattle.chain.proofs.StepPlaces.{length-low}
use Rattle.chain.proofs.LeastSteps.{none_more, equation-count, none_done, Ready, places-in, none-along, found-along}
use Rattle.chain.proofs.nearer.nearer_step.Goals.{In-loop-q}
use Rattle.chain.proofs.nearer.nearer_step.Goals as goal

-- q, the number of the equation that is tried, is one
within : (c : In-loop-q) → c.loop-q.q < c.args.t.equations
within c = omega arith

-- path x, with its fronts, as the lemmas on places take it
ready : (c : In-loop-q) → Ready c.args.t c.args.p c.args.x c.prefixes-prefix.result c.from-n.result
ready c = let h = c.requires in record { sound = h.0; table = h.1.table; x_in = h.2; fronts = c.prefixes-prefix.ensures; size = c.from-n.ensures }

pub prefixes-prefix-requires : goal.prefixes-prefix-requires
prefixes-prefix-requires c = let h = c.requires in let a = c.args in (omega (arith, h.1.table.few), length-low a.t a.p h.0 h.1.table a.x h.2)

pub nearer_place-requires : goal.nearer_place-requires
nearer_place-requires c = let o = (goal.at.nearer_place-requires c).In-loop-q in places-in (ready o) c.loop-q.q 0 (within o) (omega arith)

pub nearer_place-requires-in-loop-q : goal.nearer_place-requires-in-loop-q
nearer_place-requires-in-loop-q c = let o = (goal.at.nearer_place-requires-in-loop-q c).In-loop-q in places-in (ready o) c.loop-q.q 1 (within o) (omega arith)

pub returns-in-Some : goal.returns-in-Some
returns-in-Some c = let o = (goal.at.returns-in-Some c).In-loop-q in found-along (ready o) c.loop-q.q 0 (within o) (omega arith) c.in-Some.ensures c.loop-q.invariant (λ e h. absurd (omega arith)) (32 * c.loop-q.q + c.in-Some.there.step) (omega arith)

pub returns-in-Some-nearer_place : goal.returns-in-Some-nearer_place
returns-in-Some-nearer_place c =
    let o = (goal.at.returns-in-Some-nearer_place c).In-loop-q in
    found-along (ready o) c.loop-q.q 1 (within o) (omega arith) c.in-Some-nearer_place.ensures c.loop-q.invariant
    (λ e h. let z : e ≡ 0 = omega arith in rw z (none-along (ready o) c.loop-q.q 0 (within o) (omega arith) c.in_default.ensures)) (32 * c.loop-q.q + 16 + c.in-Some-nearer_place.back.step) (omega arith)

pub loop-q-preserved : goal.loop-q-preserved
loop-q-preserved c =
    let o = (goal.at.loop-q-preserved c).In-loop-q in
    none_more c.loop-q.invariant (none-along (ready o) c.loop-q.q 0 (within o) (omega arith) c.in_default.ensures) (none-along (ready o) c.loop-q.q 1 (within o) (omega arith) c.in_default-nearer_place.ensures)

pub returns : goal.returns
returns c = none_done c.loop-q.invariant (omega (arith, equation-count c.args.t))
