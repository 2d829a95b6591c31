-- `chain::nearer::descend` meets its contract. The invariant: the i steps taken begin the first of the shortest chains, and lead to path at.
use Prim.Native.Nat.{suc, ◌-◌, ◌<◌}
use mathlib.Core.Path.{◌≡◌, refl}
use native.Mathlib.Omega.{arith}
use lib.ListN.{length, get_or}
use Rattle.chain.proofs.Descending.{descending-done, descending-more, no_step}
use Rattle.chain.proofs.nearer.descend.Goals.{In-loop-i}
use Rattle.chain.proofs.nearer.descend.Goals as goal

-- one step more is left than are left behind it
above : (c : In-loop-i) → get_or c.args.of.now c.loop-i.at 0 ≡ suc (c.args.n - c.loop-i.i - 1)
above c = let h = c.loop-i.invariant.away in let l = c.loop-i-test.true in omega arith

pub returns-in_default : goal.returns-in_default
returns-in_default c =
    let a = c.args in
    let h = c.requires in
    let v = c.loop-i in
    absurd (no_step a.t a.p h.0 h.1.table a.of.now a.x a.n h.2 a.steps.now v.at v.i v.steps v.invariant (a.n - v.i - 1) (above (goal.at.returns-in_default c).In-loop-i) c.in_default.ensures)

pub loop-i-preserved : goal.loop-i-preserved
loop-i-preserved c =
    let a = c.args in
    let h = c.requires in
    let v = c.loop-i in
    let room : v.i < length v.steps = omega (arith, c.loop-i-test.true, v.invariant.long, h.3) in
    descending-more a.t a.p h.0 h.1.table a.of.now a.x a.n h.2 a.steps.now v.at v.i v.steps v.invariant (a.n - v.i - 1) (above (goal.at.loop-i-preserved c).In-loop-i) c.in-Some.ensures room refl

pub returns : goal.returns
returns c = descending-done c.requires.2 c.loop-i.invariant (omega arith)
