-- `sigma::columns::join` meets its contract.
use mathlib.Core.Path.{◌≡◌}
use native.Mathlib.Omega.{arith}
use Rattle.sigma.proofs.Joining.{before_more, before-skip, joined-room, joined-turn, joined-skip}
use Rattle.sigma.proofs.columns.join.Goals.{then-node-c, else-node-c}
use Rattle.sigma.proofs.columns.join.Goals as goal

pub fill-requires : goal.fill-requires
fill-requires g c =
    let a = c.args in
    let w = joined-room a.node.now a.counts.now a.d c.loop-c.c a.n c.requires.room.2 c.loop-c-test.true c.if-node-c.true in
    c.requires.callable c.loop-c.c c.loop-c-test.true c.if-node-c.true c.loop-c.place _ (omega (arith, w, c.requires.room.3, c.loop-c.invariant.0))

pub overflow_add-place : goal.overflow_add-place
overflow_add-place g c =
    let a = c.args in
    omega (arith, joined-room a.node.now a.counts.now a.d c.loop-c.c a.n c.requires.room.2 c.loop-c-test.true c.if-node-c.true, c.requires.room.3, c.loop-c.invariant.0)

pub loop-c-preserved : goal.loop-c-preserved
loop-c-preserved g c =
    let a = c.args in
    let v = c.loop-c.invariant in
    elim c.if-node-c.branch [
      | then-node-c w ↦
          rw (w.out-is, w.place-is)
          (omega (arith, v.0, before_more a.node.now a.counts.now a.d c.loop-c.c w.if-node-c.true), λ h k. joined-turn (v.1 h k) v.0 w.if-node-c.true (k c.loop-c.c c.loop-c-test.true w.if-node-c.true c.loop-c.place _ _ w.fill.ensures))
      | else-node-c w ↦ rw (w.out-is, w.place-is) (omega (arith, v.0, before-skip a.node.now a.counts.now a.d c.loop-c.c w.if-node-c.false), λ h k. joined-skip (v.1 h k) w.if-node-c.false)
    ]

pub returns : goal.returns
returns g c = λ h k. let e : c.loop-c.c ≡ c.args.n = omega arith in rw e at (c.loop-c.invariant.1 h k)
