-- `lifts::edge_lifts` meets its contract. The invariants: of the edges before e, and of edge e the nodes before c, the lifts are written.
use Prim.Native.Nat.{◌+◌, ◌*◌, ◌<◌}
use mathlib.Core.Path.{◌∙◌}
use native.Mathlib.Omega.{arith}
use lib.ListN.{length, length-set}
use Rattle.lifts.specs.Lifts.{IsLift}
use Rattle.lifts.proofs.LiftPaths.{EdgePath, edge_path, lift-number}
use Rattle.lifts.proofs.EdgeLifts.{lifts-write, lifts-pass}
use Rattle.lifts.proofs.edge_lifts.Goals.{After-first_over, Then-g-e, then-g-e, else-g-e}
use Rattle.lifts.proofs.edge_lifts.Goals as goal

edge : (c : Then-g-e) → EdgePath c.requires.0 c.requires.1 c.image_classes-over.ensures c.loop-c.c (omega arith) c.loop-e.e (omega arith) c.if-g-e.true
edge c = edge_path c.requires.0 c.requires.1 c.image_classes-over.ensures c.loop-c.c (omega arith) c.loop-e.e (omega arith) c.if-g-e.true

lifted : (c : After-first_over) → IsLift c.args.s c.args.t c.args.source_paths c.args.f c.loop-c.c c.loop-e.e c.first_over.result
lifted c = rw (c.first_over.ensures, c.edge_class-b.ensures, c.from.ensures) (lift-number c.requires.0 c.requires.1 c.image_classes-over.ensures c.loop-c.c (omega arith) c.loop-e.e (omega arith) c.if-g-e.true)

pub edge_class-b-requires : goal.edge_class-b-requires
edge_class-b-requires c = let f = edge (goal.at.edge_class-b-requires c).Then-g-e in rw c.from.ensures (f.node_low, f.edge_low, f.number_low)

pub overflow_cast-lifts : goal.overflow_cast-lifts
overflow_cast-lifts c = let b = (lifted c).below in let f = c.requires.0.source-paths.table.few in omega arith

pub loop-c-preserved : goal.loop-c-preserved
loop-c-preserved c =
    let a = c.args in
    let v = c.loop-c in
    let e = c.loop-e.e in
    let low : v.c < 16 = let n = c.requires.0.source.limits.nodes in let t = c.loop-c-test.true in omega arith in
    let room : 16 * e + v.c < length v.lifts = let n = c.requires.0.target.limits.edges in let t = c.loop-e-test.true in omega (arith, v.invariant.1) in
    elim c.if-g-e.branch [
      | then-g-e w ↦ rw w.lifts-is (
        lifts-write a.s a.t a.source_paths a.f e v.c v.lifts low v.invariant.0 room
            (rw (w.first_over.ensures, w.edge_class-b.ensures, w.from.ensures) (lift-number c.requires.0 c.requires.1 c.image_classes-over.ensures v.c c.loop-c-test.true e c.loop-e-test.true w.if-g-e.true)),
        length-set v.lifts _ _ ∙ v.invariant.1,
      )
      | else-g-e w ↦ rw w.lifts-is (lifts-pass a.s a.t a.source_paths a.f e v.c v.lifts low v.invariant.0 w.if-g-e.false, v.invariant.1)
    ]
