-- `schema::well_formed::follow` meets its contract. The invariant: the edges so far are followed, and lead to node.
use Prim.Native.Nat.{ℕ, ◌<◌}
use mathlib.Core.Path.{◌≡◌, sym, ◌∙◌}
use native.Mathlib.Omega.{arith}
use borrow.Author.Tests.{lt-ltb}
use lib.ListN.{get_or}
use Rattle.std.proofs.Common.{length-take, get_or-take}
use Rattle.schema.proofs.Following.{gone-start, gone-missing, gone-apart, gone-step, gone-done}
use Rattle.schema.proofs.well_formed.follow.Goals.{After-from-e}
use Rattle.schema.proofs.well_formed.follow.Goals as goal

-- the next edge is one of the path's
below : (c : After-from-e) → c.loop-edge.edge-index < c.args.p.length
below c = omega (arith, c.from-2.ensures, c.loop-edge-test.true, length-take {A = ℕ})

edge-is : (c : After-from-e) → c.from-e.result ≡ get_or c.args.p.edges c.loop-edge.edge-index 0
edge-is c =
    let l : c.loop-edge.edge-index < c.from-2.result = omega (arith, below c) in
    c.from-e.ensures ∙ rw get_or-take

pub loop-edge-init : goal.loop-edge-init
loop-edge-init c = gone-start _ _

pub returns-then-e-g : goal.returns-then-e-g
returns-then-e-g c =
    let p = (goal.at.returns-then-e-g c).After-from-e in
    rw (lt-ltb _ _ (rw c.from.ensures at c.if-from-g.false), gone-missing _ _ c.loop-edge.invariant (below p) (rw (edge-is p) at c.if-e-g.true))

pub returns-then-g-e : goal.returns-then-g-e
returns-then-g-e c =
    let p = (goal.at.returns-then-g-e c).After-from-e in
    rw (lt-ltb _ _ (rw c.from.ensures at c.if-from-g.false), gone-apart _ _ c.loop-edge.invariant (below p) (rw (edge-is p) at c.if-e-g.false) (rw (edge-is p) at c.if-g-e.true))

pub loop-edge-preserved : goal.loop-edge-preserved
loop-edge-preserved c =
    let p = (goal.at.loop-edge-preserved c).After-from-e in
    rw (edge-is p) (gone-step _ _ c.loop-edge.invariant (below p) (rw (edge-is p) at c.if-e-g.false) (rw (edge-is p) at c.if-g-e.false))

pub returns : goal.returns
returns c =
    let d = gone-done _ _ c.loop-edge.invariant (omega (arith, c.from-2.ensures, c.loop-edge-test.false, length-take {A = ℕ})) in
    (rw (lt-ltb _ _ (rw c.from.ensures at c.if-from-g.false), d.0), sym d.1)
