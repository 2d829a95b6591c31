-- `instance::follow::follow` meets its contract.
use Prim.Native.Nat.{◌+◌, ◌*◌, ◌<◌}
use mathlib.Core.Path.{◌≡◌, sym}
use native.Mathlib.Omega.{arith}
use lib.ListN.{length, get_or, length-take}
use Rattle.std.proofs.Common.{get_or-take}
use borrow.Author.Rules.{rules}
use Rattle.instance.proofs.Walking.{walked-in, walked_more, walked-done}
use Rattle.instance.proofs.follow.follow.Goals.{After-from}
use Rattle.instance.proofs.follow.follow.Goals as goal

turn : (c : After-from) → c.loop-edge.edge-index < c.args.n
turn c = omega (arith, length-take c.args.n c.args.edges.now)

edge-is : (c : After-from) → c.from.result ≡ get_or c.args.edges.now c.loop-edge.edge-index 0
edge-is c = let h = turn c in rw get_or-take at c.from.ensures

inside : (c : After-from) → 512 * c.from.result + c.loop-edge.x < length c.args.links.now
inside c = rw (edge-is c) (walked-in c.loop-edge.invariant (turn c))

pub overflow_add-x : goal.overflow_add-x
overflow_add-x c = let h = inside c in search rules

pub offset_bounds-links-from : goal.offset_bounds-links-from
offset_bounds-links-from c = let h = inside c in search rules

pub bounds-links-from : goal.bounds-links-from
bounds-links-from c = inside (goal.at.bounds-links-from c).After-from

pub loop-edge-preserved : goal.loop-edge-preserved
loop-edge-preserved c = let d = (goal.at.loop-edge-preserved c).After-from in rw (edge-is d) (walked_more c.loop-edge.invariant (turn d))

pub returns : goal.returns
returns c = let h = length-take c.args.n c.args.edges.now in sym (walked-done c.loop-edge.invariant (omega (arith, c.loop-edge-test.false)))
