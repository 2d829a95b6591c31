-- `schema::count::next_row` meets its contract. The invariant: the first e edges have handed their targets' numbers on.
use Prim.Native.Nat.{◌<◌}
use mathlib.Core.Path.{◌≡◌, ◌∙◌}
use native.Mathlib.Omega.{arith}
use lib.ListN.{get_or}
use Rattle.schema.proofs.Tallies.{handed-start, handed-more}
use Rattle.schema.proofs.count.next_row.Goals.{After-from, After-from-in-loop-e}
use Rattle.schema.proofs.count.next_row.Goals as goal

source-below : (c : After-from) → c.from.result < c.args.g.nodes
source-below c = let e : c.from.result ≡ get_or c.args.g.source c.loop-e.e 0 = c.from.ensures in let h = c.requires.0.0.sources c.loop-e.e c.loop-e-test.true in omega arith

target_below : (c : After-from-in-loop-e) → c.from-in-loop-e.result < c.args.g.nodes
target_below c = let e : c.from-in-loop-e.result ≡ get_or c.args.g.target c.loop-e.e 0 = c.from-in-loop-e.ensures in let h = c.requires.0.0.targets c.loop-e.e c.loop-e-test.true in omega arith

source_low : (c : After-from) → c.from.result < 16
source_low c = omega (arith, source-below c, c.requires.0.0.nodes)

target_low : (c : After-from-in-loop-e) → c.from-in-loop-e.result < 16
target_low c = omega (arith, target_below c, c.requires.0.0.nodes)

pub loop-e-init : goal.loop-e-init
loop-e-init c = handed-start _ c.told-tally c.requires.1.1

pub overflow_add-node : goal.overflow_add-node
overflow_add-node c = omega (arith, c.requires.1.0)

pub overflow_add-node-in-loop-e : goal.overflow_add-node-in-loop-e
overflow_add-node-in-loop-e c = omega (arith, source_low c, c.requires.1.0)

pub overflow_add-behind : goal.overflow_add-behind
overflow_add-behind c = omega (arith, target_low c, c.requires.1.0)

pub offset_bounds-tally-node : goal.offset_bounds-tally-node
offset_bounds-tally-node c = omega (arith, source_low (goal.at.offset_bounds-tally-node c).After-from, c.requires.1.0)

pub bounds-tally-node : goal.bounds-tally-node
bounds-tally-node c = omega (arith, source_low (goal.at.bounds-tally-node c).After-from, c.loop-e.invariant.long, c.requires.1.0)

pub offset_bounds-tally-behind : goal.offset_bounds-tally-behind
offset_bounds-tally-behind c = omega (arith, target_low (goal.at.offset_bounds-tally-behind c).After-from-in-loop-e, c.requires.1.0)

pub bounds-tally-behind : goal.bounds-tally-behind
bounds-tally-behind c = omega (arith, target_low (goal.at.bounds-tally-behind c).After-from-in-loop-e, c.loop-e.invariant.long, c.requires.1.0)

pub overflow_add-tally : goal.overflow_add-tally
overflow_add-tally c =
    let v = c.loop-e in
    let p = c.requires in
    let x = v.invariant.each c.from.result (source-below (goal.at.overflow_add-tally c).After-from) in
    let y = v.invariant.behind c.from-in-loop-e.result (target_low (goal.at.overflow_add-tally c).After-from-in-loop-e) in
    let z = p.0.1.each c.from-in-loop-e.result (target_below (goal.at.overflow_add-tally c).After-from-in-loop-e) in
    omega arith

pub offset_bounds-tally-node-in-loop-e : goal.offset_bounds-tally-node-in-loop-e
offset_bounds-tally-node-in-loop-e c = omega (arith, source_low (goal.at.offset_bounds-tally-node-in-loop-e c).After-from, c.requires.1.0)

pub bounds-tally-node-in-loop-e : goal.bounds-tally-node-in-loop-e
bounds-tally-node-in-loop-e c = omega (arith, source_low (goal.at.bounds-tally-node-in-loop-e c).After-from, c.loop-e.invariant.long, c.requires.1.0)

pub loop-e-preserved : goal.loop-e-preserved
loop-e-preserved c =
    let v = c.loop-e in
    let e : c.from.result ≡ get_or c.args.g.source v.e 0 = c.from.ensures in
    let b : c.from-in-loop-e.result ≡ get_or c.args.g.target v.e 0 = c.from-in-loop-e.ensures in
    rw e (handed-more c.requires.0.0 c.requires.1.0 v.invariant c.loop-e-test.true (c.capped.ensures ∙ rw (e, b)))

pub returns : goal.returns
returns c =
    let v = c.loop-e in
    let e : v.e ≡ c.args.g.edges = omega arith in
    record { each = rw e at v.invariant.each; blank = v.invariant.blank }
