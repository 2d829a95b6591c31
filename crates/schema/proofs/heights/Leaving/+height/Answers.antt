-- `schema::heights::Leaving::node_height` and `edges_height`, which call each other, meet their contracts. The measure falls with each edge, and by more with each node.
use Prim.Native.Nat.{ℕ, ◌-◌}
use mathlib.Core.Path.{sym, ap, ◌∙◌}
use native.Mathlib.Omega.{arith}
use lib.ListN.{get_or}
use Rattle.meaning.specs.Schema.{height_within}
use Rattle.meaning.proofs.Heights.{height-le}
use Rattle.schema.proofs.NodeHeights.{node-within, node-to, edge_in, before-low, before-within, target_low, edge_to, edge-full, height-down}
use Rattle.schema.proofs.heights.Leaving.+height.Goals as goal

pub edges_height-returns-in_default : goal.edges_height-returns-in_default
edges_height-returns-in_default t c = λ G s within. rw c.in_default.is

pub edges_height-bounds-self-k : goal.edges_height-bounds-self-k
edges_height-bounds-self-k t c = let p = c.requires in let h = rw c.in-Some.is at p.within in omega (arith, edge_in p.lists c.from-k.ensures h, p.lists.few)

pub edges_height-edges_height-rest-requires : goal.edges_height-edges_height-rest-requires
edges_height-edges_height-rest-requires t c =
    let p = c.requires in
    let w = c.from-k.ensures in
    let h = rw c.in-Some.is at p.within in
    (let m = rw c.in-Some.is at c.decreases in omega (arith, before-low p.lists w h, w), record { graph = p.graph; lists = p.lists; deep = p.deep; within = before-within p.lists w h })

pub edges_height-overflow_add-depth : goal.edges_height-overflow_add-depth
edges_height-overflow_add-depth t c = omega (arith, c.requires.deep)

pub edges_height-returns-then-rest-depth : goal.edges_height-returns-then-rest-depth
edges_height-returns-then-rest-depth t c = λ G s within.
    let w = c.from-k.ensures in
    let h = rw c.in-Some.is at within in
    let d = c.args.depth in
    rw c.in-Some.is (c.if-rest-depth.true ∙ sym (edge-full s w h (height_within G d) d (height-le G d) (sym (c.edges_height-rest.ensures G s (before-within s w h)) ∙ c.if-rest-depth.true)))

pub edges_height-bounds-self-k-2 : goal.edges_height-bounds-self-k-2
edges_height-bounds-self-k-2 t c = let p = c.requires in let h = rw c.in-Some.is at p.within in omega (arith, edge_in p.lists c.from-k.ensures h, p.lists.few)

pub edges_height-node_height-h-requires : goal.edges_height-node_height-h-requires
edges_height-node_height-h-requires t c =
    let p = c.requires in
    let d = p.deep in
    let h = rw c.in-Some.is at p.within in
    (omega arith, record { graph = p.graph; lists = p.lists; deep = omega arith; low = target_low p.lists c.from-k.ensures h })

pub edges_height-overflow_add-h : goal.edges_height-overflow_add-h
edges_height-overflow_add-h t c =
    let p = c.requires in
    omega (arith, c.node_height-h.ensures p.graph p.lists, height-le p.graph c.args.depth (get_or c.args.self.now.target c.from-k.result 0), p.deep)

pub edges_height-returns : goal.edges_height-returns
edges_height-returns t c = λ G s within.
    let w = c.from-k.ensures in
    let h = rw c.in-Some.is at within in
    rw c.in-Some.is (omega (arith, edge_to s w h (height_within G c.args.depth), c.node_height-h.ensures G s, c.edges_height-rest.ensures G s (before-within s w h), c.max.ensures))

pub node_height-overflow_sub-depth : goal.node_height-overflow_sub-depth
node_height-overflow_sub-depth t c = let n = c.if-depth-eq0.false in omega arith

pub node_height-bounds-self-from : goal.node_height-bounds-self-from
node_height-bounds-self-from t c = omega (arith, c.from.ensures, c.requires.low)

pub node_height-edges_height-requires : goal.node_height-edges_height-requires
node_height-edges_height-requires t c =
    let p = c.requires in
    let n = c.if-depth-eq0.false in
    let d = p.deep in
    let within = node-within p.lists c.from.ensures p.low in
    (omega (arith, p.lists.few, within), record { graph = p.graph; lists = p.lists; deep = omega arith; within = within })

pub node_height-returns-then-depth-eq0 : goal.node_height-returns-then-depth-eq0
node_height-returns-then-depth-eq0 t c = λ G s. let a = c.args in sym (ap (λ (d : ℕ). height_within G d a.node) c.if-depth-eq0.true)

pub node_height-returns-else-depth-eq0 : goal.node_height-returns-else-depth-eq0
node_height-returns-else-depth-eq0 t c = λ G s.
    let a = c.args in
    let low = c.requires.low in
    let w = c.from.ensures in
    c.edges_height.ensures G s (node-within s w low) ∙ sym (node-to s w low (height_within G (a.depth - 1))) ∙ sym (height-down G a.depth a.node c.if-depth-eq0.false)
