-- `schema::heights::Leaving::list` meets its contract. The invariant: the first e edges are listed.
use Prim.Native.Nat.{◌<◌}
use mathlib.Core.Path.{◌≡◌, sym, ◌∙◌}
use native.Mathlib.Omega.{arith}
use lib.ListN.{length, get_or}
use Rattle.meaning.specs.Schema.{source}
use Rattle.schema.specs.Decoded.{graph_of}
use Rattle.schema.proofs.GraphEdges.{edges-count, source-at, target_at}
use Rattle.schema.proofs.NodeHeights.{Listing, listing_start, listing-more}
use Rattle.schema.proofs.heights.Leaving.list.Goals.{After-from-node}
use Rattle.schema.proofs.heights.Leaving.list.Goals as goal

-- the source of edge e
node_is : (c : After-from-node) → source (graph_of c.args.g) c.loop-e.e ≡ c.from-node.result
node_is c = let g = c.args.g in source-at g.edges g.source g.target c.loop-e.e c.loop-e-test.true ∙ sym c.from-node.ensures

node_low : (c : After-from-node) → c.from-node.result < 16
node_low c =
    let e : c.from-node.result ≡ get_or c.args.g.source c.loop-e.e 0 = c.from-node.ensures in
    omega (arith, c.requires.sources c.loop-e.e c.loop-e-test.true, c.requires.nodes)

pub loop-e-init : goal.loop-e-init
loop-e-init c = listing_start _

pub bounds-last-node : goal.bounds-last-node
bounds-last-node c = node_low c

pub bounds-last-node-in-loop-e : goal.bounds-last-node-in-loop-e
bounds-last-node-in-loop-e c = node_low (goal.at.bounds-last-node-in-loop-e c).After-from-node

pub loop-e-preserved : goal.loop-e-preserved
loop-e-preserved c =
    let p = (goal.at.loop-e-preserved c).After-from-node in
    listing-more c.loop-e.invariant (omega (arith, c.requires.edges)) c.from-node.result (node_low p) (node_is p)

pub returns : goal.returns
returns c =
    let v = c.loop-e in
    let g = c.args.g in
    let f = c.requires in
    let n = edges-count g.edges g.source g.target in
    let all : v.e ≡ length (graph_of g).edges = omega (arith, n) in
    let s : Listing (graph_of g) v.before v.last (length (graph_of g).edges) = rw (← all) v.invariant in
    record {
      few = omega (arith, f.edges);
      to = λ e l. sym (target_at g.edges g.source g.target e (omega arith));
      low = λ e l. omega (arith, target_at g.edges g.source g.target e (omega arith), f.targets e (omega arith), f.nodes);
      before = s.before;
      last = s.last;
    }
