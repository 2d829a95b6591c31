-- `schema::heights::has_loop` meets its contract. The invariant: from no node before n can as many edges be followed as there are nodes.
use mathlib.Core.Path.{◌≡◌, sym, ◌∙◌}
use native.Mathlib.Omega.{arith}
use borrow.Author.Tests.{eq-eqb, ne_eqb}
use Rattle.meaning.specs.Schema.{height_within}
use Rattle.meaning.proofs.Heights.{has_path_of-height, missed-start, missed_more, missed-hit, missed-done}
use Rattle.schema.specs.Decoded.{graph_of}
use Rattle.schema.proofs.heights.has_loop.Goals.{After-node_height}
use Rattle.schema.proofs.heights.has_loop.Goals as goal

height-is : (c : After-node_height) → c.node_height.result ≡ height_within (graph_of c.args.g) c.args.g.nodes c.loop-n.n
height-is c = c.node_height.ensures (graph_of c.args.g) c.list-lists.ensures

pub loop-n-init : goal.loop-n-init
loop-n-init c = missed-start _ _

pub node_height-requires : goal.node_height-requires
node_height-requires c = record { graph = graph_of c.args.g; lists = c.list-lists.ensures; deep = c.requires.nodes; low = omega (arith, c.loop-n-test.true, c.requires.nodes) }

pub returns-then-node_height-g : goal.returns-then-node_height-g
returns-then-node_height-g c =
    let g = c.args.g in
    sym (missed-hit c.loop-n.invariant c.loop-n-test.true (has_path_of-height (graph_of g) g.nodes c.loop-n.n ∙ eq-eqb _ _ (sym (height-is (goal.at.returns-then-node_height-g c).After-node_height) ∙ c.if-node_height-g.true)))

pub loop-n-preserved : goal.loop-n-preserved
loop-n-preserved c =
    let g = c.args.g in
    missed_more c.loop-n.invariant c.loop-n-test.true (has_path_of-height (graph_of g) g.nodes c.loop-n.n ∙ ne_eqb _ _ (λ q. c.if-node_height-g.false (height-is (goal.at.loop-n-preserved c).After-node_height ∙ q)))

pub returns : goal.returns
returns c = sym (missed-done c.loop-n.invariant c.loop-n-test.false)
