-- `schema::count::count_paths` meets its contract. The invariant: the paths of fewer than k edges are counted, and those of k edges tallied.
use mathlib.Core.Path.{◌≡◌, ◌∙◌}
use native.Mathlib.Omega.{arith}
use Rattle.schema.proofs.Tallies.{Levels, blank-start, levels-start, levels-few, levels-more, levels-paths, levels-looped, stopped-paths, stopped-looped}
use Rattle.schema.proofs.count.count_paths.Goals.{After-loop-k}
use Rattle.schema.proofs.count.count_paths.Goals as goal

pub first_row-requires : goal.first_row-requires
first_row-requires c = (c.requires.nodes, blank-start 272)

pub loop-k-init : goal.loop-k-init
loop-k-init c = levels-start _ c.first_row.ensures

pub sum_nodes-sum-requires : goal.sum_nodes-sum-requires
sum_nodes-sum-requires c = let f = c.requires.nodes in (f, (omega arith, levels-few c.loop-k.invariant))

pub returns-then-sum-eq0 : goal.returns-then-sum-eq0
returns-then-sum-eq0 c = record { paths = c.from.ensures ∙ stopped-paths c.loop-k.invariant c.sum_nodes-sum.ensures c.if-sum-eq0.true; looped = stopped-looped c.loop-k.invariant c.sum_nodes-sum.ensures c.if-sum-eq0.true }

pub overflow_add-paths : goal.overflow_add-paths
overflow_add-paths c = let x = c.sum_nodes-sum.ensures in let y = c.loop-k.invariant.so_far in omega arith

pub next_row-requires : goal.next_row-requires
next_row-requires c = let f = c.requires.nodes in ((c.requires, levels-few c.loop-k.invariant), (omega arith, c.loop-k.invariant.blank))

pub loop-k-preserved : goal.loop-k-preserved
loop-k-preserved c = levels-more c.loop-k.invariant c.requires c.loop-k-test.true c.sum_nodes-sum.ensures c.capped-paths.ensures c.next_row.ensures

-- in the end k is the number of nodes
done : (c : After-loop-k) → Levels c.args.g c.loop-k.tally c.loop-k.paths c.args.g.nodes
done c = let e : c.loop-k.k ≡ c.args.g.nodes = omega arith in rw e at c.loop-k.invariant

pub sum_nodes-requires : goal.sum_nodes-requires
sum_nodes-requires c = let f = c.requires.nodes in (f, (omega arith, levels-few (done (goal.at.sum_nodes-requires c).After-loop-k)))

pub returns : goal.returns
returns c =
    let d = done (goal.at.returns c).After-loop-k in
    record { paths = c.from-2.ensures ∙ levels-paths d (omega arith); looped = levels-looped d (omega arith) c.sum_nodes.ensures }
