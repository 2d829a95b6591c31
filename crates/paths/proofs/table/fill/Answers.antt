-- `paths::table::fill` meets its contract. The invariant: path h is followed by the edges before e, of which the last leaves its end, and n rows are filled.
use Prim.Native.Nat.{ℕ, ◌+◌, ◌-◌, ◌<◌, ◌≤◌}
use mathlib.Core.Path.{◌≡◌, refl, ap, ◌∙◌, subst}
use native.Mathlib.Omega.{arith}
use borrow.Author.Rules.{rules}
use borrow.Author.Tests.{leb-true}
use lib.ListN.{length, get_or}
use Rattle.agreement.specs.Paths.{path_count}
use Rattle.schema.specs.Decoded.{graph_of}
use Rattle.schema.specs.Counted.{Fit}
use Rattle.schema.proofs.Judging.{fit}
use Rattle.schema.proofs.GraphEdges.{edges-count}
use Rattle.paths.specs.PathNumbers.{end_of}
use Rattle.paths.specs.Chains.{Nowhere, FirstAt, NextAt}
use Rattle.paths.proofs.Chaining.{first-at}
use Rattle.paths.proofs.Filling.{length-low, filling-start, filling-row, filling-table, row-end_low, next-edge, row-room, filling-write, filling-next}
use Rattle.paths.proofs.table.fill.Goals.{Start, In-loop-h, In-None, After-from-k}
use Rattle.paths.proofs.table.fill.Goals as goal

-- what a sound schema says of its graph
fits_in : (c : Start) → Fit c.args.schema.graph
fits_in c = fit c.requires.limits c.requires.well-formed

few : (c : Start) → path_count (graph_of c.args.schema.graph) ≤ 256
few c = leb-true _ _ c.requires.few

-- path h is in the table
less : (c : In-loop-h) → c.loop-h.h < path_count (graph_of c.args.schema.graph)
less c = omega (arith, c.loop-h-test.true, c.loop-h.invariant.0.low)

-- the next edge that leaves its end is edge k
first : (c : After-from-k) → FirstAt c.args.schema.graph.source (end_of (graph_of c.args.schema.graph) c.loop-h.h) c.loop-h.e c.args.schema.graph.edges c.from-k.result
first c =
    let v = c.loop-h.invariant in
    first-at (next-edge c.args.schema.graph (fit c.requires.limits c.requires.well-formed) c.requires.acyclic v.0 (omega (arith, c.loop-h-test.true, v.0.low)) c.chain.ensures v.1 c.next_place.ensures) c.in-Some.is c.from-k.ensures

room : (c : After-from-k) → c.loop-h.n < 256
room c =
    let v = c.loop-h.invariant.0 in
    omega (arith, row-room c.args.schema.graph (fit c.requires.limits c.requires.well-formed) c.requires.acyclic v (omega (arith, c.loop-h-test.true, v.low)) (first c), leb-true _ _ c.requires.few)

-- or there is none
nowhere : (c : In-None) → Nowhere c.args.schema.graph.source (end_of (graph_of c.args.schema.graph) c.loop-h.h) c.loop-h.e c.args.schema.graph.edges
nowhere c =
    let g = c.args.schema.graph in
    let v = c.loop-h.invariant in
    subst (NextAt g.source (end_of (graph_of g) c.loop-h.h) c.loop-h.e g.edges) c.in-None.is (next-edge g (fit c.requires.limits c.requires.well-formed) c.requires.acyclic v.0 (omega (arith, c.loop-h-test.true, v.0.low)) c.chain.ensures v.1 c.next_place.ensures)

pub chain-requires : goal.chain-requires
chain-requires c =
    let f = fits_in (goal.at.chain-requires c).Start in
    let l : length c.args.schema.graph.source ≡ 32 = search rules in
    (record { few = omega (arith, f.edges); long = omega (arith, f.edges); each = λ i h. omega (arith, f.sources i h, f.nodes) }, f.edges, refl)

pub loop-h-init : goal.loop-h-init
loop-h-init c = (filling-start (graph_of c.args.schema.graph) c.requires.acyclic c.trivial_paths-t.ensures, λ h. absurd (omega arith))

pub next_place-requires : goal.next_place-requires
next_place-requires c =
    let g = c.args.schema.graph in
    let f = fits_in (goal.at.next_place-requires c).Start in
    let v = c.loop-h.invariant.0 in
    (row-end_low g f c.requires.acyclic v (less (goal.at.next_place-requires c).In-loop-h), omega (arith, v.within, edges-count g.edges g.source g.target, f.edges))

pub overflow_add-longer : goal.overflow_add-longer
overflow_add-longer c =
    let G = graph_of c.args.schema.graph in
    let v = c.loop-h in
    let l = less (goal.at.overflow_add-longer c).In-loop-h in
    let w = filling-row G c.requires.acyclic v.invariant.0 l in
    omega (arith, v.invariant.0.columns.length.each v.h w, length-low G c.requires.acyclic v.h v.h (omega arith) l, room (goal.at.overflow_add-longer c).After-from-k, w)

pub bounds-t-n : goal.bounds-t-n
bounds-t-n c = room (goal.at.bounds-t-n c).After-from-k

pub bounds-g-k : goal.bounds-g-k
bounds-g-k c = omega (arith, (first (goal.at.bounds-g-k c).After-from-k).within, (fits_in (goal.at.bounds-g-k c).Start).edges)

pub bounds-t-n-in-Some : goal.bounds-t-n-in-Some
bounds-t-n-in-Some c = room (goal.at.bounds-t-n-in-Some c).After-from-k

pub bounds-t-n-in-Some-2 : goal.bounds-t-n-in-Some-2
bounds-t-n-in-Some-2 c = room (goal.at.bounds-t-n-in-Some-2 c).After-from-k

pub bounds-t-n-in-Some-3 : goal.bounds-t-n-in-Some-3
bounds-t-n-in-Some-3 c = room (goal.at.bounds-t-n-in-Some-3 c).After-from-k

pub overflow_cast-t-in-Some : goal.overflow_cast-t-in-Some
overflow_cast-t-in-Some c = omega (arith, c.from-k.ensures, (first (goal.at.overflow_cast-t-in-Some c).After-from-k).within, (fits_in (goal.at.overflow_cast-t-in-Some c).Start).edges)

pub bounds-t-n-in-Some-4 : goal.bounds-t-n-in-Some-4
bounds-t-n-in-Some-4 c = room (goal.at.bounds-t-n-in-Some-4 c).After-from-k

pub loop-h-smaller-in-Some : goal.loop-h-smaller-in-Some
loop-h-smaller-in-Some c = let f = first (goal.at.loop-h-smaller-in-Some c).After-from-k in let a = f.later in let b = f.within in omega arith

pub loop-h-preserved-in-Some : goal.loop-h-preserved-in-Some
loop-h-preserved-in-Some c =
    let g = c.args.schema.graph in
    let o = goal.at.loop-h-preserved-in-Some c in
    let f = first o.After-from-k in
    let z : c.from-k.result + 1 - 1 ≡ c.from-k.result = omega arith in
    (filling-write g (fits_in o.Start) c.requires.acyclic c.loop-h.invariant.0 (less o.In-loop-h) f (few o.Start) c.from-k.ensures, λ _. ap (λ (x : ℕ). get_or g.source x 0) z ∙ f.holds)

pub loop-h-preserved : goal.loop-h-preserved
loop-h-preserved c =
    let o = goal.at.loop-h-preserved c in
    (filling-next c.args.schema.graph (fits_in o.Start) c.requires.acyclic c.loop-h.invariant.0 (less o.In-loop-h) (nowhere o.In-None) (few o.Start), λ h. absurd (omega arith))

pub rank_edges-rank-requires : goal.rank_edges-rank-requires
rank_edges-rank-requires c = fits_in (goal.at.rank_edges-rank-requires c).Start

pub class_numbers-requires : goal.class_numbers-requires
class_numbers-requires c = (c.requires, filling-table (graph_of c.args.schema.graph) c.requires.acyclic c.loop-h.invariant.0 c.loop-h-test.false (few (goal.at.class_numbers-requires c).Start) c.rank_edges-rank.ensures)

pub returns : goal.returns
returns c = record { table = filling-table (graph_of c.args.schema.graph) c.requires.acyclic c.loop-h.invariant.0 c.loop-h-test.false (few (goal.at.returns c).Start) c.rank_edges-rank.ensures; class = c.class_numbers.ensures }
