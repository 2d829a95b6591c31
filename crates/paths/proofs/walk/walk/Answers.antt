-- `paths::walk::walk` meets its contract. The invariant: from path x on, the edges that are left lead to the same number.
use Prim.Native.Nat.{◌+◌, ◌<◌}
use mathlib.Core.Path.{◌≡◌, sym, ap, ◌∙◌, subst}
use mathlib.Core.List.{◌∷◌}
use native.Mathlib.Omega.{arith}
use lib.ListN.{get_or, drop}
use Rattle.std.proofs.Common.{get_or-take}
use Rattle.theory.specs.Numbering.{tabulate}
use Rattle.meaning.proofs.Tabulate.{rest_more, rest-done}
use Rattle.paths.specs.PathWalks.{walk_from, WalkIn}
use Rattle.paths.proofs.walk.walk.Goals.{In-loop-e, After-from}
use Rattle.paths.proofs.walk.walk.Goals as goal

next : (c : In-loop-e) → drop c.loop-e.e-index (tabulate c.args.n (λ k. get_or c.args.edges.now k 0)) ≡ get_or c.args.edges.now c.loop-e.e-index 0 ∷ drop (c.loop-e.e-index + 1) (tabulate c.args.n (λ k. get_or c.args.edges.now k 0))
next c = rest_more (λ k. get_or c.args.edges.now k 0) c.args.n c.loop-e.e-index (omega arith)

-- the step along the next edge stays in the table
ready : (c : In-loop-e) → WalkIn c.args.first.now c.args.rank.now c.loop-e.x (get_or c.args.edges.now c.loop-e.e-index 0 ∷ drop (c.loop-e.e-index + 1) (tabulate c.args.n (λ k. get_or c.args.edges.now k 0)))
ready c = subst (WalkIn c.args.first.now c.args.rank.now c.loop-e.x) (next c) c.loop-e.invariant.1

edge : (c : After-from) → c.from.result ≡ get_or c.args.edges.now c.loop-e.e-index 0
edge c = let h : c.loop-e.e-index < c.args.n = omega arith in c.from.ensures ∙ rw get_or-take

pub offset_bounds-first-x : goal.offset_bounds-first-x
offset_bounds-first-x c = let h = (ready c).0 in omega arith

pub bounds-first-x : goal.bounds-first-x
bounds-first-x c = (ready (goal.at.bounds-first-x c).In-loop-e).0

pub bounds-rank-from : goal.bounds-rank-from
bounds-rank-from c = rw (edge (goal.at.bounds-rank-from c).After-from) (ready (goal.at.bounds-rank-from c).In-loop-e).1

pub loop-e-preserved : goal.loop-e-preserved
loop-e-preserved c =
    let v = c.loop-e in
    let a = c.args in
    let p : c.sum-x.result ≡ get_or a.first.now v.x 0 + get_or a.rank.now (get_or a.edges.now v.e-index 0) 0 = c.sum-x.ensures ∙ rw (edge (goal.at.loop-e-preserved c).After-from) in
    (v.invariant.0 ∙ ap (walk_from a.first.now a.rank.now v.x) (next (goal.at.loop-e-preserved c).In-loop-e) ∙ rw p, rw p (ready (goal.at.loop-e-preserved c).In-loop-e).2)

pub returns : goal.returns
returns c =
    let v = c.loop-e in
    let a = c.args in
    sym (v.invariant.0 ∙ ap (walk_from a.first.now a.rank.now v.x) (rest-done (λ k. get_or a.edges.now k 0) a.n v.e-index (omega arith)))
