-- `paths::classes::join_equation` meets its contract. The invariant: the pairs behind the paths before the one at hand are joined, and that one ends at the
-- equation's start.
use Prim.Native.Nat.{ℕ, ◌+◌, ◌<◌}
use mathlib.Core.Path.{◌≡◌, sym, subst, ap, ◌∙◌}
use native.Mathlib.Omega.{arith}
use borrow.Author.Tests.{eq-eqb, ne_eqb}
use lib.ListN.{get_or}
use Rattle.std.specs.Prelude.{Option, Some, None, unwrap_or}
use Rattle.paths.specs.Chains.{NextAt}
use Rattle.paths.specs.Classes.{pairs_at}
use Rattle.paths.proofs.Chaining.{Ahead, ahead}
use Rattle.paths.proofs.Joining.{Turns, turns-start, turns_more, turns_next, turns-done}
use Rattle.paths.proofs.classes.join_equation.Goals.{After-from-u}
use Rattle.paths.proofs.classes.join_equation.Goals as goal

at-u : (c : After-from-u) → c.loop-at.at ≡ Some c.from-u.result
at-u c = c.in-Some.is ∙ ap (λ (u : ℕ). Some u) (sym c.from-u.ensures)

-- path u is in the table, and ends at the equation's start
here : (c : After-from-u) → (c.from-u.result < c.args.p.count) × (get_or c.args.p.end c.from-u.result 0 ≡ c.args.left.start)
here c = c.loop-at.invariant.1 c.from-u.result (at-u c)

after : (c : After-from-u) → Ahead c.args.p.end c.args.left.start (c.from-u.result + 1) c.args.p.count (get_or c.args.next.now c.from-u.result None)
after c =
    let u = c.from-u.result in
    let n = c.args.p.count in
    let h = here c in
    ahead (get_or c.args.next.now u None) (let l = h.0 in omega arith) (subst (λ (v : ℕ). NextAt c.args.p.end v (u + 1) n (get_or c.args.next.now u None)) h.1 (c.requires.2.after u (omega arith) h.0))

pub loop-at-init : goal.loop-at-init
loop-at-init c =
    let a : Ahead c.args.p.end c.args.left.start 0 c.args.p.count (get_or c.args.ends.now c.from.result None) =
    ahead (get_or c.args.ends.now c.from.result None) (omega arith) (rw c.from.ensures (c.requires.2.begins c.args.left.start c.requires.0.start)) in
    (turns_next (λ j q. rw (ne_eqb _ _ q)) (turns-start _ _ _) a, a.found)

pub walk-a-requires : goal.walk-a-requires
walk-a-requires c =
    let h = here (goal.at.walk-a-requires c).After-from-u in
    rw c.from-in-Some.ensures (omega (arith, c.requires.0.left_short), c.requires.0.left c.from-u.result h.0 h.1)

pub walk-b-requires : goal.walk-b-requires
walk-b-requires c =
    let h = here (goal.at.walk-b-requires c).After-from-u in
    rw c.from-in-Some-2.ensures (omega (arith, c.requires.0.right_short), c.requires.0.right c.from-u.result h.0 h.1)

pub join_followers-requires : goal.join_followers-requires
join_followers-requires c =
    let h = here (goal.at.join_followers-requires c).After-from-u in
    rw (c.walk-a.ensures, c.walk-b.ensures, c.from-in-Some.ensures, c.from-in-Some-2.ensures) (c.requires.0.runs c.from-u.result h.0 h.1)

pub loop-at-smaller : goal.loop-at-smaller
loop-at-smaller c =
    let o = (goal.at.loop-at-smaller c).After-from-u in
    let e : unwrap_or c.loop-at.at c.args.p.count ≡ c.from-u.result = ap (λ (x : Option ℕ). unwrap_or x c.args.p.count) (at-u o) in
    let l = (here o).0 in
    let a = (after o).later in
    omega arith

pub loop-at-preserved : goal.loop-at-preserved
loop-at-preserved c =
    let o = (goal.at.loop-at-preserved c).After-from-u in
    let p = c.args.p in
    let h = here o in
    let t : Turns (pairs_at p c.args.nodes c.args.left c.args.right) p.count c.args.of.now c.from-u.result c.loop-at.of =
    subst (λ (x : Option ℕ). Turns (pairs_at p c.args.nodes c.args.left c.args.right) p.count c.args.of.now (unwrap_or x p.count) c.loop-at.of) (at-u o) c.loop-at.invariant.0 in (
      turns_next (λ j q. rw (ne_eqb _ _ q))
          (turns_more t h.0 (rw (eq-eqb _ _ h.1, ← c.from-in-Some.ensures, ← c.from-in-Some-2.ensures, ← c.walk-a.ensures, ← c.walk-b.ensures) c.join_followers.ensures)) (after o),
      (after o).found,
    )

pub returns : goal.returns
returns c =
    let p = c.args.p in
    turns-done (subst (λ (x : Option ℕ). Turns (pairs_at p c.args.nodes c.args.left c.args.right) p.count c.args.of.now (unwrap_or x p.count) c.loop-at.of) c.in_default.is c.loop-at.invariant.0) (omega arith)
