-- `paths::classes::join_followers` meets its contract. The invariant: after so many lengths, those behind them are left, of which n paths from x on and n from
-- y on come next.
use Prim.Native.Nat.{ℕ, ◌+◌, ◌-◌}
use mathlib.Core.Path.{◌≡◌, refl, subst}
use native.Mathlib.Omega.{arith}
use lib.ListN.{get_or}
use Rattle.paths.proofs.Joining.{Followers, followers-more, followers-end, followers-done}
use Rattle.paths.proofs.classes.join_followers.Goals as goal

pub loop-done-init : goal.loop-done-init
loop-done-init c =
    let a = c.args in
    let z : a.depth ≡ a.depth - 0 = omega arith in
    subst (λ (d : ℕ). Followers a.first.now a.a a.b a.depth a.of.now a.a a.b 1 d a.of.now) z (record { so = refl; runs = c.requires })

pub returns-then-n-eq0 : goal.returns-then-n-eq0
returns-then-n-eq0 c = followers-end c.loop-done.invariant c.if-n-eq0.true

pub loop-done-preserved : goal.loop-done-preserved
loop-done-preserved c =
    let v = c.loop-done in
    let f = c.args.first.now in
    let p : c.from-next.result ≡ get_or f v.x 0 = c.from-next.ensures in
    let q : c.from.result ≡ get_or f (v.x + v.n) 0 = c.from.ensures in
    let r : c.from-y.result ≡ get_or f v.y 0 = c.from-y.ensures in
    let z : c.args.depth - (v._done + 1) ≡ c.args.depth - v._done - 1 = omega arith in
    rw (p, q, r, z) (followers-more v.invariant (omega arith) c.join_runs.ensures)

pub returns : goal.returns
returns c = followers-done c.loop-done.invariant (omega arith)
