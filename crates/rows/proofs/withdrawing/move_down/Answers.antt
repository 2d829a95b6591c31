-- `rows::withdrawing::move_down` meets its contract.
use Prim.Native.Nat.{◌+◌, ◌-◌, ◌<◌}
use Rattle.std.proofs.Common.{◌≡◌, arith, ◌∙◌, length, take, drop, length-take, length-drop, get_or-take, get_or-drop}
use Rattle.rows.proofs.Places.{moving}
use Rattle.rows.proofs.withdrawing.move_down.Goals as goal

pub returns : goal.returns
returns c =
    let a = c.args in
    let e : length (take (a.base + a.n - a.base) (drop a.base a.l.now)) ≡ a.n = simp (length-take, length-drop) (omega arith) in
    moving c.loop-r.r-items c.requires (c.loop-r.auto.r-items ∙ e)
    (λ i m. let p : i < a.base + a.n - a.base = omega arith in rw (get_or-take, get_or-drop) at (c.loop-r.invariant.0 i (omega (arith, c.loop-r-test.false))))
