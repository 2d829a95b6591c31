-- `paths::classes::join_followers` meets its contract. The invariant: after so many lengths, those behind them are left, of which n paths from x on and n from
-- y on come next.
use Prim.Native.Nat.{◌-◌}
use Rattle.paths.proofs.Joining.{Followers}
use Rattle.paths.proofs.classes.join_followers.Given as goal

abbrev pub invariant-loop-done : goal.invariant-loop-done
invariant-loop-done l = Followers l.first l.a l.b l.depth l.initial.of l.x l.y l.n (l.depth - l._done) l.of
