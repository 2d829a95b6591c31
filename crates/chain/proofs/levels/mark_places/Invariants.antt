-- `chain::levels::mark_places` meets its contract. The invariant: the first b landings are marked.
use Prim.Native.Nat.{suc}
use Rattle.chain.specs.Places.{landing_at}
use Rattle.chain.proofs.Marking.{Places}
use Rattle.chain.proofs.levels.mark_places.Given as goal

abbrev pub invariant-loop-b : goal.invariant-loop-b
invariant-loop-b l = Places (landing_at l.p.end l.p.last l.p.first l.p.rank l.prefix l.n l.old l.new) (suc l.n) l.k l.initial.of l.b l.of
