-- `sigma::sigma_links` meets its contract.
use Prim.Native.Nat.{◌+◌, ◌*◌}
use lib.ListN.{get_or}
use Rattle.sigma.specs.Joined.{JoinedColumns}
use Rattle.sigma.specs.Lifted.{lift_row}
use Rattle.sigma.proofs.sigma_links.Given as goal

abbrev pub invariant-loop-e : goal.invariant-loop-e
invariant-loop-e l =
    JoinedColumns l.f.node l.run.counts l.fn.t.graph.source l.s.graph.nodes l.e (λ i c. lift_row l.source_paths l.f.node l.run.counts l.links (get_or l.lifts (16 * i + c) 0)) l.initial.out l.out
