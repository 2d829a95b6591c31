-- `sigma::sigma_values` meets its contract.
use Rattle.sigma.specs.Joined.{JoinedColumns, value_over}
use Rattle.sigma.proofs.sigma_values.Given as goal

abbrev pub invariant-loop-b : goal.invariant-loop-b
invariant-loop-b l = JoinedColumns l.f.node l.run.counts l.fn.t.node l.s.graph.nodes l.b (value_over l.s l.f l.values) l.initial.out l.out
