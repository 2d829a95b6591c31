-- `rows::adding::join_columns` meets its contract.
use Rattle.instance.specs.Decoded.{rows_of}
use Rattle.rows.proofs.Joining.{Joining}
use Rattle.rows.proofs.adding.join_columns.Given as goal

abbrev pub invariant-loop-k : goal.invariant-loop-k
invariant-loop-k l = Joining (rows_of l.home l.counts) (rows_of l.home l.rows) l.list l.initial.out l.k l.out
