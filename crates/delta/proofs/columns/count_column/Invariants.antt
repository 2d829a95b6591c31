-- `delta::columns::count_column` meets its contract.
use Rattle.instance.specs.Decoded.{rows_of}
use Rattle.instance.specs.Stored.{Counts}
use Rattle.delta.proofs.columns.count_column.Given as goal

abbrev pub invariant-loop-c : goal.invariant-loop-c
invariant-loop-c l = Counts l.c (rows_of l.node l.counts) l.out
