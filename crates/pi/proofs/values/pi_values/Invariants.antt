-- `pi::values::pi_values` meets its contract.
use Rattle.instance.specs.Decoded.{rows_of}
use Rattle.instance.specs.Stored.{ColumnsStored}
use Rattle.pi.specs.Values.{value_row}
use Rattle.pi.proofs.values.pi_values.Given as goal

abbrev pub invariant-loop-b : goal.invariant-loop-b
invariant-loop-b l = ColumnsStored l.b (rows_of l.t.node l.tables.counts.now) (value_row l.s l.t l.paths l.tables.k.now l.f.attribute l.run.counts l.tables.counts.now l.tables.rows.now l.values) l.initial.out l.out
