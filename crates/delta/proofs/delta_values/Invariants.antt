-- `delta::delta_values` meets its contract.
use Rattle.instance.specs.Decoded.{rows_of}
use Rattle.instance.specs.Stored.{ColumnsStored}
use Rattle.delta.specs.Pulled.{image_value}
use Rattle.delta.proofs.delta_values.Given as goal

abbrev pub invariant-loop-a : goal.invariant-loop-a
invariant-loop-a l = ColumnsStored l.a (rows_of l.node l.counts) (image_value l.attribute l.values) l.initial.out l.out
