-- `delta::delta_links` meets its contract.
use Rattle.instance.specs.Decoded.{rows_of}
use Rattle.instance.specs.Stored.{ColumnsStored}
use Rattle.delta.specs.Pulled.{image_row}
use Rattle.delta.proofs.delta_links.Given as goal

abbrev pub invariant-loop-e : goal.invariant-loop-e
invariant-loop-e l = ColumnsStored l.e (rows_of l.source l.counts) (image_row l.f l.links) l.initial.out l.out
