-- `pi::values::value_column` meets its contract.
use Prim.Native.Nat.{◌+◌, ◌*◌}
use lib.ListN.{get_or}
use Rattle.instance.specs.Decoded.{column_of}
use Rattle.instance.specs.Stored.{Stored}
use Rattle.pi.proofs.values.value_column.Given as goal

abbrev pub invariant-loop-x : goal.invariant-loop-x
invariant-loop-x l = Stored (λ x. get_or l.values (get_or (column_of l.tables.rows.now (64 * (l.here.first + x)) l.here.width) l.place 0) 0) l.x l.at l.initial.out l.out
