-- `instance::copy::copy_column` meets its contract.
use Rattle.instance.specs.Stored.{Copied}
use Rattle.instance.proofs.copy.copy_column.Given as goal

abbrev pub invariant-loop-i : goal.invariant-loop-i
invariant-loop-i l = Copied l.list l.place l.i l.base l.initial.out l.out
