-- `instance::decode::read_column` meets its contract.
use Prim.Native.Nat.{◌+◌, ◌*◌}
use Rattle.bits.specs.Field.{field}
use Rattle.instance.specs.Stored.{Stored}
use Rattle.instance.proofs.decode.read_column.Given as goal

abbrev pub invariant-loop-i : goal.invariant-loop-i
invariant-loop-i l = Stored (λ k. field l.s (l.at + l.width * k) l.width) l.i l.base l.initial.out l.out
