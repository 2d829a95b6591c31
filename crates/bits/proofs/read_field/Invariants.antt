-- `bits::read_field` meets its contract. The invariant: acc is the bytes read so far, as one field.
use mathlib.Core.Path.{◌≡◌}
use Prim.Native.Nat.{◌*◌}
use Rattle.bits.specs.Field.{field}
use Rattle.bits.proofs.read_field.Given as goal

abbrev pub invariant-loop-byte : goal.invariant-loop-byte
invariant-loop-byte l = l.acc ≡ field l.s (8 * l.first) (8 * l.byte-index)
