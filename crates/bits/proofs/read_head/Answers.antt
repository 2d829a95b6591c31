-- `bits::read_head` meets its contract: at a byte's start there is no bit, elsewhere the byte is shifted.
use mathlib.Core.Path.{◌≡◌, sym}
use mathlib.Core.List.{List}
use Prim.Native.Nat.{ℕ, ◌*◌, ◌/◌, ◌%◌}
use native.Mathlib.Omega.{arith}
use Rattle.bits.specs.Field.{field}
use Rattle.bits.proofs.Reading.{field-head}
use Rattle.bits.proofs.read_head.Goals as goal

no_bits : (s : List ℕ) (at : ℕ) → at % 8 ≡ 0 → 0 ≡ field s (8 * (at / 8)) (at % 8)
unfolding field
no_bits s at e = rw e

pub returns-then-k-eq0 : goal.returns-then-k-eq0
returns-then-k-eq0 c = no_bits _ _ c.if-k-eq0.true

pub returns : goal.returns
returns c =
    rw c.from.ensures (sym (field-head _ _ (omega (arith, c.type_inv.s (c.args.at / 8)))))
