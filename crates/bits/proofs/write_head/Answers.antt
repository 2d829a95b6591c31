-- `bits::write_head` meets its contract: at a byte's start there is nothing to write, elsewhere one byte is.
use mathlib.Core.Path.{◌≡◌, sym}
use mathlib.Core.List.{List}
use Prim.Native.Nat.{ℕ, ◌-◌, ◌/◌, ◌%◌, ◌<◌}
use native.Mathlib.Nat.{add-zero}
use native.Mathlib.Omega.{arith}
use lib.ListN.{length, get_or, set}
use Rattle.bits.specs.Put.{with_bits, put, put_head}
use Rattle.bits.proofs.Writing.{put_byte}
use Rattle.bits.proofs.write_head.Goals as goal

in-byte : (s : List ℕ) (at head : ℕ) → at / 8 < length s → set s (at / 8) (with_bits (get_or s (at / 8) 0) (at % 8) (8 - at % 8) head) ≡ put_head s at head
unfolding put_head
in-byte s at head i = sym (rw add-zero at (put_byte s (at / 8) 0 (at % 8) (8 - at % 8) head (omega arith) i))

no_bits : (s : List ℕ) (at head : ℕ) → at % 8 ≡ 0 → s ≡ put_head s at head
unfolding put_head put
no_bits s at head e = rw e

pub returns-then-k-ne0 : goal.returns-then-k-ne0
returns-then-k-ne0 c = rw c.with_bits.ensures (in-byte _ _ _ (omega arith))

pub returns-else-k-ne0 : goal.returns-else-k-ne0
returns-else-k-ne0 c = no_bits _ _ _ (omega arith)
