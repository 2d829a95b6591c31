-- `bits::lacks_room` meets its contract.
use Prim.Native.Nat.{◌+◌}
use lib.ListN.{length}
use Rattle.bits.proofs.Room.{no_room}
use Rattle.bits.proofs.lacks_room.Goals as goal

pub returns : goal.returns
returns c = let a = c.args in rw c.bytes_to.ensures (no_room (a.at + a.width) (length a.s.now))
