-- `mapping::decode::read_images` meets its contract.
use Prim.Native.Nat.{ℕ, ◌+◌, ◌*◌, ◌≤◌}
use mathlib.Core.Path.{◌≡◌}
use mathlib.Core.List.{List}
use lib.ListN.{length}
use Rattle.meaning.specs.Formats.{read_edges}
use Rattle.meaning.proofs.Reading.{Under}
use Rattle.mapping.specs.declared.Image.{Image}
use Rattle.mapping.specs.Decoded.{images_of, Short}
use Rattle.mapping.proofs.decode.read_images.Given as goal

pub record Kept (sheet : List ℕ) (at n : ℕ) (edge : List Image) (i p : ℕ) : Type 0 where
  pub inside : p ≤ 8 * length sheet
  pub near : p ≤ at + 79 * i
  pub read_so_far : Under read_edges n sheet at (images_of i edge) i p
  pub short : Short i edge
  pub long : length edge ≡ 32

abbrev pub invariant-loop-i : goal.invariant-loop-i
invariant-loop-i l = Kept l.sheet l.at l.n l.edge l.i l.next
