-- `compose::images::path_images` meets its contract.
use Prim.Native.Nat.{ℕ, ◌<◌}
use mathlib.Core.Path.{◌≡◌}
use mathlib.Core.List.{List}
use lib.ListN.{length, get_or}
use Rattle.mapping.specs.declared.Image.{Image}
use Rattle.mapping.specs.Decoded.{no_image}
use Rattle.compose.specs.Composed.{IsJoined}
use Rattle.compose.proofs.images.path_images.Given as goal

-- the images of the first i paths are taken
pub record Taken (edge paths : List Image) (r : List Image) (i : ℕ) : Type 0 where
  pub each : (k : ℕ) → k < i → IsJoined edge (get_or paths k no_image) (get_or r k no_image)
  pub long : length r ≡ 32

abbrev pub invariant-loop-i : goal.invariant-loop-i
invariant-loop-i l = Taken l.edge l.paths l.r l.i
