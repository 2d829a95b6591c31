-- `compose::writing::write_images` meets its contract.
use Prim.Native.Nat.{ℕ, ◌+◌, ◌*◌, ◌≤◌}
use mathlib.Core.Path.{◌≡◌}
use mathlib.Core.List.{List}
use lib.ListN.{length}
use Rattle.bits.specs.Put.{put_all}
use Rattle.mapping.specs.declared.Image.{Image}
use Rattle.compose.specs.Sheets.{images_bits}
use Rattle.compose.proofs.SheetFields.{images_fields}
use Rattle.compose.proofs.writing.write_images.Given as goal

-- the first i images are written, and the next goes to p
pub record Writing (tray₀ : List ℕ) (at : ℕ) (edge : List Image) (tray : List ℕ) (i p : ℕ) : Type 0 where
  pub near : p ≤ at + 79 * i
  pub next : p ≡ at + images_bits i edge
  pub long : length tray ≡ length tray₀
  pub so_far : tray ≡ put_all tray₀ at (images_fields edge i)

abbrev pub invariant-loop-image : goal.invariant-loop-image
invariant-loop-image l = Writing l.initial.tray l.at l.images l.tray l.image-index l.p
