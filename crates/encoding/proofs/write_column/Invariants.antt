-- `encoding::write_column` meets its contract.
use Prim.Native.Nat.{ℕ, ◌+◌, ◌*◌, ◌<◌}
use mathlib.Core.Path.{◌≡◌}
use mathlib.Core.List.{List}
use lib.ListN.{length}
use Rattle.bits.specs.Put.{put_all, put_head}
use Rattle.meaning.specs.Formats.{fields_of}
use Rattle.instance.specs.Decoded.{column_of}
use Rattle.encoding.proofs.write_column.Given as goal

-- the first i fields are written but for head, and the next goes to p
pub record Writing (tray₀ : List ℕ) (at width : ℕ) (l : List ℕ) (base : ℕ) (tray : List ℕ) (head i p : ℕ) : Type 0 where
  pub small : head < 256
  pub next : p ≡ at + width * i
  pub long : length tray ≡ length tray₀
  pub so_far : put_head tray p head ≡ put_all tray₀ at (fields_of width (column_of l base i))

abbrev pub invariant-loop-x : goal.invariant-loop-x
invariant-loop-x l = Writing l.initial.tray l.at l.width l.l l.base l.tray l.head l.x-index l.p
