-- `encoding::write_columns` meets its contract.
use Prim.Native.Nat.{ℕ, ◌+◌, ◌*◌, ◌≤◌}
use mathlib.Core.Path.{◌≡◌}
use mathlib.Core.List.{List}
use lib.ListN.{length}
use Rattle.bits.specs.Put.{put_all}
use Rattle.instance.specs.Decoded.{rows_of}
use Rattle.encoding.specs.Written.{rows_in, column_fields}
use Rattle.encoding.proofs.write_columns.Given as goal

-- the first k columns are written, and the next goes to p
pub record Writing (tray₀ : List ℕ) (at width : ℕ) (home counts l tray : List ℕ) (k p : ℕ) : Type 0 where
  pub near : p ≤ at + 16384 * k
  pub next : p ≡ at + width * rows_in k (rows_of home counts)
  pub long : length tray ≡ length tray₀
  pub so_far : tray ≡ put_all tray₀ at (column_fields width k (rows_of home counts) l)

abbrev pub invariant-loop-k : goal.invariant-loop-k
invariant-loop-k l = Writing l.initial.tray l.at l.width l.home l.counts l.l l.tray l.k l.p
