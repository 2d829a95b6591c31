-- `instance::tables::table_list` meets its contract.
use Prim.Native.Nat.{ℕ, ◌*◌, ◌≤◌, ◌<◌}
use mathlib.Core.Path.{◌≡◌}
use mathlib.Core.List.{List}
use lib.ListN.{length, get_or}
use Rattle.meaning.specs.Lists.{sum_of}
use Rattle.schema.specs.Decoded.{front_of}
use Rattle.instance.specs.declared.tables.Table.{Table}
use Rattle.instance.specs.Tables.{no_table}
use Rattle.instance.proofs.TableList.{table_at}
use Rattle.instance.proofs.tables.table_list.Given as goal

-- the first c tables are laid out, and the next begins at row first
pub record Laying (counts : List ℕ) (list : List Table) (first c : ℕ) : Type 0 where
  pub few : first ≤ 4294967296 * c
  pub so_far : first ≡ sum_of (front_of c counts)
  pub each : (k : ℕ) → k < c → get_or list k no_table ≡ table_at counts k
  pub long : length list ≡ 16

abbrev pub invariant-loop-c : goal.invariant-loop-c
invariant-loop-c l = Laying l.counts l.list l.first l.c
