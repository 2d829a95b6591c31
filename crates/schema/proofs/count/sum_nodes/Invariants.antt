-- `schema::count::sum_nodes` meets its contract. The invariant: the numbers so far are summed.
use Prim.Native.Nat.{min}
use mathlib.Core.Path.{◌≡◌}
use Rattle.meaning.proofs.PathCounts.{total}
use Rattle.schema.specs.Counted.{row}
use Rattle.schema.proofs.count.sum_nodes.Given as goal

abbrev pub invariant-loop-paths : goal.invariant-loop-paths
invariant-loop-paths l = l.sum ≡ min 257 (total (row l.tally l.at) l.paths-index)
