-- `paths::table::trivial_paths` meets its contract. The invariant: the first n numbers are written.
use Prim.Native.Nat.{◌≤◌}
use Rattle.paths.specs.Table.{Filled}
use Rattle.paths.proofs.table.trivial_paths.Given as goal

abbrev pub invariant-loop-n : goal.invariant-loop-n
invariant-loop-n l = (l.n ≤ l.nodes) × Filled 256 (λ i. i) l.n l.number
