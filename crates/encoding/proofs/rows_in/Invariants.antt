-- `encoding::rows_in` meets its contract.
use Prim.Native.Nat.{◌*◌, ◌≤◌}
use mathlib.Core.Path.{◌≡◌}
use Rattle.instance.specs.Decoded.{rows_of}
use Rattle.encoding.specs.Written.{rows_in}
use Rattle.encoding.proofs.rows_in.Given as goal

abbrev pub invariant-loop-k : goal.invariant-loop-k
invariant-loop-k l = (l.sum ≤ 512 * l.k) × (l.sum ≡ rows_in l.k (rows_of l.home l.counts))
