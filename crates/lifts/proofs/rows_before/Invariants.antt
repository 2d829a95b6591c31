-- `lifts::rows_before` meets its contract.
use Prim.Native.Nat.{◌*◌, ◌≤◌}
use mathlib.Core.Path.{◌≡◌}
use Rattle.lifts.specs.Lifts.{joined_before}
use Rattle.lifts.proofs.rows_before.Given as goal

abbrev pub invariant-loop-c : goal.invariant-loop-c
invariant-loop-c l = (l.rows ≡ joined_before l.node l.counts l.d l.c) × (l.rows ≤ 4294967296 * l.c)
