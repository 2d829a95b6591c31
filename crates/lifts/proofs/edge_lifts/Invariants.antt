-- `lifts::edge_lifts` meets its contract. The invariants: of the edges before e, and of edge e the nodes before c, the lifts are written.
use Prim.Native.Nat.{◌+◌, ◌*◌}
use mathlib.Core.Path.{◌≡◌}
use lib.ListN.{length}
use Rattle.lifts.specs.Lifts.{EdgeLifts}
use Rattle.lifts.proofs.edge_lifts.Given as goal

abbrev pub invariant-loop-e : goal.invariant-loop-e
invariant-loop-e l = EdgeLifts l.s l.fn.t l.source_paths l.f (16 * l.e) l.lifts × (length l.lifts ≡ 512)

abbrev pub invariant-loop-c : goal.invariant-loop-c
invariant-loop-c l = EdgeLifts l.s l.fn.t l.source_paths l.f (16 * l.e + l.c) l.lifts × (length l.lifts ≡ 512)
