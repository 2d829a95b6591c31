-- The lifts of edges as they are written: edge by edge, and of an edge node by node.
use Prim.Native.Nat.{ℕ, ◌+◌, ◌*◌, ◌/◌, ◌%◌, ◌<◌}
use mathlib.Core.Path.{◌≡◌}
use mathlib.Core.List.{List}
use native.Mathlib.Omega.{arith}
use borrow.Author.Count.{below_more}
use lib.ListN.{length, get_or, set}
use Rattle.meaning.proofs.Tabulate.{filled}
use Rattle.schema.specs.declared.Schema.{Schema}
use Rattle.paths.specs.declared.Paths.{Paths}
use Rattle.mapping.specs.declared.Mapping.{Mapping}
use Rattle.lifts.specs.Lifts.{IsLift, EdgeLifts}

module _ (s t : Schema) (source-paths : Paths) (f : Mapping) where
  abbrev At : ℕ → ℕ → Type 0
  At k x = k % 16 < s.graph.nodes → get_or t.graph.source (k / 16) 0 ≡ get_or f.node (k % 16) 0 → IsLift s t source-paths f (k % 16) (k / 16) x

  module _ (e c : ℕ) (l : List ℕ) (low : c < 16) (h : EdgeLifts s t source-paths f (16 * e + c) l) where
    edge-is : (16 * e + c) / 16 ≡ e
    edge-is = omega arith

    node-is : (16 * e + c) % 16 ≡ c
    node-is = omega arith

    next : 16 * e + c + 1 ≡ 16 * e + (c + 1)
    next = omega arith

    pub lifts-write : {x : ℕ} → 16 * e + c < length l → IsLift s t source-paths f c e x → EdgeLifts s t source-paths f (16 * e + (c + 1)) (set l (16 * e + c) x)
    lifts-write {x} room is = rw (← next) (record { each = filled At 0 l (16 * e + c) room (λ _ _. rw (edge-is, node-is) is) h.each })

    pub lifts-pass : (get_or t.graph.source e 0 ≡ get_or f.node c 0 → ⊥) → EdgeLifts s t source-paths f (16 * e + (c + 1)) l
    lifts-pass not = rw (← next) (record { each = below_more _ _ h.each (λ _ q. absurd (not (rw (edge-is, node-is) at q))) })

  -- past the nodes nothing is asked of an edge
  pub lifts-row : (e : ℕ) (l : List ℕ) → EdgeLifts s t source-paths f (16 * e + s.graph.nodes) l → EdgeLifts s t source-paths f (16 * (e + 1)) l
  lifts-row e l h = record { each = λ k a b q. h.each k (omega arith) b q }
