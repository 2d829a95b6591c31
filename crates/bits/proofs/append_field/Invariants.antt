-- `bits::append_field` meets its contract. The invariant: once the rest is written into the bytes before j, all is written.
use mathlib.Core.Path.{◌≡◌}
use mathlib.Core.List.{List}
use Prim.Native.Nat.{ℕ, ◌-◌, ◌*◌, ◌≤◌}
use Rattle.bits.specs.Field.{Bytes}
use Rattle.bits.specs.Put.{put}
use Rattle.bits.proofs.append_field.Given as goal

pub record Writing (s₀ : List ℕ) (first rest₀ j₀ : ℕ) (s : List ℕ) (rest j : ℕ) : Type 0 where
  pub begun : first ≤ j
  pub bytes : Bytes s
  pub so_far : put s (8 * first) (8 * (j - first)) rest ≡ put s₀ (8 * first) (8 * (j₀ - first)) rest₀

abbrev pub invariant-loop-j : goal.invariant-loop-j
invariant-loop-j l = Writing l.initial.s l.first l.initial.rest l.initial.j l.s l.rest l.j
