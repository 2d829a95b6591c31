-- `bits::append_field` meets its contract. The invariant: once the rest is written into the bytes before j, all is written.
use mathlib.Core.Path.{◌≡◌, ◌∙◌}
use mathlib.Core.List.{List}
use Prim.Native.Nat.{ℕ, ◌-◌, ◌*◌, ◌≤◌}
use native.Mathlib.Omega.{arith}
use Rattle.bits.specs.Put.{put}
use Rattle.bits.proofs.Writing.{set-bytes}
use Rattle.bits.proofs.Appending.{put_last, appended}
use Rattle.bits.proofs.append_field.Goals as goal

pub loop-j-preserved : goal.loop-j-preserved
loop-j-preserved c =
    let l = c.loop-j in
    record {
      begun = omega arith;
      bytes = set-bytes l.s _ _ l.invariant.bytes (omega arith);
      so_far = put_last l.s _ l.j l.rest c.loop-j-test.true (omega arith) l.invariant.bytes ∙ l.invariant.so_far;
    }

-- no byte is left
whole : (s s₀ : List ℕ) (k j n v v₀ : ℕ) → k ≤ j → j ≤ k → put s (8 * k) (8 * (j - k)) v ≡ put s₀ (8 * k) n v₀ → s ≡ put s₀ (8 * k) n v₀
unfolding put
whole s s₀ k j n v v₀ a b e = let z : 8 * (j - k) ≡ 0 = omega arith in rw z at e

pub returns : goal.returns
returns c =
    let l = c.loop-j in
    record {
      small = omega arith;
      says = appended _ _ _ _ _ c.joined-x.ensures (omega arith) (omega arith) (omega arith)
          (whole l.s _ _ l.j _ l.rest _ l.invariant.begun c.loop-j-test.false l.invariant.so_far);
    }
