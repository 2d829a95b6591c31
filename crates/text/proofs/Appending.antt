-- Laws of text that is written piece after piece.
use Prim.Native.Nat.{ℕ, suc, ◌+◌}
use mathlib.Core.Path.{◌≡◌, refl, sym, ap, ◌∙◌}
use mathlib.Core.List.{List, [], ◌∷◌, ◌++◌}
use native.Mathlib.Omega.{arith}
use native.Mathlib.Nat.{add-zero}
use lib.ListN.{length, set, length-append}
use lib.Seq.{sets, length-sets, sets-eq, drop-drop}
use borrow.Rule.Slice.PartMut.{put_mid}
use Rattle.std.proofs.Common.{append_assoc}
use Rattle.text.specs.Appended.{Room, Appended}

sets-append : (l : List ℕ) (i : ℕ) (a b : List ℕ) → sets l i (a ++ b) ≡ sets (sets l i a) (i + length a) b
sets-append l i [] b = ap (λ (k : ℕ). sets l k b) (sym (add-zero i))
sets-append l i (x ∷ a) b =
    let e : suc i + length a ≡ i + suc (length a) = omega arith in
    sets-append (set l i x) (suc i) a b ∙ ap (λ (k : ℕ). sets (sets (set l i x) (suc i) a) k b) e

-- ---- one piece

pub appended-none : (l : List ℕ) (at : ℕ) → Appended l at [] at l
appended-none l at = record { next = sym (add-zero at); bytes = refl }

pub appended-byte : (l : List ℕ) (at b : ℕ) → Appended l at (b ∷ []) (at + 1) (set l at b)
appended-byte l at b = record { next = refl; bytes = refl }

-- a word copied to its place
pub appended-word : (l : List ℕ) (at k : ℕ) (word copy : List ℕ) → Room l at word → copy ≡ word → k ≡ length word → Appended l at word (at + length word) (put_mid at k l copy)
appended-word l at k word copy R same long = record { next = refl; bytes = rw (same, long, drop-drop (length word) at l) (sym (rw append_assoc at (sets-eq word l at R.room))) }

module _ {l : List ℕ} {at : ℕ} {a : List ℕ} {r : ℕ} {m : List ℕ} (A : Appended l at a r m) where
  pub appended-long : length m ≡ length l
  appended-long = ap length A.bytes ∙ length-sets l at a

  -- and another behind it
  pub appended_then : {b : List ℕ} {q : ℕ} {n : List ℕ} → Appended m r b q n → Appended l at (a ++ b) q n
  appended_then {b} {q} {n} B = record {
    next = let e = length-append a b in omega (arith, A.next, B.next);
    bytes = B.bytes ∙ ap (λ (x : List ℕ). sets x r b) A.bytes ∙ ap (λ (k : ℕ). sets (sets l at a) k b) A.next ∙ sym (sets-append l at a b);
  }

  pub room-then : (b : List ℕ) → Room l at (a ++ b) → Room m r b
  room-then b R = record { room = let e = length-append a b in omega (arith, A.next, appended-long, R.room) }

pub room-first : {l : List ℕ} {at : ℕ} (a b : List ℕ) → Room l at (a ++ b) → Room l at a
room-first a b R = record { room = let e = length-append a b in omega (arith, R.room) }

-- ---- a text of which the rest is still to be written

pub record Unwritten (l₀ : List ℕ) (at₀ : ℕ) (text : List ℕ) (l : List ℕ) (at : ℕ) (rest : List ℕ) : Type 0 where
  pub room : Room l at rest
  pub long : length l ≡ length l₀
  pub completes : (r : ℕ) (m : List ℕ) → Appended l at rest r m → Appended l₀ at₀ text r m

pub unwritten-start : {l : List ℕ} {at : ℕ} {text : List ℕ} → Room l at text → Unwritten l at text l at text
unwritten-start R = record { room = R; long = refl; completes = λ r m A. A }

module _ {l₀ : List ℕ} {at₀ : ℕ} {text l : List ℕ} {at : ℕ} where
  pub unwritten-room : (a b : List ℕ) → Unwritten l₀ at₀ text l at (a ++ b) → Room l at a
  unwritten-room a b O = room-first a b O.room

  pub unwritten-step : (a b : List ℕ) {r : ℕ} {m : List ℕ} → Unwritten l₀ at₀ text l at (a ++ b) → Appended l at a r m → Unwritten l₀ at₀ text m r b
  unwritten-step a b O A = record { room = room-then A b O.room; long = appended-long A ∙ O.long; completes = λ q n B. O.completes q n (appended_then A B) }

  pub unwritten-done : Unwritten l₀ at₀ text l at [] → Appended l₀ at₀ text at l
  unwritten-done O = O.completes at l (appended-none l at)
