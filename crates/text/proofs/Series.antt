-- Laws of a series of texts, one for each number below n, written one after the other.
use Prim.Native.Nat.{ℕ, suc, ◌+◌, ◌-◌, ◌≤◌, ◌<◌}
use mathlib.Core.Path.{◌≡◌, ap, ◌∙◌}
use mathlib.Core.List.{List, [], ◌++◌}
use native.Mathlib.Omega.{arith}
use Rattle.meaning.specs.Lists.{range, upto, concat_map}
use Rattle.text.specs.Appended.{Room, Appended}
use Rattle.text.proofs.Appending.{Unwritten, unwritten-start, unwritten-room, unwritten-step, unwritten-done}

module _ (f : ℕ → List ℕ) (n : ℕ) where
  -- the texts from k on
  abbrev texts_from : ℕ → List ℕ
  texts_from k = concat_map f (range k (n - k))

  texts-start : texts_from 0 ≡ concat_map f (upto n)
  texts-start = let e : n - 0 ≡ n = omega arith in rw e

  texts-more : (k : ℕ) → k < n → texts_from k ≡ f k ++ texts_from (k + 1)
  texts-more k h =
      let count : n - k ≡ suc (n - (k + 1)) = omega arith in
      let next : suc k ≡ k + 1 = omega arith in
      ap (λ (m : ℕ). concat_map f (range k m)) count ∙ ap (λ (j : ℕ). f k ++ concat_map f (range j (n - (k + 1)))) next

  texts-done : (k : ℕ) → n ≤ k → texts_from k ≡ []
  texts-done k h = let e : n - k ≡ 0 = omega arith in rw e

-- the first k texts are written
pub record SeriesWritten (f : ℕ → List ℕ) (n : ℕ) (l₀ : List ℕ) (at₀ : ℕ) (l : List ℕ) (at k : ℕ) : Type 0 where
  pub some : k ≤ n
  pub left : Unwritten l₀ at₀ (concat_map f (upto n)) l at (texts_from f n k)

pub series-start : (f : ℕ → List ℕ) (n : ℕ) {l : List ℕ} {at : ℕ} → Room l at (concat_map f (upto n)) → SeriesWritten f n l at l at 0
series-start f n R = record { some = omega arith; left = rw (texts-start f n) (unwritten-start R) }

module _ {f : ℕ → List ℕ} {n : ℕ} {l₀ : List ℕ} {at₀ : ℕ} {l : List ℕ} {at k : ℕ} (G : SeriesWritten f n l₀ at₀ l at k) where
  module _ (h : k < n) where
    next-text : Unwritten l₀ at₀ (concat_map f (upto n)) l at (f k ++ texts_from f n (k + 1))
    next-text = rw (texts-more f n k h) at G.left

    pub series-room : Room l at (f k)
    series-room = unwritten-room (f k) (texts_from f n (k + 1)) next-text

    pub series-step : {r : ℕ} {m : List ℕ} → Appended l at (f k) r m → SeriesWritten f n l₀ at₀ m r (k + 1)
    series-step A = record { some = omega arith; left = unwritten-step (f k) (texts_from f n (k + 1)) next-text A }

  pub series-done : n ≤ k → Appended l₀ at₀ (concat_map f (upto n)) at l
  series-done h = unwritten-done (rw (texts-done f n k h) at G.left)
