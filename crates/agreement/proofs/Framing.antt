-- What is read of an input: what `push` prints depends on the first four sheets alone, what `dig` prints on the first eight, and sheets read one after the
-- other are the first of their input.
use Prim.Native.Nat.{ℕ, zero, suc, ◌+◌, ◌-◌, ◌*◌, ◌≤◌, ◌<◌}
use mathlib.Core.Path.{◌≡◌, refl, sym, ap, ◌∙◌}
use mathlib.Core.List.{List, [], ◌∷◌, ◌++◌, append-nil, append_assoc}
use native.Mathlib.Nat.{zero-add, add-zero}
use native.Mathlib.Omega.{arith}
use lib.ListN.{length, take, drop, length-drop, drop_of_length-le}
use lib.Seq.{take-add, take_all, take_at, drop_at}
use Rattle.meaning.specs.Program.{announced, first_sheet, later_sheets, sheet, first_frame, frames, push, dig}

-- ---- a front, and behind it what is made of the rest

module _ (f : List ℕ → List ℕ) (of_none : f [] ≡ []) where
  front_kept : (m : ℕ) (l : List ℕ) → take m (take m l ++ f (drop m l)) ≡ take m l
  front_kept zero l = refl
  front_kept (suc m) [] = ap (take (suc m)) of_none
  front_kept (suc m) (x ∷ l) = ap (x ∷◌) (front_kept m l)

  rest-kept : (m : ℕ) (l : List ℕ) → drop m (take m l ++ f (drop m l)) ≡ f (drop m l)
  rest-kept zero l = refl
  rest-kept (suc m) [] = ap (drop (suc m)) of_none ∙ sym of_none
  rest-kept (suc m) (x ∷ l) = rest-kept m l

-- ---- the sheets of what is read

frames-none : (n : ℕ) → frames n [] ≡ []
frames-none zero = refl
frames-none (suc n) = frames-none n

frame-some : (a b : ℕ) (rest : List ℕ) → first_frame (a ∷ b ∷ rest) ≡ a ∷ b ∷ take (256 * a + b) rest
frame-some a b rest = take-add 2 (256 * a + b) (a ∷ b ∷ rest)

pub first-kept : (n : ℕ) (input : List ℕ) → first_sheet (frames (suc n) input) ≡ first_sheet input
first-kept n [] = ap first_sheet (frames-none n)
first-kept n (a ∷ []) = ap (λ l. first_sheet (a ∷ l)) (frames-none n)
first-kept n (a ∷ b ∷ rest) =
    ap (λ l. first_sheet (l ++ frames n (later_sheets (a ∷ b ∷ rest)))) (frame-some a b rest)
    ∙ front_kept (frames n) (frames-none n) (256 * a + b) rest

pub later-kept : (n : ℕ) (input : List ℕ) → later_sheets (frames (suc n) input) ≡ frames n (later_sheets input)
later-kept n [] = ap later_sheets (frames-none n) ∙ sym (frames-none n)
later-kept n (a ∷ []) = ap (λ l. later_sheets (a ∷ l)) (frames-none n) ∙ sym (frames-none n)
later-kept n (a ∷ b ∷ rest) =
    ap (λ l. later_sheets (l ++ frames n (later_sheets (a ∷ b ∷ rest)))) (frame-some a b rest)
    ∙ rest-kept (frames n) (frames-none n) (256 * a + b) rest

frame-kept : (n : ℕ) (input : List ℕ) → first_frame (frames (suc n) input) ≡ first_frame input
frame-kept n [] = ap first_frame (frames-none n)
frame-kept n (a ∷ []) = ap (λ l. first_frame (a ∷ l)) (frames-none n)
frame-kept n (a ∷ b ∷ rest) =
    ap (λ l. first_frame (l ++ frames n (later_sheets (a ∷ b ∷ rest)))) (frame-some a b rest)
    ∙ frame-some a b (take (256 * a + b) rest ++ frames n (drop (256 * a + b) rest))
    ∙ ap (λ l. a ∷ b ∷ l) (front_kept (frames n) (frames-none n) (256 * a + b) rest)
    ∙ sym (frame-some a b rest)

-- of what is read, nothing is left unread
pub frames-once : (n : ℕ) (input : List ℕ) → frames n (frames n input) ≡ frames n input
frames-once zero input = refl
frames-once (suc n) input = rw (frame-kept n input, later-kept n input, frames-once n (later_sheets input))

-- each sheet among those that are read is the sheet of the whole input
pub sheet-kept : (n k : ℕ) → n < k → (input : List ℕ) → sheet n (frames k input) ≡ sheet n input
sheet-kept n zero h input = absurd (omega arith)
sheet-kept zero (suc k) h input = first-kept k input
sheet-kept (suc n) (suc k) h input = ap (sheet n) (later-kept k input) ∙ sheet-kept n k (omega arith) (later_sheets input)

-- what `push` prints depends on the first four sheets alone
pub push_frames : (input : List ℕ) → push (frames 4 input) ≡ push input
push_frames input = rw (kept 0 (omega arith), kept 1 (omega arith), kept 2 (omega arith), kept 3 (omega arith))
  where
    kept : (n : ℕ) → n < 4 → sheet n (frames 4 input) ≡ sheet n input
    kept n h = sheet-kept n 4 h input

-- and what `dig` prints on the first eight
pub dig_frames : (input : List ℕ) → dig (frames 8 input) ≡ dig input
dig_frames input = rw (kept 0 (omega arith), kept 1 (omega arith), kept 2 (omega arith), kept 3 (omega arith), kept 4 (omega arith), kept 5 (omega arith), kept 6 (omega arith), kept 7 (omega arith))
  where
    kept : (n : ℕ) → n < 8 → sheet n (frames 8 input) ≡ sheet n input
    kept n h = sheet-kept n 8 h input

-- ---- sheets read one after the other

-- b is n whole sheets with their byte lengths, and reading goes on with what follows it
pub record Whole (n : ℕ) (b : List ℕ) : Type 0 where
  pub onward : (m : ℕ) (input : List ℕ) → frames (n + m) (b ++ input) ≡ b ++ frames m input

pub whole-none : Whole 0 []
whole-none = record { onward = λ m input. ap (λ k. frames k input) (zero-add m) }

one-whole : (s : List ℕ) → length s ≡ 2 + announced s → (m : ℕ) (input : List ℕ) → frames (suc m) (s ++ input) ≡ s ++ frames m input
one-whole [] h m input = absurd (omega arith)
one-whole (a ∷ []) h m input = absurd (omega arith)
one-whole (a ∷ b ∷ rest) h m input =
    let size : length rest ≡ 256 * a + b = omega arith in
    let frame : first_frame (a ∷ b ∷ (rest ++ input)) ≡ a ∷ b ∷ rest = frame-some a b (rest ++ input) ∙ ap (λ l. a ∷ b ∷ l) (take_at rest input (256 * a + b) size) in
    let later : later_sheets (a ∷ b ∷ (rest ++ input)) ≡ input = drop_at rest input (256 * a + b) size in
    rw (frame, later)

-- one more whole sheet
pub whole-next : {n : ℕ} {b : List ℕ} (s : List ℕ) → Whole n b → length s ≡ 2 + announced s → Whole (n + 1) (b ++ s)
whole-next {n} {b} s W h = record {
  onward = λ m input.
      let count : n + 1 + m ≡ n + suc m = omega arith in
      ap (λ k. frames k (b ++ s ++ input)) count
      ∙ ap (frames (n + suc m)) (append_assoc b s input)
      ∙ W.onward (suc m) (s ++ input)
      ∙ ap (b ++◌) (one-whole s h m input)
      ∙ sym (append_assoc b s (frames m input));
}

one-cut : (s : List ℕ) → length s ≤ 2 + announced s → (m : ℕ) → frames (suc m) s ≡ s
one-cut s h m =
    let frame : first_frame s ≡ s = take_all (2 + announced s) s h in
    let later : later_sheets s ≡ [] = drop_of_length-le (drop 2 s) {i = announced s} (omega (arith, length-drop 2 s)) in
    rw (frame, later, frames-none m, append-nil s)

-- a last sheet, of which bytes may be lacking
pub whole-last : {n : ℕ} {b : List ℕ} (s : List ℕ) → Whole n b → length s ≤ 2 + announced s → (k : ℕ) → n < k → frames k (b ++ s) ≡ b ++ s
whole-last {n} {b} s W h k less =
    let count : k ≡ n + suc (k - n - 1) = omega arith in
    ap (λ i. frames i (b ++ s)) count
    ∙ W.onward (suc (k - n - 1)) s
    ∙ ap (b ++◌) (one-cut s h (k - n - 1))

pub whole_all : {n : ℕ} {b : List ℕ} → Whole n b → frames n b ≡ b
whole_all {n} {b} W = rw (add-zero n, append-nil b) at (W.onward 0 [])
