-- The fields that stand in a sheet: what is read stands there, what stands there is read, and packed fields stand in their bytes.
use Prim.Native.Nat.{ℕ, zero, suc, ◌+◌, ◌*◌, ◌^◌, ◌<◌, ◌≤◌}
use mathlib.Core.Path.{◌≡◌, refl, sym, ap, ◌∙◌, subst, subst₂}
use mathlib.Core.Bool.{Bool, true, false, cond}
use mathlib.Core.List.{List, [], ◌∷◌, ◌++◌, map}
use native.Mathlib.Omega.{arith}
use native.Mathlib.Nat.{add-zero, zero-add, add_assoc, mul-suc, mul-add}
use lib.ListN.{length, get_or}
use lib.Dec.{leb}
use borrow.Author.Tests.{le-leb, leb-true}
use Rattle.bits.specs.Field as bits
use Rattle.bits.specs.Field.{Bytes, bytes_for}
use Rattle.bits.specs.Pack.{total_width, widths, values, read_all, Fit, pack}
use Rattle.bits.proofs.Reading.{tail_ok-length}
use Rattle.bits.proofs.Packing.{length-pack, total_width-append, read_all-pack, pack-unique}
use Rattle.meaning.specs.Lists.{concat_map, sum_of}
use Rattle.meaning.specs.Sheet.{fails, reads, Reader, times, in_turn, field}
use Rattle.meaning.specs.Formats.{fields_of}
use Rattle.meaning.proofs.Readers.{reads-not-fails, reads_same, after-reads, Pointwise, ended, next}

-- ---- the fields fs stand in s from bit p to bit q
pub data FieldsAt (s : List ℕ) : ℕ → List (ℕ × ℕ) → ℕ → Type 0 where
  none : {p : ℕ} → FieldsAt s p [] p
  one : {p q : ℕ} {f : ℕ × ℕ} {fs : List (ℕ × ℕ)} → p + f.0 ≤ 8 * length s → bits.field s p f.0 ≡ f.1 → FieldsAt s (p + f.0) fs q → FieldsAt s p (f ∷ fs) q

pub record Split (s : List ℕ) (p : ℕ) (fs gs : List (ℕ × ℕ)) (r : ℕ) : Type 0 where
  pub seam : ℕ
  pub left : FieldsAt s p fs seam
  pub right : FieldsAt s seam gs r

module _ {s : List ℕ} where
  pub fields_at-append : {p q r : ℕ} {fs gs : List (ℕ × ℕ)} → FieldsAt s p fs q → FieldsAt s q gs r → FieldsAt s p (fs ++ gs) r
  fields_at-append none h = h
  fields_at-append (one l e t) h = one l e (fields_at-append t h)

  pub fields_at-split : {p r : ℕ} (fs : List (ℕ × ℕ)) {gs : List (ℕ × ℕ)} → FieldsAt s p (fs ++ gs) r → Split s p fs gs r
  fields_at-split [] h = record { seam = _; left = none; right = h }
  fields_at-split {p = p} (f ∷ fs) (one l e t) = let k = fields_at-split {p = p + f.0} fs t in record { seam = k.seam; left = one l e k.left; right = k.right }

  pub fields_at-end : {p q : ℕ} {fs : List (ℕ × ℕ)} → FieldsAt s p fs q → q ≡ p + total_width fs
  unfolding total_width
  fields_at-end none = omega arith
  fields_at-end (one l e t) = let h = fields_at-end t in omega arith

  fields_at-all : {p q : ℕ} {fs : List (ℕ × ℕ)} → FieldsAt s p fs q → read_all s p (widths fs) ≡ values fs
  unfolding read_all widths values
  fields_at-all none = refl
  fields_at-all (one l e t) = let h = fields_at-all t in cc

  all-fields_at : (p : ℕ) (fs : List (ℕ × ℕ)) → p + total_width fs ≤ 8 * length s → read_all s p (widths fs) ≡ values fs → FieldsAt s p fs (p + total_width fs)
  unfolding total_width read_all widths values
  all-fields_at p [] l e = rw add-zero none
  all-fields_at p (f ∷ fs) l e =
      let x : bits.field s p f.0 ≡ f.1 = cc in
      let xs : read_all s (p + f.0) (widths fs) ≡ values fs = cc in
      let h : p + f.0 ≤ 8 * length s = omega arith in
      one h x (rw (add_assoc p f.0 (total_width fs)) at (all-fields_at (p + f.0) fs (omega arith) xs))

-- ---- what is read stands there, and what stands there is read
module _ (s : List ℕ) (w : ℕ) where
  pub field-fields_at : (p : ℕ) {v q : ℕ} → field w s p ≡ reads v q → {fs : List (ℕ × ℕ)} {r : ℕ} → FieldsAt s q fs r → FieldsAt s p ((w, v) ∷ fs) r
  field-fields_at p e {fs} {r} h = go (leb (p + w) (8 * length s)) refl e h
    where
      go : (t : Bool) → leb (p + w) (8 * length s) ≡ t → {v q : ℕ} → cond t (reads (bits.field s p w) (p + w)) (fails 1) ≡ reads v q → FieldsAt s q fs r → FieldsAt s p ((w, v) ∷ fs) r
      go true l e h = one (leb-true (p + w) (8 * length s) l) (reads_same e).0 (subst (λ (q : ℕ). FieldsAt s q fs r) (sym (reads_same e).1) h)
      go false l e h = absurd (reads-not-fails e)

  pub fields_at-field : (p : ℕ) {v : ℕ} → p + w ≤ 8 * length s → bits.field s p w ≡ v → field w s p ≡ reads v (p + w)
  fields_at-field p l e = rw (le-leb (p + w) (8 * length s) l, e)

  pub times-fields_at : (n p : ℕ) {l : List ℕ} {q : ℕ} → times n (field w) s p ≡ reads l q → FieldsAt s p (fields_of w l) q
  times-fields_at zero p {l} {q} e =
      let r = reads_same e in
      subst₂ (λ (l : List ℕ) (q : ℕ). FieldsAt s p (fields_of w l) q) r.0 r.1 none
  times-fields_at (suc n) p {l} {q} e =
      let a = after-reads s (field w s p) _ e in
      let b = after-reads s (times n (field w) s a.behind) _ a.rest in
      let r = reads_same b.rest in
      subst₂ (λ (l : List ℕ) (q : ℕ). FieldsAt s p (fields_of w l) q) r.0 r.1 (field-fields_at p a.first (times-fields_at n a.behind b.first))

  pub fields_at-times : (p : ℕ) (l : List ℕ) {q : ℕ} → FieldsAt s p (fields_of w l) q → times (length l) (field w) s p ≡ reads l q
  fields_at-times p [] none = refl
  fields_at-times p (v ∷ l) (one h e t) = rw (fields_at-field p h e, fields_at-times (p + w) l t)

  module _ {A : Type 0} (need : A → ℕ) where
    abbrev pub lists : List A → Reader (List (List ℕ))
    lists = in_turn (λ x. times (need x) (field w))

    pub turn-fields_at : (xs : List A) (p : ℕ) {ls : List (List ℕ)} {q : ℕ} → lists xs s p ≡ reads ls q → FieldsAt s p (concat_map (fields_of w) ls) q
    turn-fields_at [] p {ls} {q} e =
        let r = reads_same e in
        subst₂ (λ (ls : List (List ℕ)) (q : ℕ). FieldsAt s p (concat_map (fields_of w) ls) q) r.0 r.1 none
    turn-fields_at (x ∷ xs) p {ls} {q} e =
        let a = after-reads s (times (need x) (field w) s p) _ e in
        let b = after-reads s (lists xs s a.behind) _ a.rest in
        let r = reads_same b.rest in
        subst₂ (λ (ls : List (List ℕ)) (q : ℕ). FieldsAt s p (concat_map (fields_of w) ls) q) r.0 r.1
        (fields_at-append (times-fields_at (need x) p a.first) (turn-fields_at xs a.behind b.first))

    pub fields_at-turn : (p : ℕ) {xs : List A} {ls : List (List ℕ)} {q : ℕ} → Pointwise (λ x l. length l ≡ need x) xs ls → FieldsAt s p (concat_map (fields_of w) ls) q → lists xs s p ≡ reads ls q
    fields_at-turn p ended none = refl
    fields_at-turn p (next {x} {y = l} {xs} {ys = ls} h t) k =
        let m = fields_at-split (fields_of w l) k in
        rw (← h, fields_at-times p l m.left, fields_at-turn m.seam t m.right)

-- things in turn, each with its fields
module _ (s : List ℕ) {A : Type 0} (m : Reader A) (fields : A → List (ℕ × ℕ)) where
  pub many-fields_at : ((p : ℕ) (a : A) (q : ℕ) → m s p ≡ reads a q → FieldsAt s p (fields a) q) → (n p : ℕ) {l : List A} {q : ℕ} → times n m s p ≡ reads l q → FieldsAt s p (concat_map fields l) q
  many-fields_at M zero p {l} {q} e =
      let r = reads_same e in
      subst₂ (λ (l : List A) (q : ℕ). FieldsAt s p (concat_map fields l) q) r.0 r.1 none
  many-fields_at M (suc n) p {l} {q} e =
      let a = after-reads s (m s p) _ e in
      let b = after-reads s (times n m s a.behind) _ a.rest in
      let r = reads_same b.rest in
      subst₂ (λ (l : List A) (q : ℕ). FieldsAt s p (concat_map fields l) q) r.0 r.1 (fields_at-append (M p a.thing a.behind a.first) (many-fields_at M n a.behind b.first))

  pub fields_at-many : ((p : ℕ) (a : A) (q : ℕ) → FieldsAt s p (fields a) q → m s p ≡ reads a q) → (p : ℕ) (l : List A) {q : ℕ} → FieldsAt s p (concat_map fields l) q → times (length l) m s p ≡ reads l q
  fields_at-many M p [] none = refl
  fields_at-many M p (a ∷ l) k =
      let h = fields_at-split (fields a) k in
      rw (M p a h.seam h.left, fields_at-many M h.seam l h.right)

-- ---- packed fields
pub fit_append : (fs gs : List (ℕ × ℕ)) → Fit fs → Fit gs → Fit (fs ++ gs)
fit_append [] gs h k = k
fit_append (f ∷ fs) gs h k = (h.0, fit_append fs gs h.1 k)

pub fit-fields : (w : ℕ) (l : List ℕ) → ((i : ℕ) → get_or l i 0 < 2 ^ w) → Fit (fields_of w l)
fit-fields w [] h = tt
fit-fields w (v ∷ l) h = (h 0, fit-fields w l (λ i. h (suc i)))

pub fit-lists : (w : ℕ) (ls : List (List ℕ)) → ((i j : ℕ) → get_or (get_or ls i []) j 0 < 2 ^ w) → Fit (concat_map (fields_of w) ls)
fit-lists w [] h = tt
fit-lists w (l ∷ ls) h = fit_append (fields_of w l) (concat_map (fields_of w) ls) (fit-fields w l (h 0)) (fit-lists w ls (λ i. h (suc i)))

pub pack-fields_at : (fs : List (ℕ × ℕ)) → Fit fs → FieldsAt (pack fs) 0 fs (total_width fs)
pack-fields_at fs h = rw zero-add at (all-fields_at 0 fs (omega (arith, length-pack fs)) (read_all-pack fs h))

pub fields_at-pack : (s : List ℕ) {fs : List (ℕ × ℕ)} {q : ℕ} → Bytes s → FieldsAt s 0 fs q → bits.tail_ok s q ≡ true → s ≡ pack fs
fields_at-pack s {fs} {q} b h t =
    let e : q ≡ total_width fs = fields_at-end h ∙ zero-add (total_width fs) in
    sym (pack-unique s fs b (subst (λ (q : ℕ). bits.tail_ok s q ≡ true) e t) (fields_at-all h))

pub fields_at-length : (s : List ℕ) {fs : List (ℕ × ℕ)} {q : ℕ} → FieldsAt s 0 fs q → bits.tail_ok s q ≡ true → length s ≡ length (pack fs)
fields_at-length s {fs} {q} h t =
    let e : q ≡ total_width fs = fields_at-end h ∙ zero-add (total_width fs) in
    tail_ok-length s q t ∙ ap bytes_for e ∙ sym (length-pack fs)

-- ---- widths
pub fields_of-width : (w : ℕ) (l : List ℕ) → total_width (fields_of w l) ≡ w * length l
unfolding total_width
fields_of-width w [] = omega arith
fields_of-width w (v ∷ l) = let h = fields_of-width w l in omega (arith, mul-suc w (length l))

pub width-lists : (w : ℕ) (ls : List (List ℕ)) → total_width (concat_map (fields_of w) ls) ≡ w * sum_of (map length ls)
unfolding total_width
width-lists w [] = omega arith
width-lists w (l ∷ ls) =
    let h = width-lists w ls in
    let k = fields_of-width w l in
    total_width-append (fields_of w l) (concat_map (fields_of w) ls) ∙ omega (arith, mul-add w (length l) (sum_of (map length ls)))

pub sum_below : (b : ℕ) (ls : List (List ℕ)) → ((i : ℕ) → length (get_or ls i []) ≤ b) → sum_of (map length ls) ≤ b * length ls
sum_below b [] h = omega arith
sum_below b (l ∷ ls) h = let k = sum_below b ls (λ i. h (suc i)) in omega (arith, h 0, mul-suc b (length ls))

pub bytes-within : (b n : ℕ) → n ≤ 8 * b → bytes_for n ≤ b
bytes-within b n h = omega arith
