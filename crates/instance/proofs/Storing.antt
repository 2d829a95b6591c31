-- Columns stored and copied number by number, and stored column by column.
use Prim.Native.Nat.{ℕ, ◌+◌, ◌-◌, ◌*◌, ◌≤◌, ◌<◌}
use mathlib.Core.Path.{◌≡◌, refl, ◌∙◌}
use mathlib.Core.List.{List}
use native.Mathlib.Omega.{arith}
use borrow.Author.Count.{below_none, below_more}
use lib.ListN.{length, get_or, set, take, drop, length-set}
use borrow.Rule.Slice.PartMut.{put_mid}
use borrow.Author.Rules.{rules}
use Rattle.std.proofs.lemmas.List.{places}
use native.Mathlib.Decide.{dec_lt}
use lib.Seq.{get_or-set_same, get_or-set_other}
use mathlib.Core.Logic.{◌⊎◌, inl, inr}
use Rattle.std.proofs.Common.{get_or-take, get_or-drop, length-take, length-drop}
use Rattle.meaning.proofs.Tabulate.{filled}
use Rattle.instance.specs.Stored.{Counts, Stored, Copied, ColumnsStored}

-- ---- at the front of an array of 16
pub counts-none : (g : ℕ → ℕ) (l : List ℕ) → length l ≡ 16 → Counts 0 g l
counts-none g l h = record { each = below_none _; long = h }

pub counts-more : {g : ℕ → ℕ} {c : ℕ} {l : List ℕ} {v : ℕ} → Counts c g l → c < 16 → v ≡ g c → Counts (c + 1) g (set l c v)
counts-more {g} {c} {l} {v} u h e = record {
  each = filled (λ k x. x ≡ g k) 0 l c (rw u.long h) e u.each;
  long = length-set l c v ∙ u.long;
}

pub counts-done : {g : ℕ → ℕ} {n c : ℕ} {l : List ℕ} → Counts c g l → n ≤ c → Counts n g l
counts-done u h = record { each = λ k m. u.each k (omega arith); long = u.long }

-- ---- from base on
pub stored-none : (g : ℕ → ℕ) (base : ℕ) (l : List ℕ) → Stored g 0 base l l
stored-none g base l = record { each = below_none _; below = λ k h. refl; long = refl }

pub stored_more : {g : ℕ → ℕ} {i base : ℕ} {l r : List ℕ} {v : ℕ} → Stored g i base l r → base + i < length r → v ≡ g i → Stored g (i + 1) base l (set r (base + i) v)
stored_more {g} {i} {base} {l} {r} {v} u h e = record {
  each = below_more (λ k. get_or (set r (base + i) v) (base + k) 0 ≡ g k) i
      (λ k m. get_or-set_other r (base + i) (base + k) v 0 (λ q. let z : base + k ≡ base + i = q in omega arith) ∙ u.each k m)
      (get_or-set_same r (base + i) v 0 h ∙ e);
  below = λ k m. get_or-set_other r (base + i) k v 0 (λ q. let z : k ≡ base + i = q in omega arith) ∙ u.below k m;
  long = length-set r (base + i) v ∙ u.long;
}

pub stored-done : {g : ℕ → ℕ} {n i base : ℕ} {l r : List ℕ} → Stored g i base l r → n ≤ i → Stored g n base l r
stored-done u h = record { each = λ k m. u.each k (omega arith); below = u.below; long = u.long }

-- ---- a part of a list, n numbers from base on, put back as ys
pub apart : (k base n : ℕ) → ((i : ℕ) → i < n → k ≡ base + i → ⊥) → (k < base) ⊎ (base + n ≤ k)
apart k base n g = elim (dec_lt k base) [
  | yes m ↦ inl m
  | no m ↦ elim (dec_lt k (base + n)) [ yes b ↦ absurd (g (k - base) (omega arith) (omega arith)) | no b ↦ inr (omega arith) ]
]

module _ (l ys : List ℕ) (base n : ℕ) (h : base + n ≤ length l) (e : length ys ≡ n) where
  pub put-here : (i : ℕ) → i < n → get_or (put_mid base (base + n - base) l ys) (base + i) 0 ≡ get_or ys i 0
  put-here i m = search (rules, places)

  pub put-other : (k : ℕ) → ((i : ℕ) → i < n → k ≡ base + i → ⊥) → get_or (put_mid base (base + n - base) l ys) k 0 ≡ get_or l k 0
  put-other k g = elim (apart k base n g) [ inl m ↦ search (rules, places) | inr m ↦ search (rules, places) ]

  pub put-length : length (put_mid base (base + n - base) l ys) ≡ length l
  put-length = search (rules, places)

-- ---- copied
pub copied_none : (list : List ℕ) (place base : ℕ) (l : List ℕ) → Copied list place 0 base l l
copied_none list place base l = record { each = below_none _; other = λ k h. refl; long = refl }

pub copied_more : {list : List ℕ} {place i base : ℕ} {l r : List ℕ} → Copied list place i base l r → base + i < length r → Copied list place (i + 1) base l (set r (base + i) (get_or list (place + i) 0))
copied_more {list} {place} {i} {base} {l} {r} u h =
    let v = get_or list (place + i) 0 in
    record {
      each = below_more (λ k. get_or (set r (base + i) v) (base + k) 0 ≡ get_or list (place + k) 0) i
          (λ k m. get_or-set_other r (base + i) (base + k) v 0 (λ q. let z : base + k ≡ base + i = q in omega arith) ∙ u.each k m)
          (get_or-set_same r (base + i) v 0 h);
      other = λ k g. get_or-set_other r (base + i) k v 0 (g i (omega arith)) ∙ u.other k (λ j m. g j (omega arith));
      long = length-set r (base + i) v ∙ u.long;
    }

pub copied-stored : {list : List ℕ} {place n base : ℕ} {l r : List ℕ} → Copied list place n base l r → Stored (λ i. get_or list (place + i) 0) n base l r
copied-stored {base = base} u = record { each = u.each; below = λ k h. u.other k (λ i m e. let z : k ≡ base + i = e in omega arith); long = u.long }

-- ---- column by column
pub columns-none : (rows : ℕ → ℕ) (g : ℕ → ℕ → ℕ) (l : List ℕ) → ColumnsStored 0 rows g l l
columns-none rows g l = record { each = below_none _; long = refl }

pub columns-more : {rows : ℕ → ℕ} {g : ℕ → ℕ → ℕ} {k : ℕ} {l r q : List ℕ} → ((j : ℕ) → j < k → rows j ≤ 512) → ColumnsStored k rows g l r → Stored (g k) (rows k) (512 * k) r q → ColumnsStored (k + 1) rows g l q
columns-more {rows} {g} {k} {l} {r} {q} few u v = record {
  each = below_more (λ j. (x : ℕ) → x < rows j → get_or q (512 * j + x) 0 ≡ g j x) k
      (λ j m x h. v.below (512 * j + x) (let z = few j m in omega arith) ∙ u.each j m x h)
      v.each;
  long = v.long ∙ u.long;
}

pub columns-done : {rows : ℕ → ℕ} {g : ℕ → ℕ → ℕ} {n k : ℕ} {l r : List ℕ} → ColumnsStored k rows g l r → n ≤ k → ColumnsStored n rows g l r
columns-done u h = record { each = λ j m. u.each j (omega arith); long = u.long }
