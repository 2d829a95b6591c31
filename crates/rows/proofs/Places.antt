-- Numbers in a working array: taken out, moved down, and columns of them worked on one after the other.
use Prim.Native.Nat.{ℕ, suc, ◌+◌, ◌-◌, ◌*◌, ◌<◌, ◌≤◌}
use mathlib.Core.Path.{◌≡◌, refl, ap, ◌∙◌}
use mathlib.Core.Bool.{Bool, true, false}
use mathlib.Core.List.{List}
use native.Mathlib.Omega.{arith}
use borrow.Author.Count.{below_more}
use borrow.Author.Tests.{leb-true, leb-false}
use lib.Dec.{leb}
use borrow.Rule.Slice.PartMut.{put_mid}
use lib.ListN.{length, get_or, set, length-set}
use lib.Seq.{get_or-set_same, get_or-set_other}
use Rattle.instance.proofs.Storing.{put-here, put-other, put-length}
use Rattle.meaning.specs.Rows.{moved_down}
use Rattle.agreement.specs.Changes.{skipping}
use Rattle.rows.specs.Columns.{TakenOut, MovedDown}

-- ---- taken out: the places from x up to i hold what stood behind them
pub record Taking (l : List ℕ) (base x : ℕ) (r : List ℕ) (i : ℕ) : Type 0 where
  pub moved : (j : ℕ) → x ≤ j → j < i → get_or r (base + j) 0 ≡ get_or l (base + suc j) 0
  pub other : (k : ℕ) → ((j : ℕ) → x ≤ j → j < i → k ≡ base + j → ⊥) → get_or r k 0 ≡ get_or l k 0
  pub long : length r ≡ length l

pub taking-none : (l : List ℕ) (base x : ℕ) → Taking l base x l x
taking-none l base x = record { moved = λ j a b. absurd (omega arith); other = λ k h. refl; long = refl }

pub taking-more : {l : List ℕ} {base x : ℕ} {r : List ℕ} {i : ℕ} → Taking l base x r i → x ≤ i → base + i < length r → Taking l base x (set r (base + i) (get_or r (base + i + 1) 0)) (i + 1)
taking-more {l} {base} {x} {r} {i} u h room =
    let v = get_or r (base + i + 1) 0 in
    let next : v ≡ get_or l (base + suc i) 0 =
    ap (λ (k : ℕ). get_or r k 0) (let e : base + i + 1 ≡ base + suc i = omega arith in e) ∙ u.other (base + suc i) (λ j a b e. let z : base + suc i ≡ base + j = e in omega arith)
    in
    record {
      moved = λ j a b.
          below_more (λ k. x ≤ k → get_or (set r (base + i) v) (base + k) 0 ≡ get_or l (base + suc k) 0) i
          (λ k m q. get_or-set_other r (base + i) (base + k) v 0 (λ e. let z : base + k ≡ base + i = e in omega arith) ∙ u.moved k q m)
          (λ q. get_or-set_same r (base + i) v 0 room ∙ next) j b a;
      other = λ k g. get_or-set_other r (base + i) k v 0 (g i h (omega arith)) ∙ u.other k (λ j a b. g j a (omega arith));
      long = length-set r (base + i) v ∙ u.long;
    }

pub taking-done : {l : List ℕ} {base x : ℕ} {r : List ℕ} {n : ℕ} → Taking l base x r n → TakenOut l base n x r
taking-done {l} {base} {x} {r} {n} u = record {
  each = λ i h. go i h (leb x i) refl;
  other = λ k g. u.other k (λ j a b. g j b);
  long = u.long;
}
  where
    go : (i : ℕ) → i < n → (t : Bool) → leb x i ≡ t → get_or r (base + i) 0 ≡ get_or l (base + skipping x i) 0
    go i h true e = u.moved i (leb-true x i e) h ∙ rw e
    go i h false e = let m = leb-false x i e in u.other (base + i) (λ j a b q. let z : base + i ≡ base + j = q in omega arith) ∙ rw e

-- ---- moved down: n numbers from base on, which are put back as ys
pub moving : {l : List ℕ} (ys : List ℕ) {base n x : ℕ} → base + n ≤ length l → length ys ≡ n → ((i : ℕ) → i < n → get_or ys i 0 ≡ moved_down x (get_or l (base + i) 0)) → MovedDown l base n x (put_mid base (base + n - base) l ys)
moving {l} ys {base} {n} {x} h e each = record {
  each = λ i m. put-here l ys base n h e i m ∙ each i m;
  other = put-other l ys base n h e;
  long = put-length l ys base n h e;
}

-- ---- columns, 512 apart: the first k hold what g says, and what stands behind them is as it was
pub record Worked (rows : ℕ → ℕ) (g : ℕ → ℕ → ℕ) (k : ℕ) (l r : List ℕ) : Type 0 where
  pub each : (j : ℕ) → j < k → (x : ℕ) → x < rows j → get_or r (512 * j + x) 0 ≡ g j x
  pub rest : (p : ℕ) → 512 * k ≤ p → get_or r p 0 ≡ get_or l p 0
  pub long : length r ≡ length l
