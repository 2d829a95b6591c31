-- Joined lists stored node by node, and column by column.
use Prim.Native.Nat.{ℕ, zero, suc, ◌+◌, ◌*◌, ◌≤◌, ◌<◌}
use mathlib.Core.Path.{◌≡◌, refl, sym, ap, ◌∙◌}
use mathlib.Core.Bool.{Bool}
use mathlib.Core.List.{List, [], ◌∷◌, Memᴰ}
use native.Mathlib.Omega.{arith}
use native.Mathlib.Nat.{not-suc-le-zero}
use native.Mathlib.Numerals.{add-one}
use native.Mathlib.Decide.{ℕ_discrete}
use borrow.Author.Count.{below_more}
use borrow.Author.Tests.{eq-eqb, ne_eqb}
use lib.ListN.{get_or}
use Rattle.meaning.specs.Lists.{upto, filter, head_or, sum_of}
use Rattle.meaning.proofs.Lists.{filter-of, of-upto}
use Rattle.schema.specs.Decoded.{front_of}
use Rattle.instance.proofs.Columns.{sum_of-more}
use Rattle.instance.specs.Stored.{Stored}
use Rattle.lifts.specs.Lifts.{joined_before}
use Rattle.sigma.specs.Joined.{JoinedStored, JoinedColumns}

-- ---- the rows before a node
module _ (node counts : List ℕ) (d : ℕ) where
  abbrev before : ℕ → ℕ
  before n = joined_before node counts d n

  pub before_more : (c : ℕ) → get_or node c 0 ≡ d → before (c + 1) ≡ before c + get_or counts c 0
  before_more c e = rw (add-one c, eq-eqb (get_or node c 0) d e)

  pub before-skip : (c : ℕ) → (get_or node c 0 ≡ d → ⊥) → before (c + 1) ≡ before c
  before-skip c e = rw (add-one c, ne_eqb (get_or node c 0) d e) (omega arith)

  before-grows : (n : ℕ) → (before n ≤ before (n + 1)) × (before (n + 1) ≤ before n + get_or counts n 0)
  before-grows n = elim (ℕ_discrete (get_or node n 0) d) [
    | yes e ↦ (omega (arith, before_more n e), omega (arith, before_more n e))
    | no e ↦ (omega (arith, before-skip n e), omega (arith, before-skip n e))
  ]

  -- the rows of a node over d stand below those of later nodes
  pub before-within : (n c : ℕ) → c < n → get_or node c 0 ≡ d → before c + get_or counts c 0 ≤ before n
  before-within zero c h e = absurd (not-suc-le-zero h)
  before-within (suc n) c h e =
      let g : before n ≤ before (suc n) = rw (add-one n) at (before-grows n).0 in
      elim (ℕ_discrete c n) [
        | yes q ↦
            let i : get_or node n 0 ≡ d = ap (λ (j : ℕ). get_or node j 0) (sym q) ∙ e in
            let k : before (suc n) ≡ before n + get_or counts n 0 = rw (add-one n) at (before_more n i) in
            rw q (omega arith)
        | no q ↦ omega (arith, before-within n c (omega arith) e)
      ]

  pub before-sum : (n : ℕ) → before n ≤ sum_of (front_of n counts)
  before-sum zero = omega arith
  before-sum (suc n) =
      let a : sum_of (front_of (suc n) counts) ≡ sum_of (front_of n counts) + get_or counts n 0 = rw (add-one n) at (sum_of-more n (λ i. get_or counts i 0)) in
      let b : before (suc n) ≤ before n + get_or counts n 0 = rw (add-one n) at (before-grows n).1 in
      omega (arith, before-sum n)

module _ (node counts : List ℕ) (d c : ℕ) where
  -- the rows of a node over d are among at most 512
  pub joined-room : (n : ℕ) → sum_of (front_of n counts) ≤ 512 → c < n → get_or node c 0 ≡ d → joined_before node counts d c + get_or counts c 0 ≤ 512
  joined-room n few l e = omega (arith, before-within node counts d n c l e, before-sum node counts d n)

  pub joined-few : sum_of (front_of c counts) ≤ 512 → joined_before node counts d c ≤ 512
  joined-few few = omega (arith, before-sum node counts d c)

-- ---- node by node
module _ {node counts : List ℕ} {d : ℕ} {g : ℕ → ℕ → ℕ} {base : ℕ} {l r : List ℕ} {c : ℕ} (u : JoinedStored node counts d c g base l r) where
  -- the rows of node c, stored from the place where they begin
  pub joined-turn : {p : ℕ} {q : List ℕ} → p ≡ base + joined_before node counts d c → get_or node c 0 ≡ d → Stored (g c) (get_or counts c 0) p r q → JoinedStored node counts d (c + 1) g base l q
  joined-turn {q = q} n e w =
      let v : Stored (g c) (get_or counts c 0) (base + joined_before node counts d c) r q = rw n at w in
      record {
        each = below_more (λ k. get_or node k 0 ≡ d → (x : ℕ) → x < get_or counts k 0 → get_or q (base + joined_before node counts d k + x) 0 ≡ g k x) c
            (λ k m i x h. v.below (base + joined_before node counts d k + x) (omega (arith, before-within node counts d c k m i)) ∙ u.each k m i x h)
            (λ i. v.each);
        below = λ k m. v.below k (omega arith) ∙ u.below k m;
        long = v.long ∙ u.long;
      }

  -- no rows, of a node that is not over d
  pub joined-skip : (get_or node c 0 ≡ d → ⊥) → JoinedStored node counts d (c + 1) g base l r
  joined-skip e = record {
    each = below_more (λ k. get_or node k 0 ≡ d → (x : ℕ) → x < get_or counts k 0 → get_or r (base + joined_before node counts d k + x) 0 ≡ g k x) c u.each (λ i. absurd (e i));
    below = u.below;
    long = u.long;
  }

-- ---- column by column
module _ {node counts home : List ℕ} {n k : ℕ} {g : ℕ → ℕ → ℕ → ℕ} {l r : List ℕ} (u : JoinedColumns node counts home n k g l r) where
  pub columns-more : {q : List ℕ} → sum_of (front_of n counts) ≤ 512 → JoinedStored node counts (get_or home k 0) n (g k) (512 * k) r q → JoinedColumns node counts home n (k + 1) g l q
  columns-more {q} few v = record {
    each = below_more (λ j. (c : ℕ) → c < n → get_or node c 0 ≡ get_or home j 0 → (x : ℕ) → x < get_or counts c 0 → get_or q (512 * j + joined_before node counts (get_or home j 0) c + x) 0 ≡ g j c x) k
        (λ j m c h e x i.
        v.below (512 * j + joined_before node counts (get_or home j 0) c + x) (omega (arith, before-within node counts (get_or home j 0) n c h e, before-sum node counts (get_or home j 0) n)) ∙ u.each j m c h e x i)
        v.each;
    long = v.long ∙ u.long;
  }

-- ---- the first of the numbers below n that pass a test, or 0
pub head_or-low : (n b : ℕ) (f : ℕ → Bool) → n ≤ b → 0 < b → head_or 0 (filter f (upto n)) < b
head_or-low n b f h z = go (filter f (upto n)) (λ x m. of-upto n (filter-of f (upto n) m).0)
  where
    go : (l : List ℕ) → ((x : ℕ) → Memᴰ x l → x < n) → head_or 0 l < b
    go [] k = z
    go (x ∷ l) k = omega (arith, k x (Memᴰ.head refl))
