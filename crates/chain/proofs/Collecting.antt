-- The fronts of a path, collected from the whole path back to its start; and the edges behind a front, one by one.
use Prim.Native.Nat.{ℕ, zero, suc, ◌+◌, ◌-◌, ◌<◌, ◌≤◌}
use mathlib.Core.Path.{◌≡◌, refl, sym, ap, ◌∙◌, subst}
use mathlib.Core.Bool.{Bool, true, false}
use mathlib.Core.List.{List, [], ◌∷◌}
use native.Mathlib.Omega.{arith}
use lib.ListN.{length, get_or, set, length-set}
use lib.Seq.{get_or-set_same, get_or-set_other}
use lib.Dec.{eqb}
use borrow.Author.Tests.{eqb-true, eqb-false}
use Rattle.theory.specs.Numbering.{tabulate}
use Rattle.meaning.proofs.Tabulate.{tabulate-same, rest-count}
use Rattle.paths.specs.PathWalks.{walk_from, WalkIn}
use Rattle.chain.specs.Places.{ancestor, Prefixes, rest_edges}

-- ---- fronts

ancestor-more : (parent : List ℕ) (x k : ℕ) → ancestor parent x (suc k) ≡ get_or parent (ancestor parent x k) 0
ancestor-more parent x zero = refl
ancestor-more parent x (suc k) = ancestor-more parent (get_or parent x 0) k

-- of a path x of n edges the fronts with more than i edges stand in their places, and y is the one with i
pub record Collected (parent : List ℕ) (x n : ℕ) (l : List ℕ) (i y : ℕ) : Type 0 where
  pub taken : ℕ
  pub sum : i + taken ≡ n
  pub few : n ≤ 15
  pub long : length l ≡ 16
  pub low : y < 256
  pub here : y ≡ ancestor parent x taken
  pub each : (j k : ℕ) → j + k ≡ n → i < j → get_or l j 0 ≡ ancestor parent x k

module _ {parent : List ℕ} {x n : ℕ} where
  pub collected-start : (l : List ℕ) → n ≤ 15 → length l ≡ 16 → x < 256 → Collected parent x n l n x
  collected-start l f m b = record { taken = 0; sum = omega arith; few = f; long = m; low = b; here = refl; each = λ j k e h. absurd (omega arith) }

  module _ {l : List ℕ} {i y : ℕ} (u : Collected parent x n l i y) where
    stored : (j k : ℕ) → j + k ≡ n → i ≤ j → get_or (set l i y) j 0 ≡ ancestor parent x k
    stored j k e h = go (eqb j i) refl
      where
        go : (b : Bool) → eqb j i ≡ b → get_or (set l i y) j 0 ≡ ancestor parent x k
        go true q =
            let z : j ≡ i = eqb-true j i q in
            let w : u.taken ≡ k = omega (arith, u.sum) in
            ap (λ (m : ℕ). get_or (set l i y) m 0) z ∙ get_or-set_same l i y 0 (omega (arith, u.sum, u.few, u.long)) ∙ u.here ∙ ap (ancestor parent x) w
        go false q = let z : j ≡ i → ⊥ = eqb-false j i q in get_or-set_other l i j y 0 z ∙ u.each j k e (omega arith)

    pub collected-more : 0 < i → {z : ℕ} → z ≡ get_or parent y 0 → z < 256 → Collected parent x n (set l i y) (i - 1) z
    collected-more h {z} e b = record {
      taken = suc u.taken;
      sum = omega (arith, u.sum);
      few = u.few;
      long = length-set l i y ∙ u.long;
      low = b;
      here = e ∙ ap (λ (v : ℕ). get_or parent v 0) u.here ∙ sym (ancestor-more parent x u.taken);
      each = λ j k d g. stored j k d (omega arith);
    }

    pub collected-done : i ≤ 0 → {m : ℕ} → n ≡ m → Prefixes parent x m (set l 0 y)
    collected-done h {m} q =
        let z : i ≡ 0 = omega arith in
        record {
          each = λ j k e. ap (λ (v : ℕ). get_or (set l v y) j 0) (sym z) ∙ stored j k (e ∙ sym q) (omega arith);
          long = length-set l 0 y ∙ u.long;
        }

-- ---- the edges behind a front
module _ (last prefix : List ℕ) where
  rest_more : (i n : ℕ) → i < n → rest_edges last prefix i n ≡ get_or last (get_or prefix (i + 1) 0) 0 ∷ rest_edges last prefix (i + 1) n
  rest_more i n h =
      ap (λ (m : ℕ). tabulate m (λ j. get_or last (get_or prefix (i + suc j) 0) 0)) (rest-count n i h)
      ∙ ap (λ (l : List ℕ). get_or last (get_or prefix (i + 1) 0) 0 ∷ l)
      (tabulate-same (n - (i + 1)) (λ j g. let z : i + suc (suc j) ≡ i + 1 + suc j = omega arith in ap (λ (m : ℕ). get_or last (get_or prefix m 0) 0) z))

  rest-done : (i n : ℕ) → n ≤ i → rest_edges last prefix i n ≡ []
  rest-done i n h = let z : n - i ≡ 0 = omega arith in ap (λ (m : ℕ). tabulate m (λ j. get_or last (get_or prefix (i + suc j) 0) 0)) z

-- from path x on, the edges behind the first j lead to the same path as those behind the first i from path y on
pub record Walking (last first rank prefix : List ℕ) (i n y x j : ℕ) : Type 0 where
  pub some : j ≤ n
  pub few : n ≤ 15
  pub so : walk_from first rank y (rest_edges last prefix i n) ≡ walk_from first rank x (rest_edges last prefix j n)
  pub within : WalkIn first rank x (rest_edges last prefix j n)

module _ {last first rank prefix : List ℕ} {i n y : ℕ} where
  pub walking_start : n ≤ 15 → i ≤ n → WalkIn first rank y (rest_edges last prefix i n) → Walking last first rank prefix i n y y i
  walking_start f l w = record { some = l; few = f; so = refl; within = w }

  module _ {x j : ℕ} (u : Walking last first rank prefix i n y x j) where
    -- the next edge e, of the front r with one edge more
    module _ (less : j < n) {r e : ℕ} (front : r ≡ get_or prefix (j + 1) 0) (edge : e ≡ get_or last r 0) where
      next : rest_edges last prefix j n ≡ e ∷ rest_edges last prefix (j + 1) n
      next = rest_more last prefix j n less ∙ ap (λ (m : ℕ). m ∷ rest_edges last prefix (j + 1) n) (sym (edge ∙ ap (λ (m : ℕ). get_or last m 0) front))

      pub walking-in : WalkIn first rank x (e ∷ rest_edges last prefix (j + 1) n)
      walking-in = subst (WalkIn first rank x) next u.within

      pub walking-more : {z : ℕ} → z ≡ get_or first x 0 + get_or rank e 0 → Walking last first rank prefix i n y z (j + 1)
      walking-more {z} q = record { some = omega arith; few = u.few; so = u.so ∙ ap (walk_from first rank x) next ∙ ap (λ (m : ℕ). walk_from first rank m (rest_edges last prefix (j + 1) n)) (sym q); within = rw q walking-in.2 }

    pub walking-done : n ≤ j → x ≡ walk_from first rank y (rest_edges last prefix i n)
    walking-done h = sym (u.so ∙ ap (walk_from first rank x) (rest-done last prefix j n h))
