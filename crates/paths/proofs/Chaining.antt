-- Chains through a column, made from its last place to its first.
use Prim.Native.Nat.{ℕ, ◌+◌, ◌-◌, ◌<◌, ◌≤◌}
use mathlib.Core.Path.{◌≡◌, refl, sym, ◌∙◌, subst}
use mathlib.Core.Bool.{Bool, true, false}
use mathlib.Core.List.{List}
use native.Mathlib.Omega.{arith}
use lib.ListN.{length, get_or, set, replicate, get_or-replicate, length-set}
use lib.Seq.{get_or-set_same, get_or-set_other}
use lib.Dec.{eqb}
use borrow.Author.Tests.{eqb-true, eqb-false}
use Rattle.std.specs.Prelude.{Option, Some, None, unwrap_or}
use Rattle.paths.specs.Chains.{FirstAt, NextAt, Chained, next_place}

-- the places from place i on are chained, in arrays of l and of 16 entries
pub record Chaining (column : List ℕ) (n i l : ℕ) (next first : List (Option ℕ)) : Type 0 where
  pub some : i ≤ n
  pub chained : Chained column n i next first
  pub next_long : length next ≡ l
  pub first_long : length first ≡ 16

pub chaining-start : (column : List ℕ) (next : List (Option ℕ)) {first : List (Option ℕ)} (n : ℕ) → first ≡ replicate 16 None → Chaining column n n (length next) next first
chaining-start column next {first} n e = rw e (record {
  some = omega arith;
  chained = record {
    after = λ j a b. absurd (omega arith);
    begins = λ v l. rw (get_or-replicate {A = Option ℕ} 16 v None None l) (record { none = λ j a b. absurd (omega arith) });
  };
  next_long = refl;
  first_long = refl;
})

module _ {column : List ℕ} {next first : List (Option ℕ)} {n k l : ℕ} (i : ℕ) (c : Chaining column n k l next first) (at : k ≡ i + 1) (room : n ≤ l) (low : get_or column i 0 < 16) where
  abbrev node : ℕ
  node = get_or column i 0

  -- place i holds another number
  still : {v m : ℕ} → ((j : ℕ) → j < m → k ≤ j → get_or column j 0 ≡ v → ⊥) → (v ≡ node → ⊥) → (j : ℕ) → j < m → i ≤ j → get_or column j 0 ≡ v → ⊥
  still {v} {m} none other j a b = go (eqb j i) refl
    where
      go : (b : Bool) → eqb j i ≡ b → get_or column j 0 ≡ v → ⊥
      go true p q = let e : j ≡ i = eqb-true j i p in other (sym q ∙ rw e)
      go false p q = let e : j ≡ i → ⊥ = eqb-false j i p in none j a (omega arith) q

  skip : {v : ℕ} (x : Option ℕ) → NextAt column v k n x → (v ≡ node → ⊥) → NextAt column v i n x
  skip None s other = record { none = still s.none other }
  skip (Some x) s other = record { later = let h = s.later in omega arith; within = s.within; none = still s.none other; holds = s.holds }

  pub chaining-more : Chaining column n i l (set next i (get_or first node None)) (set first node (Some i))
  chaining-more = record {
    some = let s = c.some in omega arith;
    chained = record { after = λ j a b. after j a b (eqb j i) refl; begins = λ v l. begins v l (eqb v node) refl };
    next_long = length-set next i (get_or first node None) ∙ c.next_long;
    first_long = length-set first node (Some i) ∙ c.first_long;
  }
    where
      after : (j : ℕ) → i ≤ j → j < n → (b : Bool) → eqb j i ≡ b → NextAt column (get_or column j 0) (j + 1) n (get_or (set next i (get_or first node None)) j None)
      after j a b true p =
          let e : j ≡ i = eqb-true j i p in
          rw (e, get_or-set_same next i (get_or first node None) None (omega (arith, c.next_long))) (subst (λ (m : ℕ). NextAt column node m n (get_or first node None)) at (c.chained.begins node low))
      after j a b false p =
          let e : j ≡ i → ⊥ = eqb-false j i p in
          rw (get_or-set_other next i j (get_or first node None) None e) (c.chained.after j (omega arith) b)

      begins : (v : ℕ) → v < 16 → (b : Bool) → eqb v node ≡ b → NextAt column v i n (get_or (set first node (Some i)) v None)
      begins v l true p =
          let e : v ≡ node = eqb-true v node p in
          let s = c.some in
          rw (e, get_or-set_same first node (Some i) None (omega (arith, c.first_long))) (record { later = omega arith; within = omega arith; none = λ j a b. absurd (omega arith); holds = refl })
      begins v l false p =
          let e : v ≡ node → ⊥ = eqb-false v node p in
          rw (get_or-set_other first node v (Some i) None e) (skip (get_or first v None) (c.chained.begins v l) e)

-- the next place is found in the chains
pub next_place_lem : {column : List ℕ} {next first : List (Option ℕ)} {n v i : ℕ} → Chained column n 0 next first → v < 16 → i ≤ n → (0 < i → get_or column (i - 1) 0 ≡ v) → NextAt column v i n (next_place next first v i)
next_place_lem {column} {next} {first} {n} {v} {i} c low within came = go (eqb i 0) refl
  where
    go : (b : Bool) → eqb i 0 ≡ b → NextAt column v i n (next_place next first v i)
    go true p = let e : i ≡ 0 = eqb-true i 0 p in rw e (c.begins v low)
    go false p =
        let e : i ≡ 0 → ⊥ = eqb-false i 0 p in
        let z : i - 1 + 1 ≡ i = omega arith in
        let s : NextAt column (get_or column (i - 1) 0) (i - 1 + 1) n (get_or next (i - 1) None) = c.after (i - 1) (omega arith) (omega arith) in
        rw p (subst (λ (m : ℕ). NextAt column v m n (get_or next (i - 1) None)) z (subst (λ (u : ℕ). NextAt column u (i - 1 + 1) n (get_or next (i - 1) None)) (came (omega arith)) s))

pub first-at : {column : List ℕ} {v i n j k : ℕ} {x : Option ℕ} → NextAt column v i n x → x ≡ Some j → k ≡ j → FirstAt column v i n k
first-at {column} {v} {i} {n} s e q = subst (λ (m : ℕ). FirstAt column v i n m) (sym q) (subst (NextAt column v i n) e s)

-- up to the place found, or to the end, no place holds v; and the place found does
pub record Ahead (column : List ℕ) (v i n : ℕ) (x : Option ℕ) : Type 0 where
  pub later : i ≤ unwrap_or x n
  pub within : unwrap_or x n ≤ n
  pub none : (j : ℕ) → j < unwrap_or x n → i ≤ j → get_or column j 0 ≡ v → ⊥
  pub found : (k : ℕ) → x ≡ Some k → (k < n) × (get_or column k 0 ≡ v)

pub ahead : {column : List ℕ} {v i n : ℕ} (x : Option ℕ) → i ≤ n → NextAt column v i n x → Ahead column v i n x
ahead None h s = record { later = h; within = omega arith; none = s.none; found = λ k e. absurd (let z : ⊥ = cc in z) }
ahead {column} {v} {i} {n} (Some x) h s = record { later = s.later; within = let w = s.within in omega arith; none = s.none; found = λ k e. let z : x ≡ k = cc in subst (λ (m : ℕ). (m < n) × (get_or column m 0 ≡ v)) z (s.within, s.holds) }
