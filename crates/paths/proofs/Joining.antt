-- Class numbers renamed in place, and joined.
use Prim.Native.Nat.{ℕ, zero, suc, ◌+◌, ◌-◌, ◌<◌, ◌≤◌}
use mathlib.Core.Path.{◌≡◌, refl, sym, ap, ◌∙◌, subst}
use mathlib.Core.Bool.{Bool, true, false, cond}
use mathlib.Core.List.{List, [], ◌∷◌, ◌++◌, map}
use native.Mathlib.Omega.{arith}
use native.Mathlib.Nat.{add-zero, max-eq_left, max-eq_right, min-eq_left, min-eq_right}
use native.Mathlib.Numerals.{add-one}
use lib.ListN.{length, get_or, set, drop}
use lib.Seq.{ext_get_or}
use lib.Dec.{eqb}
use borrow.Author.Tests.{eqb-true}
use Rattle.meaning.specs.Lists.{range, upto, concat_map}
use Rattle.meaning.proofs.Tabulate.{rest_more, rest-done}
use Rattle.meaning.proofs.Lists.{upto-length, upto-get_or}
use Rattle.paths.specs.Table.{Filled}
use Rattle.std.specs.Prelude.{Option, unwrap_or}
use Rattle.paths.proofs.Chaining.{Ahead}
use Rattle.paths.specs.Classes.{join_classes, renamed_to, join_numbers, run_pairs, follower_pairs, RunsIn}

-- ---- a list mapped in place: its first i elements are
pub front : (ℕ → ℕ) → ℕ → List ℕ → List ℕ
front f zero l = l
front f (suc i) [] = []
front f (suc i) (x ∷ l) = f x ∷ front f i l

module _ (f : ℕ → ℕ) where
  pub front-none : (l : List ℕ) → l ≡ front f 0 l
  unfolding front
  front-none l = refl

  front_at : (i : ℕ) (l : List ℕ) → get_or (front f i l) i 0 ≡ get_or l i 0
  unfolding front
  front_at zero l = refl
  front_at (suc i) [] = refl
  front_at (suc i) (x ∷ l) = front_at i l

  front-suc : (i : ℕ) (l : List ℕ) → i < length l → set (front f i l) i (f (get_or l i 0)) ≡ front f (suc i) l
  unfolding front
  front-suc i [] h = absurd (omega arith)
  front-suc zero (x ∷ l) h = refl
  front-suc (suc i) (x ∷ l) h = ap (λ (m : List ℕ). f x ∷ m) (front-suc i l (omega arith))

  pub front-more : (i v : ℕ) (l m : List ℕ) → i < length l → m ≡ front f i l → v ≡ f (get_or m i 0) → set m i v ≡ front f (i + 1) l
  front-more i v l m h e q = rw (q, e, add-one i, front_at i l) (front-suc i l h)

  pub front-all : (i : ℕ) (l : List ℕ) → length l ≤ i → front f i l ≡ map f l
  unfolding front
  front-all zero [] h = refl
  front-all zero (x ∷ l) h = absurd (omega arith)
  front-all (suc i) [] h = refl
  front-all (suc i) (x ∷ l) h = ap (λ (m : List ℕ). f x ∷ m) (front-all i l (omega arith))

-- every path a class of its own
pub own-numbers : {n : ℕ} {l : List ℕ} → Filled n (λ i. i) n l → l ≡ upto n
own-numbers {n} {l} f = ext_get_or 0 l (upto n) (f.long ∙ sym (upto-length n)) (λ i h. let k : i < n = omega (arith, f.long) in f.each i k ∙ sym (upto-get_or n i 0 k))

-- ---- two classes joined, by which of the two numbers is the lower
module _ (x y : ℕ) (l : List ℕ) where
  pub join-lower : x ≤ y → map (renamed_to y x) l ≡ join_classes x y l
  join-lower h = rw (max-eq_right h, min-eq_left h)

  pub join-upper : y ≤ x → map (renamed_to x y) l ≡ join_classes x y l
  join-upper h = rw (max-eq_left h, min-eq_right h)

-- a class joined with itself
pub join-same : (x y : ℕ) (l : List ℕ) → x ≡ y → join_classes x y l ≡ l
join-same x y l e = let h : y ≤ x = omega arith in sym (join-upper x y l h) ∙ each l
  where
    one : (z : ℕ) (b : Bool) → eqb z x ≡ b → cond b y z ≡ z
    one z true p = let q = eqb-true z x p in omega arith
    one z false p = refl

    each : (l : List ℕ) → map (renamed_to x y) l ≡ l
    each [] = refl
    each (z ∷ l) = rw (each l) (ap (λ (w : ℕ). w ∷ l) (one z (eqb z x) refl))

-- ---- pairs in turn
join-append : (xs ys : List (ℕ × ℕ)) (l : List ℕ) → join_numbers (xs ++ ys) l ≡ join_numbers ys (join_numbers xs l)
join-append [] ys l = refl
join-append (x ∷ xs) ys l = join-append xs ys (join_classes (get_or l x.0 0) (get_or l x.1 0) l)

-- j pairs of a run are joined
pub record Run (a b n : ℕ) (l : List ℕ) (j : ℕ) (m : List ℕ) : Type 0 where
  pub some : j ≤ n
  pub so : join_numbers (run_pairs a b n) l ≡ join_numbers (drop j (run_pairs a b n)) m

pub run-start : (a b n : ℕ) (l : List ℕ) → Run a b n l 0 l
run-start a b n l = record { some = omega arith; so = refl }

module _ {a b n j : ℕ} {l m : List ℕ} (r : Run a b n l j m) where
  pub run_more : j < n → {k : List ℕ} → k ≡ join_classes (get_or m (a + j) 0) (get_or m (b + j) 0) m → Run a b n l (j + 1) k
  run_more h e = record { some = omega arith; so = r.so ∙ rw (rest_more {A = ℕ × ℕ} (λ i. (a + i, b + i)) n j h, e) }

  pub run-done : n ≤ j → m ≡ join_numbers (run_pairs a b n) l
  run-done h = sym (r.so ∙ rw (rest-done {A = ℕ × ℕ} (λ i. (a + i, b + i)) n j h))

-- nothing follows nothing
followers-none : (first : List ℕ) (d a b : ℕ) → follower_pairs first a b 0 d ≡ []
followers-none first zero a b = refl
followers-none first (suc d) a b =
    let z : get_or first (a + 0) 0 - get_or first a 0 ≡ 0 = omega (arith, ap (λ (x : ℕ). get_or first x 0) (add-zero a)) in
    ap (λ (n : ℕ). follower_pairs first (get_or first a 0) (get_or first b 0) n d) z ∙ followers-none first d (get_or first a 0) (get_or first b 0)

-- d lengths of what follows paths a and b are left to join: n paths from x on and n from y on come next
pub record Followers (first : List ℕ) (a b depth : ℕ) (l : List ℕ) (x y n d : ℕ) (m : List ℕ) : Type 0 where
  pub so : join_numbers (follower_pairs first a b 1 depth) l ≡ join_numbers (follower_pairs first x y n d) m
  pub runs : RunsIn first x y n d

module _ (first : List ℕ) (a b n : ℕ) where
  pairs-down : (d : ℕ) → 0 < d → follower_pairs first a b n d ≡ run_pairs a b n ++ follower_pairs first (get_or first a 0) (get_or first b 0) (get_or first (a + n) 0 - get_or first a 0) (d - 1)
  pairs-down zero h = absurd (omega arith)
  pairs-down (suc d) h = let z : d ≡ suc d - 1 = omega arith in ap (λ (k : ℕ). run_pairs a b n ++ follower_pairs first (get_or first a 0) (get_or first b 0) (get_or first (a + n) 0 - get_or first a 0) k) z

  pub runs-down : (d : ℕ) → 0 < d → RunsIn first a b n d → (a + n ≤ 256) × (b + n ≤ 256) × (get_or first a 0 ≤ get_or first (a + n) 0) × RunsIn first (get_or first a 0) (get_or first b 0) (get_or first (a + n) 0 - get_or first a 0) (d - 1)
  runs-down zero h r = absurd (omega arith)
  runs-down (suc d) h r = let z : d ≡ suc d - 1 = omega arith in (r.0, r.1, r.2, subst (RunsIn first (get_or first a 0) (get_or first b 0) (get_or first (a + n) 0 - get_or first a 0)) z r.3)

module _ {first : List ℕ} {a b depth x y n d : ℕ} {l m : List ℕ} (f : Followers first a b depth l x y n d m) where
  pub followers-more : 0 < d → {k : List ℕ} → k ≡ join_numbers (run_pairs x y n) m → Followers first a b depth l (get_or first x 0) (get_or first y 0) (get_or first (x + n) 0 - get_or first x 0) (d - 1) k
  followers-more h {k} e =
      let rest = follower_pairs first (get_or first x 0) (get_or first y 0) (get_or first (x + n) 0 - get_or first x 0) (d - 1) in
      record {
        so = f.so ∙ ap (λ (xs : List (ℕ × ℕ)). join_numbers xs m) (pairs-down first x y n d h) ∙ join-append (run_pairs x y n) rest m ∙ ap (join_numbers rest) (sym e);
        runs = (runs-down first x y n d h f.runs).3;
      }

  pub followers-end : n ≡ 0 → m ≡ join_numbers (follower_pairs first a b 1 depth) l
  followers-end e = sym (f.so ∙ ap (λ (k : ℕ). join_numbers (follower_pairs first x y k d) m) e ∙ ap (λ (xs : List (ℕ × ℕ)). join_numbers xs m) (followers-none first d x y))

  pub followers-done : d ≤ 0 → m ≡ join_numbers (follower_pairs first a b 1 depth) l
  followers-done h = let z : d ≡ 0 = omega arith in sym (f.so ∙ ap (λ (k : ℕ). join_numbers (follower_pairs first x y n k) m) z)

-- ---- lists of pairs in turn: those of the first i numbers are joined
pub record Turns (F : ℕ → List (ℕ × ℕ)) (n : ℕ) (l : List ℕ) (i : ℕ) (m : List ℕ) : Type 0 where
  pub some : i ≤ n
  pub so : join_numbers (concat_map F (upto n)) l ≡ join_numbers (concat_map F (range i (n - i))) m

pub turns-start : (F : ℕ → List (ℕ × ℕ)) (n : ℕ) (l : List ℕ) → Turns F n l 0 l
turns-start F n l = record { some = omega arith; so = let z : n - 0 ≡ n = omega arith in rw z }

module _ {F : ℕ → List (ℕ × ℕ)} {n i : ℕ} {l m : List ℕ} (t : Turns F n l i m) where
  pub turns_more : i < n → {k : List ℕ} → k ≡ join_numbers (F i) m → Turns F n l (i + 1) k
  turns_more h {k} e =
      let z : n - i ≡ suc (n - (i + 1)) = omega arith in
      record { some = omega arith; so = t.so ∙ rw (z, e, add-one i) (join-append (F i) (concat_map F (range (suc i) (n - suc i))) m) }

  pub turns-done : n ≤ i → m ≡ join_numbers (concat_map F (upto n)) l
  turns-done h = let z : n - i ≡ 0 = omega arith in sym (t.so ∙ rw z)

-- no pairs from number i to number k
turns-to : {F : ℕ → List (ℕ × ℕ)} {n i k : ℕ} {l m : List ℕ} (d : ℕ) → i + d ≡ k → Turns F n l i m → k ≤ n → ((j : ℕ) → j < k → i ≤ j → F j ≡ []) → Turns F n l k m
turns-to {F} {n} {i} {k} {l} {m} zero e t h none = let z : i ≡ k = omega arith in subst (λ (x : ℕ). Turns F n l x m) z t
turns-to {F} {n} {i} {k} {l} {m} (suc d) e t h none =
    let less : i < k = omega arith in
    turns-to {i = i + 1} d (omega arith) (turns_more t (omega arith) (rw (none i less (omega arith)))) h (λ j a b. none j a (omega arith))

-- behind paths that end elsewhere there is nothing to join
pub turns_next : {F : ℕ → List (ℕ × ℕ)} {n i v : ℕ} {x : Option ℕ} {l m ends : List ℕ} → ((j : ℕ) → (get_or ends j 0 ≡ v → ⊥) → F j ≡ []) → Turns F n l i m → Ahead ends v i n x → Turns F n l (unwrap_or x n) m
turns_next {n} {i} {x = x} elsewhere t e = let h = e.later in turns-to (unwrap_or x n - i) (omega arith) t e.within (λ j x y. elsewhere j (e.none j x y))
