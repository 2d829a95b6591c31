-- Levels marked in a list: what is marked there, what stays, and the loops that mark.
use Prim.Native.Nat.{ℕ, zero, suc, ◌+◌, ◌-◌, ◌<◌, ◌≤◌}
use mathlib.Core.Path.{◌≡◌, refl, sym, ap, ◌∙◌, subst}
use mathlib.Core.Bool.{Bool, true, false, cond, ◌&&◌}
use mathlib.Core.List.Memᴰ
use mathlib.Core.List.{List, [], ◌∷◌, ◌++◌, Memᴰ}
use mathlib.Core.Logic.{◌⊎◌, inl, inr}
use native.Mathlib.Omega.{arith}
use native.Mathlib.Decide.{ℕ_discrete, dec_lt}
use native.Mathlib.Numerals.{add-one}
use lib.ListN.{length, get_or, set, drop, length-set}
use lib.Seq.{get_or-set_same, get_or-set_other}
use lib.Dec.{ltb, eqb}
use borrow.Author.Tests.{ltb-true, ltb-false, eqb-true, eqb-false, eq-eqb, ne_eqb}
use Rattle.theory.specs.Numbering.{tabulate}
use Rattle.meaning.specs.Lists.{range, upto, concat_map}
use Rattle.meaning.specs.Schema.{Schema}
use Rattle.meaning.proofs.Tabulate.{rest_more, rest-done}
use Rattle.chain.specs.Levels.{mark, mark_all, path_steps, level}

-- ---- one path

module _ (k y : ℕ) (l : List ℕ) where
  -- y is a path and of no level, and is put into level k; or nothing is done
  abbrev pub Cases : List ℕ → Type 0
  Cases m = ((y < 256) × (get_or l y 0 ≡ 256) × (m ≡ set l y k)) ⊎ ((y < 256 → get_or l y 0 ≡ 256 → ⊥) × (m ≡ l))

  pub mark-cases : Cases (mark k y l)
  mark-cases = go (ltb y 256) (eqb (get_or l y 0) 256) refl refl
    where
      go : (a b : Bool) → ltb y 256 ≡ a → eqb (get_or l y 0) 256 ≡ b → Cases (cond (a && b) (set l y k) l)
      go true true e f = inl (ltb-true y 256 e, eqb-true (get_or l y 0) 256 f, refl)
      go true false e f = inr (λ h q. eqb-false (get_or l y 0) 256 f q, refl)
      go false b e f = inr (λ h q. omega (arith, ltb-false y 256 e), refl)

  pub mark-new : y < 256 → get_or l y 0 ≡ 256 → set l y k ≡ mark k y l
  mark-new h e = go mark-cases
    where
      go : {m : List ℕ} → Cases m → set l y k ≡ m
      go (inl c) = sym c.2
      go (inr c) = absurd (c.0 h e)

  pub mark-none : (y < 256 → get_or l y 0 ≡ 256 → ⊥) → l ≡ mark k y l
  mark-none h = go mark-cases
    where
      go : {m : List ℕ} → Cases m → l ≡ m
      go (inl c) = absurd (h c.0 c.1)
      go (inr c) = sym c.1

  -- a marked path is of a level
  mark-there : length l ≡ 256 → k < 256 → y < 256 → get_or (mark k y l) y 0 ≡ 256 → ⊥
  mark-there n b h = go mark-cases
    where
      go : {m : List ℕ} → Cases m → get_or m y 0 ≡ 256 → ⊥
      go (inl c) e = let g = ap (λ (m : List ℕ). get_or m y 0) c.2 ∙ get_or-set_same l y k 0 (omega arith) in omega arith
      go (inr c) e = c.0 h (ap (λ (m : List ℕ). get_or m y 0) (sym c.1) ∙ e)

-- ---- what is of a level stays there

record Grown (l m : List ℕ) : Type 0 where
  long : length m ≡ length l
  kept : (z : ℕ) → (get_or l z 0 ≡ 256 → ⊥) → get_or m z 0 ≡ get_or l z 0

grown-same : (l : List ℕ) → Grown l l
grown-same l = record { long = refl; kept = λ z h. refl }

grown-more : {l m o : List ℕ} → Grown l m → Grown m o → Grown l o
grown-more a b = record { long = b.long ∙ a.long; kept = λ z h. b.kept z (λ e. h (sym (a.kept z h) ∙ e)) ∙ a.kept z h }

mark-grown : (k y : ℕ) (l : List ℕ) → Grown l (mark k y l)
mark-grown k y l = go (mark-cases k y l)
  where
    go : {m : List ℕ} → Cases k y l m → Grown l m
    go (inl c) = rw c.2 (record { long = length-set l y k; kept = λ z h. at z h (ℕ_discrete z y) })
      where
        at : (z : ℕ) → (get_or l z 0 ≡ 256 → ⊥) → Dec (z ≡ y) → get_or (set l y k) z 0 ≡ get_or l z 0
        at z h (yes e) = absurd (h (ap (λ (i : ℕ). get_or l i 0) e ∙ c.1))
        at z h (no e) = get_or-set_other l y z k 0 e
    go (inr c) = rw c.1 (grown-same l)

mark_all-grown : (k : ℕ) (ys l : List ℕ) → Grown l (mark_all k ys l)
mark_all-grown k [] l = grown-same l
mark_all-grown k (y ∷ ys) l = grown-more (mark-grown k y l) (mark_all-grown k ys (mark k y l))

mark_all-there : (k y : ℕ) (ys l : List ℕ) → Memᴰ y ys → length l ≡ 256 → k < 256 → y < 256 → get_or (mark_all k ys l) y 0 ≡ 256 → ⊥
mark_all-there k y [] l m n b h = absurd (Memᴰ.not-nil m)
mark_all-there k y (x ∷ ys) l m n b h = go (λ i. mark_all-there k y ys (mark k x l) i ((mark-grown k x l).long ∙ n) b h) (Memᴰ.cases_cons m)
  where
    go : (Memᴰ y ys → get_or (mark_all k ys (mark k x l)) y 0 ≡ 256 → ⊥) → (y ≡ x) ⊎ Memᴰ y ys → get_or (mark_all k ys (mark k x l)) y 0 ≡ 256 → ⊥
    go below (inl q) e =
        let t : get_or (mark k x l) y 0 ≡ 256 → ⊥ = subst (λ (w : ℕ). get_or (mark k w l) y 0 ≡ 256 → ⊥) q (mark-there k y l n b h) in
        t (sym ((mark_all-grown k ys (mark k x l)).kept y t) ∙ e)
    go below (inr i) e = below i e

-- what each mark keeps
pub mark_all-keeps : (P : List ℕ → Type 0) (k : ℕ) (ys : List ℕ) → ((y : ℕ) → Memᴰ y ys → (l : List ℕ) → P l → P (mark k y l)) → (l : List ℕ) → P l → P (mark_all k ys l)
mark_all-keeps P k [] h l p = p
mark_all-keeps P k (y ∷ ys) h l p = mark_all-keeps P k ys (λ x m. h x (Memᴰ.tail m)) (mark k y l) (h y (Memᴰ.head refl) l p)

pub mark_all-append : (k : ℕ) (xs ys l : List ℕ) → mark_all k (xs ++ ys) l ≡ mark_all k ys (mark_all k xs l)
mark_all-append k [] ys l = refl
mark_all-append k (x ∷ xs) ys l = mark_all-append k xs ys (mark k x l)

-- ---- a level

module _ (S : Schema) (k : ℕ) where
  -- one path more: of level k, or not
  level-of : (n : ℕ) (l : List ℕ) → get_or (level S k n l) n 0 ≡ k → level S k (suc n) l ≡ mark_all (suc k) (path_steps S n) (level S k n l)
  level-of n l e = rw (eq-eqb (get_or (level S k n l) n 0) k e)

  level-other : (n : ℕ) (l : List ℕ) → (get_or (level S k n l) n 0 ≡ k → ⊥) → level S k (suc n) l ≡ level S k n l
  level-other n l h = rw (ne_eqb (get_or (level S k n l) n 0) k h)

  -- what the marks of each path of level k keep
  pub level-keeps : (P : List ℕ → Type 0) (n : ℕ) → ((x : ℕ) → x < n → (l : List ℕ) → get_or l x 0 ≡ k → P l → P (mark_all (suc k) (path_steps S x) l)) → (l : List ℕ) → P l → P (level S k n l)
  level-keeps P zero h l p = p
  level-keeps P (suc n) h l p = go (level-keeps P n (λ x b. h x (omega arith)) l p) (ℕ_discrete (get_or (level S k n l) n 0) k)
    where
      go : P (level S k n l) → Dec (get_or (level S k n l) n 0 ≡ k) → P (level S k (suc n) l)
      go below (yes e) = subst P (sym (level-of n l e)) (h n (omega arith) (level S k n l) e below)
      go below (no e) = subst P (sym (level-other n l e)) below

  level-grown : (n : ℕ) (l : List ℕ) → Grown l (level S k n l)
  level-grown n l = level-keeps (λ m. Grown l m) n (λ x b m e g. grown-more g (mark_all-grown (suc k) (path_steps S x) m)) l (grown-same l)

  -- behind a path of level k all paths are of a level
  pub level-there : k < 255 → (n x y : ℕ) (l : List ℕ) → length l ≡ 256 → x < n → get_or l x 0 ≡ k → Memᴰ y (path_steps S x) → y < 256 → get_or (level S k n l) y 0 ≡ 256 → ⊥
  level-there b zero x y l w h e m i = absurd (omega arith)
  level-there b (suc n) x y l w h e m i = go (λ a. level-there b n x y l w a e m i) (dec_lt x n) (ℕ_discrete (get_or M n 0) k)
    where
      M : List ℕ
      M = level S k n l

      at : {o : List ℕ} → level S k (suc n) l ≡ o → get_or (level S k (suc n) l) y 0 ≡ 256 → get_or o y 0 ≡ 256
      at f q = ap (λ (o : List ℕ). get_or o y 0) (sym f) ∙ q

      go : (x < n → get_or M y 0 ≡ 256 → ⊥) → Dec (x < n) → Dec (get_or M n 0 ≡ k) → get_or (level S k (suc n) l) y 0 ≡ 256 → ⊥
      go below (yes a) (yes f) q = below a (sym ((mark_all-grown (suc k) (path_steps S n) M).kept y (below a)) ∙ at (level-of n l f) q)
      go below (yes a) (no f) q = below a (at (level-other n l f) q)
      go below (no a) (yes f) q =
          let z : x ≡ n = omega arith in
          mark_all-there (suc k) y (path_steps S n) M (subst (λ (z : ℕ). Memᴰ y (path_steps S z)) z m) ((level-grown n l).long ∙ w) (omega arith) i (at (level-of n l f) q)
      go below (no a) (no f) q = let z : x ≡ n = omega arith in f (ap (λ (z : ℕ). get_or M z 0) (sym z) ∙ (level-grown n l).kept x (λ u. omega arith) ∙ e)

-- the paths below x are looked at
pub record Levelled (S : Schema) (k n : ℕ) (l : List ℕ) (x : ℕ) (m : List ℕ) : Type 0 where
  pub some : x ≤ n
  pub so : m ≡ level S k x l

pub levelled-start : (S : Schema) (k n : ℕ) (l : List ℕ) → Levelled S k n l 0 l
levelled-start S k n l = record { some = omega arith; so = refl }

module _ {S : Schema} {k n x : ℕ} {l m : List ℕ} (r : Levelled S k n l x m) where
  pub levelled-of : x < n → get_or m x 0 ≡ k → {o : List ℕ} → o ≡ mark_all (k + 1) (path_steps S x) m → Levelled S k n l (x + 1) o
  levelled-of h e f = record { some = omega arith; so = f ∙ rw (add-one k, add-one x, r.so) (sym (level-of S k x l (ap (λ (o : List ℕ). get_or o x 0) (sym r.so) ∙ e))) }

  pub levelled-other : x < n → (get_or m x 0 ≡ k → ⊥) → Levelled S k n l (x + 1) m
  levelled-other h e = record { some = omega arith; so = r.so ∙ rw (add-one x) (sym (level-other S k x l (λ q. e (ap (λ (o : List ℕ). get_or o x 0) r.so ∙ q)))) }

  pub levelled-done : n ≤ x → m ≡ level S k n l
  levelled-done h = let i = r.some in let z : x ≡ n = omega arith in r.so ∙ ap (λ (i : ℕ). level S k i l) z

-- ---- marks in turn: b of n are made
pub record Places (f : ℕ → ℕ) (n k : ℕ) (l : List ℕ) (b : ℕ) (m : List ℕ) : Type 0 where
  pub some : b ≤ n
  pub so : mark_all k (tabulate n f) l ≡ mark_all k (drop b (tabulate n f)) m

pub places-start : (f : ℕ → ℕ) (n k : ℕ) (l : List ℕ) → Places f n k l 0 l
places-start f n k l = record { some = omega arith; so = refl }

module _ {f : ℕ → ℕ} {n k b : ℕ} {l m : List ℕ} (r : Places f n k l b m) where
  pub places-more : b < n → {y : ℕ} → y ≡ f b → {o : List ℕ} → o ≡ mark k y m → Places f n k l (b + 1) o
  places-more h q e = record { some = omega arith; so = r.so ∙ rw (rest_more f n b h, e, q) }

  pub places-done : n ≤ b → m ≡ mark_all k (tabulate n f) l
  places-done h = sym (r.so ∙ rw (rest-done f n b h))

-- ---- lists of marks in turn: those of the first i numbers are made
pub record Turns (F : ℕ → List ℕ) (n k : ℕ) (l : List ℕ) (i : ℕ) (m : List ℕ) : Type 0 where
  pub some : i ≤ n
  pub so : mark_all k (concat_map F (upto n)) l ≡ mark_all k (concat_map F (range i (n - i))) m

pub turns-start : (F : ℕ → List ℕ) (n k : ℕ) (l : List ℕ) → Turns F n k l 0 l
turns-start F n k l = record { some = omega arith; so = let z : n - 0 ≡ n = omega arith in rw z }

module _ {F : ℕ → List ℕ} {n k i : ℕ} {l m : List ℕ} (t : Turns F n k l i m) where
  pub turns_more : i < n → {o : List ℕ} → o ≡ mark_all k (F i) m → Turns F n k l (i + 1) o
  turns_more h {o} e =
      let z : n - i ≡ suc (n - (i + 1)) = omega arith in
      record { some = omega arith; so = t.so ∙ rw (z, e, add-one i) (mark_all-append k (F i) (concat_map F (range (suc i) (n - suc i))) m) }

  pub turns-done : n ≤ i → m ≡ mark_all k (concat_map F (upto n)) l
  turns-done h = let z : n - i ≡ 0 = omega arith in sym (t.so ∙ rw z)
