-- Laws of the orders of lists, paths and components, and of sorted lists.
use mathlib.Core.Path.{◌≡◌, refl, sym, ap, ◌∙◌, subst}
use mathlib.Core.List.Memᴰ
use mathlib.Core.List.{List, [], ◌∷◌, ◌++◌, map, Memᴰ}
use mathlib.Core.Logic.{◌⊎◌, inl, inr}
use Prim.Native.Nat.{ℕ, zero, suc, ◌<◌}
use native.Mathlib.Nat.{not-suc-le-zero}
use native.Mathlib.Decide.{dec_lt, ℕ_discrete}
use native.Mathlib.Omega.{arith}
use lib.ListN.{length, get_or}
use Rattle.theory.specs.Numbering.{tabulate}
use Rattle.theory.specs.Schema.{Schema, Chain, Lex, PathBefore, IsFirst}
use Rattle.theory.specs.Pi.{ComponentBefore, Sorted}
use Rattle.theory.proofs.Numbering.{mem-tabulate, tabulate-mem, tabulate-length, tabulate-get_or}
use Rattle.theory.proofs.Schema.{chain-sym}

-- ---- lists of one length, from the left

pub lex-irreflexive : (l : List ℕ) → Lex l l → ⊥
lex-irreflexive [] h = h
lex-irreflexive (x ∷ l) (inl h) = omega arith
lex-irreflexive (x ∷ l) (inr h) = lex-irreflexive l h.1

pub lex-trans : (l m n : List ℕ) → Lex l m → Lex m n → Lex l n
lex-trans l m [] h k = k
lex-trans l [] (z ∷ n) h k = absurd k
lex-trans [] (y ∷ m) (z ∷ n) h k = absurd h
lex-trans (x ∷ l) (y ∷ m) (z ∷ n) (inl h) (inl k) = inl (omega arith)
lex-trans (x ∷ l) (y ∷ m) (z ∷ n) (inl h) (inr k) = inl (omega arith)
lex-trans (x ∷ l) (y ∷ m) (z ∷ n) (inr h) (inl k) = inl (omega arith)
lex-trans (x ∷ l) (y ∷ m) (z ∷ n) (inr h) (inr k) = inr (h.0 ∙ k.0, lex-trans l m n h.1 k.1)

pub lex-asym : (l m : List ℕ) → Lex l m → Lex m l → ⊥
lex-asym l m h k = lex-irreflexive l (lex-trans l m l h k)

pub lex-compare : (l m : List ℕ) → length l ≡ length m → (l ≡ m) ⊎ (Lex l m ⊎ Lex m l)
lex-compare [] [] e = inl refl
lex-compare [] (y ∷ m) e = absurd (omega arith)
lex-compare (x ∷ l) [] e = absurd (omega arith)
lex-compare (x ∷ l) (y ∷ m) e = go (dec_lt x y) (ℕ_discrete x y) (lex-compare l m (omega arith))
  where
    go : Dec (x < y) → Dec (x ≡ y) → (l ≡ m) ⊎ (Lex l m ⊎ Lex m l) → (x ∷ l ≡ y ∷ m) ⊎ (Lex (x ∷ l) (y ∷ m) ⊎ Lex (y ∷ m) (x ∷ l))
    go (yes a) b c = inr (inl (inl a))
    go (no a) (no b) c = inr (inr (inl (omega arith)))
    go (no a) (yes b) (inl c) = inl (λ i. b i ∷ c i)
    go (no a) (yes b) (inr (inl c)) = inr (inl (inr (b, c)))
    go (no a) (yes b) (inr (inr c)) = inr (inr (inr (sym b, c)))

-- ---- paths, by length and then from the left

path_before-irreflexive : (p : List ℕ) → PathBefore p p → ⊥
path_before-irreflexive p (inl h) = omega arith
path_before-irreflexive p (inr h) = lex-irreflexive p h.1

path_before-trans : (p q r : List ℕ) → PathBefore p q → PathBefore q r → PathBefore p r
path_before-trans p q r (inl h) (inl k) = inl (omega arith)
path_before-trans p q r (inl h) (inr k) = inl (omega arith)
path_before-trans p q r (inr h) (inl k) = inl (omega arith)
path_before-trans p q r (inr h) (inr k) = inr (h.0 ∙ k.0, lex-trans p q r h.1 k.1)

path_before-compare : (p q : List ℕ) → (p ≡ q) ⊎ (PathBefore p q ⊎ PathBefore q p)
path_before-compare p q = go (dec_lt (length p) (length q)) (ℕ_discrete (length p) (length q))
  where
    equal : length p ≡ length q → (p ≡ q) ⊎ (Lex p q ⊎ Lex q p) → (p ≡ q) ⊎ (PathBefore p q ⊎ PathBefore q p)
    equal e (inl c) = inl c
    equal e (inr (inl c)) = inr (inl (inr (e, c)))
    equal e (inr (inr c)) = inr (inr (inr (sym e, c)))

    go : Dec (length p < length q) → Dec (length p ≡ length q) → (p ≡ q) ⊎ (PathBefore p q ⊎ PathBefore q p)
    go (yes a) b = inr (inl (inl a))
    go (no a) (no b) = inr (inr (inl (omega arith)))
    go (no a) (yes b) = equal b (lex-compare p q b)

-- a class of equal paths has one first path
pub first_one : {S : Schema} {d : ℕ} {g h : List ℕ} → IsFirst S d g → IsFirst S d h → Chain S d g h → g ≡ h
first_one {g = g} {h = h} a b c = go (path_before-compare g h)
  where
    go : (g ≡ h) ⊎ (PathBefore g h ⊎ PathBefore h g) → g ≡ h
    go (inl e) = e
    go (inr (inl k)) = absurd (b.least g (chain-sym c) k)
    go (inr (inr k)) = absurd (a.least h c k)

-- ---- components, by node and then by path

pub component_before-irreflexive : (k : ℕ × List ℕ) → ComponentBefore k k → ⊥
component_before-irreflexive k (inl h) = omega arith
component_before-irreflexive k (inr h) = path_before-irreflexive k.1 h.1

component_before-trans : (k m n : ℕ × List ℕ) → ComponentBefore k m → ComponentBefore m n → ComponentBefore k n
component_before-trans k m n (inl a) (inl b) = inl (omega arith)
component_before-trans k m n (inl a) (inr b) = inl (omega arith)
component_before-trans k m n (inr a) (inl b) = inl (omega arith)
component_before-trans k m n (inr a) (inr b) = inr (a.0 ∙ b.0, path_before-trans k.1 m.1 n.1 a.1 b.1)

pub component_before-asym : (k m : ℕ × List ℕ) → ComponentBefore k m → ComponentBefore m k → ⊥
component_before-asym k m a b = component_before-irreflexive k (component_before-trans k m k a b)

-- ---- sorted lists

pub sorted-append : {A : Type 0} (Before : A → A → Type 0) (l m : List A) → Sorted Before l → Sorted Before m
    → ((x : A) → Memᴰ x l → (y : A) → Memᴰ y m → Before x y) → Sorted Before (l ++ m)
sorted-append Before [] m h k g = k
sorted-append Before (x ∷ l) m h k g =
    (λ y i. cases y (Memᴰ.append_cases l i), sorted-append Before l m h.1 k (λ z i. g z (Memᴰ.tail i)))
  where
    cases : (y : _) → Memᴰ y l ⊎ Memᴰ y m → Before x y
    cases y (inl i) = h.0 y i
    cases y (inr i) = g x (Memᴰ.head refl) y i

pub sorted-map : {A B : Type 0} (Before : A → A → Type 0) (After : B → B → Type 0) (f : A → B) (l : List A)
    → ((x : A) → Memᴰ x l → (y : A) → Memᴰ y l → Before x y → After (f x) (f y)) → Sorted Before l → Sorted After (map f l)
sorted-map Before After f [] g h = tt
sorted-map Before After f (x ∷ l) g h = (
  λ y i. let z = Memᴰ.of_map f l i in subst (After (f x)) z.2 (g x (Memᴰ.head refl) z.0 (Memᴰ.tail z.1) (h.0 z.0 z.1)),
  sorted-map Before After f l (λ y i z j. g y (Memᴰ.tail i) z (Memᴰ.tail j)) h.1,
)

sorted-tabulate : {A : Type 0} (Before : A → A → Type 0) (k : ℕ) (f : ℕ → A) → ((n m : ℕ) → n < m → m < k → Before (f n) (f m)) → Sorted Before (tabulate k f)
sorted-tabulate Before zero f h = tt
sorted-tabulate Before (suc k) f h = (
  λ y i. let r = mem-tabulate k (λ n. f (suc n)) y i in subst (Before (f 0)) (sym r.2) (h 0 (suc r.0) (omega arith) (omega (arith, r.1))),
  sorted-tabulate Before k (λ n. f (suc n)) (λ n m i j. h (suc n) (suc m) (omega arith) (omega arith)),
)

-- a sorted list is known by its elements
pub sorted-one : {A : Type 0} (Before : A → A → Type 0) → ((x y : A) → Before x y → Before y x → ⊥) → (l m : List A) → Sorted Before l → Sorted Before m
    → ((x : A) → Memᴰ x l → Memᴰ x m) → ((x : A) → Memᴰ x m → Memᴰ x l) → l ≡ m
sorted-one Before asym [] [] s t f g = refl
sorted-one Before asym [] (y ∷ m) s t f g = absurd (Memᴰ.not-nil (g y (Memᴰ.head refl)))
sorted-one Before asym (x ∷ l) [] s t f g = absurd (Memᴰ.not-nil (f x (Memᴰ.head refl)))
sorted-one Before asym (x ∷ l) (y ∷ m) s t f g =
    let e = first (Memᴰ.cases_cons (f x (Memᴰ.head refl))) (Memᴰ.cases_cons (g y (Memᴰ.head refl))) in
    let r = sorted-one Before asym l m s.1 t.1
    (λ z i. rest (λ k. irreflexive (subst (Before x) (k ∙ sym e) (s.0 z i))) (Memᴰ.cases_cons (f z (Memᴰ.tail i))))
    (λ z i. rest (λ k. irreflexive (subst (Before y) (k ∙ e) (t.0 z i))) (Memᴰ.cases_cons (g z (Memᴰ.tail i)))) in
    λ i. e i ∷ r i
  where
    irreflexive : {z : _} → Before z z → ⊥
    irreflexive {z} q = asym z z q q

    first : (x ≡ y) ⊎ Memᴰ x m → (y ≡ x) ⊎ Memᴰ y l → x ≡ y
    first (inl e) j = e
    first (inr i) (inl e) = sym e
    first (inr i) (inr j) = absurd (asym x y (s.0 y j) (t.0 x i))

    rest : {P Q : Type 0} → (P → ⊥) → P ⊎ Q → Q
    rest k (inl a) = absurd (k a)
    rest k (inr b) = b

-- and so is a sequence of which each element stands before all later ones
pub increasing-one : {A : Type 0} (Before : A → A → Type 0) → ((x y : A) → Before x y → Before y x → ⊥) → (k l : ℕ) (f g : ℕ → A)
    → ((n m : ℕ) → n < m → m < k → Before (f n) (f m)) → ((n m : ℕ) → n < m → m < l → Before (g n) (g m))
    → ((n : ℕ) → n < k → (m : ℕ) × (m < l) × (f n ≡ g m)) → ((m : ℕ) → m < l → (n : ℕ) × (n < k) × (g m ≡ f n))
    → (k ≡ l) × ((n : ℕ) → n < k → f n ≡ g n)
increasing-one {A} Before asym k l f g s t u v = (size, λ n h. sym (tabulate-get_or k f (f 0) n h) ∙ ap (λ (m : List A). get_or m n (f 0)) e ∙ tabulate-get_or l g (f 0) n (rw size at h))
  where
    to : (i j : ℕ) (a b : ℕ → A) → ((n : ℕ) → n < i → (m : ℕ) × (m < j) × (a n ≡ b m)) → (x : A) → Memᴰ x (tabulate i a) → Memᴰ x (tabulate j b)
    to i j a b w x m =
        let r = mem-tabulate i a x m in
        let q = w r.0 r.1 in
        Memᴰ.cast (r.2 ∙ q.2) (tabulate-mem j b q.0 q.1)

    e : tabulate k f ≡ tabulate l g
    e = sorted-one Before asym (tabulate k f) (tabulate l g) (sorted-tabulate Before k f s) (sorted-tabulate Before l g t) (to k l f g u) (to l k g f v)

    size : k ≡ l
    size = sym (tabulate-length k f) ∙ ap length e ∙ tabulate-length l g

-- ---- elements and their positions

pub mem-get_or : {A : Type 0} (d : A) (l : List A) (i : ℕ) → i < length l → Memᴰ (get_or l i d) l
mem-get_or d [] i h = absurd (not-suc-le-zero h)
mem-get_or d (x ∷ l) zero h = Memᴰ.head refl
mem-get_or d (x ∷ l) (suc i) h = Memᴰ.tail (mem-get_or d l i (omega arith))

pub mem-position : {A : Type 0} (d x : A) (l : List A) → Memᴰ x l → (i : ℕ) × (i < length l) × (get_or l i d ≡ x)
mem-position {A = A} d x [] h = elim h [ ]
mem-position d x (y ∷ l) (Memᴰ.head e) = (0, omega arith, sym e)
mem-position d x (y ∷ l) (Memᴰ.tail m) = let r = mem-position d x l m in (suc r.0, omega (arith, r.1), r.2)

-- the element at the lower position stands before
pub sorted-get_or : {A : Type 0} (Before : A → A → Type 0) (d : A) (l : List A) → Sorted Before l → (i j : ℕ) → i < j → j < length l → Before (get_or l i d) (get_or l j d)
sorted-get_or Before d [] s i j h k = absurd (not-suc-le-zero k)
sorted-get_or Before d (x ∷ l) s i zero h k = absurd (not-suc-le-zero h)
sorted-get_or Before d (x ∷ l) s zero (suc j) h k = s.0 (get_or l j d) (mem-get_or d l j (omega arith))
sorted-get_or Before d (x ∷ l) s (suc i) (suc j) h k = sorted-get_or Before d l s.1 i j (omega arith) (omega arith)

-- and each element has one position
pub sorted-position : {A : Type 0} (Before : A → A → Type 0) → ((x : A) → Before x x → ⊥) → (d : A) (l : List A) → Sorted Before l
    → (i j : ℕ) → i < length l → j < length l → get_or l i d ≡ get_or l j d → i ≡ j
sorted-position Before irreflexive d l s i j h k e = go (dec_lt i j) (dec_lt j i)
  where
    go : Dec (i < j) → Dec (j < i) → i ≡ j
    go (yes a) b = absurd (irreflexive (get_or l j d) (rw e at (sorted-get_or Before d l s i j a k)))
    go (no a) (yes b) = absurd (irreflexive (get_or l j d) (rw e at (sorted-get_or Before d l s j i b h)))
    go (no a) (no b) = omega arith
