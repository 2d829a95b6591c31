-- Classes joined by pairs of numbers are the classes of the schema, in whatever order: where each pair is one of equal paths, and no step is missed.
use Prim.Native.Nat.{ℕ, zero, suc, ◌<◌, ◌≤◌}
use mathlib.Core.Path.{◌≡◌, refl, sym, ap, ◌∙◌}
use mathlib.Core.List.Memᴰ
use mathlib.Core.List.{List, [], ◌∷◌, ◌++◌, map, Memᴰ}
use mathlib.Core.Logic.{◌⊎◌, inl, inr}
use native.Mathlib.Omega.{arith}
use lib.ListN.{length, get_or, take}
use lib.Seq.{ext_get_or, get_or-take, length-take-le}
use Rattle.theory.specs.Schema.{endpoint, IsPath}
use Rattle.meaning.specs.Lists.{upto}
use Rattle.meaning.specs.Schema.{path, Equation, Schema, target}
use Rattle.meaning.specs.Views.{schema_of}
use Rattle.meaning.proofs.Lists.{upto-length, upto-get_or}
use Rattle.agreement.specs.Paths.{WellFormed, path_count, number_of}
use Rattle.agreement.proofs.Classes.{EqualNumbers, Classified, classes-one}
use Rattle.paths.specs.Classes.{join_classes, join_numbers, class_at}
use Rattle.paths.proofs.JoinedClasses.{join-length, join-keeps, join-joins, classified-start, classified-join}

abbrev join_pair : ℕ × ℕ → List ℕ → List ℕ
join_pair z l = join_classes (get_or l z.0 0) (get_or l z.1 0) l

pair-length : (z : ℕ × ℕ) (l : List ℕ) → length (join_pair z l) ≡ length l
pair-length z l = join-length (get_or l z.0 0) (get_or l z.1 0) l

pub numbers-length : (xs : List (ℕ × ℕ)) (l : List ℕ) → length (join_numbers xs l) ≡ length l
numbers-length [] l = refl
numbers-length (z ∷ xs) l = numbers-length xs (join_pair z l) ∙ pair-length z l

numbers_keep : (xs : List (ℕ × ℕ)) (l : List ℕ) (i j : ℕ) → i < length l → j < length l → get_or l i 0 ≡ get_or l j 0 → get_or (join_numbers xs l) i 0 ≡ get_or (join_numbers xs l) j 0
numbers_keep [] l i j h k e = e
numbers_keep (z ∷ xs) l i j h k e = let n = pair-length z l in numbers_keep xs (join_pair z l) i j (omega arith) (omega arith) (join-keeps (get_or l z.0 0) (get_or l z.1 0) l i j h k e)

-- both numbers of a pair are below n
pub record Below (n : ℕ) (z : ℕ × ℕ) : Type 0 where
  pub left : z.0 < n
  pub right : z.1 < n

numbers-join : (xs : List (ℕ × ℕ)) (l : List ℕ) → ((z : ℕ × ℕ) → Memᴰ z xs → Below (length l) z) → (z : ℕ × ℕ) → Memᴰ z xs → get_or (join_numbers xs l) z.0 0 ≡ get_or (join_numbers xs l) z.1 0
numbers-join [] l b z m = absurd (Memᴰ.not-nil m)
numbers-join (y ∷ xs) l b z m = go (Memᴰ.cases_cons m) (numbers-join xs (join_pair y l) (λ w k. let c = b w (Memᴰ.tail k) in record { left = rw n c.left; right = rw n c.right }) z)
  where
    n : length (join_pair y l) ≡ length l
    n = pair-length y l

    go : (z ≡ y) ⊎ Memᴰ z xs → (Memᴰ z xs → get_or (join_numbers xs (join_pair y l)) z.0 0 ≡ get_or (join_numbers xs (join_pair y l)) z.1 0) → get_or (join_numbers xs (join_pair y l)) z.0 0 ≡ get_or (join_numbers xs (join_pair y l)) z.1 0
    go (inl e) later = let c = b y (Memᴰ.head refl) in rw e (numbers_keep xs (join_pair y l) y.0 y.1 (rw n c.left) (rw n c.right) (join-joins l y.0 y.1 c.left c.right))
    go (inr k) later = later k

-- ---- the numbers of n paths at the front of a longer list
module _ {A B : Type 0} where
  take-map : (f : A → B) (n : ℕ) (l : List A) → take n (map f l) ≡ map f (take n l)
  take-map f zero l = refl
  take-map f (suc n) [] = refl
  take-map f (suc n) (x ∷ l) = ap (λ (m : List B). f x ∷ m) (take-map f n l)

pub numbers-take : (n : ℕ) (xs : List (ℕ × ℕ)) (l : List ℕ) → ((z : ℕ × ℕ) → Memᴰ z xs → Below n z) → take n (join_numbers xs l) ≡ join_numbers xs (take n l)
numbers-take n [] l b = refl
numbers-take n (z ∷ xs) l b =
    let c = b z (Memᴰ.head refl) in
    numbers-take n xs (join_pair z l) (λ w k. b w (Memᴰ.tail k))
    ∙ ap (join_numbers xs) (take-map _ n l ∙ ap (λ (x : ℕ). join_classes x (get_or l z.1 0) (take n l)) (sym (get_or-take n l z.0 0 c.left)) ∙ ap (λ (x : ℕ). join_classes (get_or (take n l) z.0 0) x (take n l)) (sym (get_or-take n l z.1 0 c.right)))

pub take-upto : (n m : ℕ) → n ≤ m → take n (upto m) ≡ upto n
take-upto n m h =
    let e : length (take n (upto m)) ≡ n = length-take-le n (upto m) (rw (upto-length m) h) in
    ext_get_or 0 (take n (upto m)) (upto n) (e ∙ sym (upto-length n)) (λ i k.
    let l : i < n = omega arith in
    get_or-take n (upto m) i 0 l ∙ upto-get_or m i 0 (omega arith) ∙ sym (upto-get_or n i 0 l))

-- ---- pairs of equal paths
pub record Linked (S : Schema) (z : ℕ × ℕ) : Type 0 where
  pub below : Below (path_count S.graph) z
  pub equal : EqualNumbers S z.0 z.1

module _ (S : Schema) where
  numbers-classified : (xs : List (ℕ × ℕ)) (l : List ℕ) → ((z : ℕ × ℕ) → Memᴰ z xs → Linked S z) → Classified S l → Classified S (join_numbers xs l)
  numbers-classified [] l h c = c
  numbers-classified (z ∷ xs) l h c =
      let k = h z (Memᴰ.head refl) in
      numbers-classified xs (join_pair z l) (λ w m. h w (Memᴰ.tail m)) (classified-join S l z.0 z.1 k.below.left k.below.right k.equal c)

  -- the pair of a step: one side of an equation, inside a path, and its other side
  abbrev pub IsStep : ℕ → List ℕ → List ℕ → Equation → ℕ × ℕ → Type 0
  IsStep n before after q z =
      (number_of S.graph (path n (before ++ (q.left.edges ++ after))) ≡ z.0) × (number_of S.graph (path n (before ++ (q.right.edges ++ after))) ≡ z.1)

  pub numbers-classes : WellFormed S → (xs : List (ℕ × ℕ)) → ((z : ℕ × ℕ) → Memᴰ z xs → Linked S z)
      → ((n : ℕ) (before after : List ℕ) (q : Equation) → Memᴰ q S.equations → endpoint (target S.graph) n before ≡ q.left.start
      → IsPath (schema_of S) n (before ++ (q.left.edges ++ after)) → (z : ℕ × ℕ) × Memᴰ z xs × IsStep n before after q z)
      → (i : ℕ) → i < path_count S.graph → get_or (join_numbers xs (upto (path_count S.graph))) i 0 ≡ class_at S i
  numbers-classes wf xs sound complete = classes-one S wf (record {
    classified = numbers-classified xs own sound (classified-start S);
    joined = λ n before after q m e h.
        let t = complete n before after q m e h in
        ap (λ (i : ℕ). get_or (join_numbers xs own) i 0) t.2.0
        ∙ numbers-join xs own (λ z k. let b = (sound z k).below in record { left = rw (upto-length (path_count S.graph)) b.left; right = rw (upto-length (path_count S.graph)) b.right }) t.0 t.1
        ∙ ap (λ (i : ℕ). get_or (join_numbers xs own) i 0) (sym t.2.1);
  })
    where
      own : List ℕ
      own = upto (path_count S.graph)
