-- The classes over the classes of T, by the arrays of the tables of paths.
use Prim.Native.Nat.{ℕ, zero, suc, ◌<◌}
use mathlib.Core.Path.{◌≡◌, refl, sym, ap, ◌∙◌}
use mathlib.Core.Bool.{Bool, true, false, cond}
use mathlib.Core.List.{List}
use native.Mathlib.Omega.{arith}
use native.Mathlib.Nat.{not-suc-le-zero}
use borrow.Author.Tests.{eqb-true, eqb-false}
use lib.ListN.{length, get_or, set, length-set, length-replicate, get_or-replicate}
use lib.Seq.{get_or-set_same, get_or-set_other}
use lib.Dec.{eqb}
use Rattle.std.specs.Prelude.{Option, Some, None, is_some}
use Rattle.lifts.specs.Even.{lift_classes, is_class}

-- ---- what stands over a class
-- path `number`, one of the first k, starts at c, lies over x and has class v
pub record Lift (start class over : List ℕ) (c k x v : ℕ) : Type 0 where
  pub number : ℕ
  pub below : number < k
  pub starts : get_or start number 0 ≡ c
  pub lies : get_or over number 0 ≡ x
  pub has : get_or class number 0 ≡ v

module _ (start class over : List ℕ) (c : ℕ) where
  abbrev lifts : ℕ → List (Option ℕ)
  lifts k = lift_classes start class over c k

  lifts-length : (k : ℕ) → length (lifts k) ≡ 256
  lifts-length zero = length-replicate {A = Option ℕ} 256 None
  lifts-length (suc k) = go (eqb (get_or start k 0) c) (lifts-length k)
    where
      go : (b : Bool) → length (lifts k) ≡ 256 → length (cond b (set (lifts k) (get_or over k 0) (Some (get_or class k 0))) (lifts k)) ≡ 256
      go true e = length-set (lifts k) (get_or over k 0) (Some (get_or class k 0)) ∙ e
      go false e = e

  later : {k x v : ℕ} → Lift start class over c k x v → Lift start class over c (suc k) x v
  later {k} l = let h = l.below in record { number = l.number; below = omega arith; starts = l.starts; lies = l.lies; has = l.has }

  -- where a class stands, some path has it
  pub lifts-some : (k x v : ℕ) → x < 256 → get_or (lifts k) x None ≡ Some v → Lift start class over c k x v
  lifts-some zero x v h e = let n = get_or-replicate {A = Option ℕ} 256 x None None h in absurd (let z : ⊥ = cc in z)
  lifts-some (suc k) x v h e = go (eqb (get_or start k 0) c) refl (eqb x (get_or over k 0)) refl (lifts-some k x v h) e
    where
      new : List (Option ℕ)
      new = set (lifts k) (get_or over k 0) (Some (get_or class k 0))

      go : (b : Bool) → eqb (get_or start k 0) c ≡ b → (t : Bool) → eqb x (get_or over k 0) ≡ t → (get_or (lifts k) x None ≡ Some v → Lift start class over c k x v) →
          get_or (cond b new (lifts k)) x None ≡ Some v → Lift start class over c (suc k) x v
      go false p t q below e = later (below e)
      go true p true q below e =
          let i : x ≡ get_or over k 0 = eqb-true x (get_or over k 0) q in
          let w : get_or new x None ≡ Some (get_or class k 0) = rw i (get_or-set_same (lifts k) (get_or over k 0) (Some (get_or class k 0)) None (omega (arith, lifts-length k, h))) in
          record { number = k; below = omega arith; starts = eqb-true (get_or start k 0) c p; lies = sym i; has = cc }
      go true p false q below e =
          let n = eqb-false x (get_or over k 0) q in
          later (below (sym (get_or-set_other (lifts k) (get_or over k 0) x (Some (get_or class k 0)) None n) ∙ e))

  -- and over each path from c a class stands
  pub lifts-every : (k i : ℕ) → i < k → get_or over i 0 < 256 → get_or start i 0 ≡ c → get_or (lifts k) (get_or over i 0) None ≡ None → ⊥
  lifts-every zero i h o s e = not-suc-le-zero h
  lifts-every (suc k) i h o s e = go (eqb (get_or start k 0) c) refl (eqb (get_or over i 0) (get_or over k 0)) refl (eqb i k) refl (λ l. lifts-every k i l o s) e
    where
      new : List (Option ℕ)
      new = set (lifts k) (get_or over k 0) (Some (get_or class k 0))

      go : (b : Bool) → eqb (get_or start k 0) c ≡ b → (t : Bool) → eqb (get_or over i 0) (get_or over k 0) ≡ t → (u : Bool) → eqb i k ≡ u →
          (i < k → get_or (lifts k) (get_or over i 0) None ≡ None → ⊥) → get_or (cond b new (lifts k)) (get_or over i 0) None ≡ None → ⊥
      go false p t q true r below e = eqb-false (get_or start k 0) c p (ap (λ (n : ℕ). get_or start n 0) (sym (eqb-true i k r)) ∙ s)
      go false p t q false r below e = let n = eqb-false i k r in below (omega arith) e
      go true p true q u r below e =
          let j : get_or over i 0 ≡ get_or over k 0 = eqb-true (get_or over i 0) (get_or over k 0) q in
          let v : get_or new (get_or over i 0) None ≡ Some (get_or class k 0) = rw j (get_or-set_same (lifts k) (get_or over k 0) (Some (get_or class k 0)) None (omega (arith, lifts-length k, o))) in
          cc
      go true p false q true r below e = eqb-false (get_or over i 0) (get_or over k 0) q (ap (λ (n : ℕ). get_or over n 0) (eqb-true i k r))
      go true p false q false r below e =
          let n = eqb-false i k r in
          let m = eqb-false (get_or over i 0) (get_or over k 0) q in
          below (omega arith) (sym (get_or-set_other (lifts k) (get_or over k 0) (get_or over i 0) (Some (get_or class k 0)) None m) ∙ e)

-- ---- what stands over a class, as tests
pub is_class-some : (o : Option ℕ) (x : ℕ) → is_class o x ≡ true → o ≡ Some x
is_class-some None x e = cc
is_class-some (Some y) x e = ap Some (eqb-true y x e)

pub value_of : (o : Option ℕ) → (o ≡ None → ⊥) → (v : ℕ) × (o ≡ Some v)
value_of None h = absurd (h refl)
value_of (Some v) h = (v, refl)

pub some-is : (o : Option ℕ) → (o ≡ None → ⊥) → is_some o ≡ true
some-is None h = absurd (h refl)
some-is (Some v) h = refl

pub is-some : (o : Option ℕ) → is_some o ≡ true → o ≡ None → ⊥
is-some None h e = cc
is-some (Some v) h e = cc
