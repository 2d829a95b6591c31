-- Tests in order, each with its refusal's number and place, and what it means that they decide an outcome.
use Rattle.std.specs.Prelude.{ℕ, zero, suc, ◌≡◌, Bool, true, false, List, [], ◌∷◌, ◌++◌}
use Rattle.std.proofs.Math.Option.{Option, none, some}
use Rattle.meaning.specs.Calls.{Outcome, refused, accepted}

-- the number and the place of a refusal
abbrev pub Refusal : Type 0
Refusal = ℕ × ℕ

-- a test passes with what the later ones need, or fails; where all pass there is a result
pub data Tests (A : Type 0) : List Refusal → Type 1 where
  done : A → Tests A []
  test : {B : Type 0} {rs : List Refusal} (r : Refusal) → Option B → (B → Tests A rs) → Tests A (r ∷ rs)

module _ {A : Type 0} where
  -- all tests before the i-th pass, and the i-th fails
  abbrev pub FailsAt : {rs : List Refusal} → Tests A rs → ℕ → Type 0
  FailsAt (done a) i = ⊥
  FailsAt (test r none k) zero = Unit {0}
  FailsAt (test r none k) (suc i) = ⊥
  FailsAt (test r (some b) k) zero = ⊥
  FailsAt (test r (some b) k) (suc i) = FailsAt (k b) i

  -- all tests pass, with the result a
  abbrev pub Pass : {rs : List Refusal} → Tests A rs → A → Type 0
  Pass (done b) a = b ≡ a
  Pass (test r none k) a = ⊥
  Pass (test r (some b) k) a = Pass (k b) a

  abbrev pub outcome : {rs : List Refusal} → Tests A rs → Outcome A
  outcome (done a) = accepted a
  outcome (test r none k) = refused r.0 r.1
  outcome (test r (some b) k) = outcome (k b)

-- ---- tests one after the other
module _ {A B : Type 0} where
  abbrev pub then : {rs qs : List Refusal} → Tests A rs → (A → Tests B qs) → Tests B (rs ++ qs)
  then (done a) f = f a
  then (test r x k) f = test r x (λ b. then (k b) f)

  -- the same tests, with another result
  abbrev pub giving : {rs : List Refusal} → Tests A rs → (A → B) → Tests B rs
  giving (done a) g = done (g a)
  giving (test r x k) g = test r x (λ b. giving (k b) g)

-- a condition, as a test
abbrev pub holds : Bool → Option (Unit {0})
holds true = some tt
holds false = none

-- o is the outcome of the tests t
pub record Decides {A : Type 0} {rs : List Refusal} (t : Tests A rs) (o : Outcome A) : Type 0 where
  pub so : o ≡ outcome t
