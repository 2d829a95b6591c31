-- The least step that comes nearer, and the chain of such steps.
use Rattle.std.specs.Prelude.{ℕ, ◌<◌, ◌≤◌, ◌≡◌, Bool, true, false, ◌&&◌, List, map, get_or, ltb, eqb, Option, Some, None}
use Rattle.std.proofs.Math.Option.{some}
use Rattle.meaning.specs.Lists as lists
use Rattle.meaning.specs.Schema as meaning
use Rattle.meaning.specs.PathChain.{Step, is_numbered, chains}
use Rattle.meaning.proofs.StepNumbers.{step_of}
use Rattle.agreement.specs.Paths.{path_at}
use Rattle.agreement.specs.PathChains.{StepBefore}
use Rattle.schema.specs.declared.Path.{Path}
use Rattle.schema.specs.Decoded.{front_of}
use Rattle.chain.specs.declared.nearer.Move.{Move}
use Rattle.chain.specs.Places.{step_number, landing_at}
use Rattle.chain.specs.Levels.{Reaches}

-- y is a path, and k steps away
abbrev pub is_at : List ℕ → ℕ → ℕ → Bool
is_at l y k = ltb y 256 && eqb (get_or l y 0) k

-- the first place with a landing k steps away
module _ (end last first rank prefix : List ℕ) (n : ℕ) (old new : Path) (l : List ℕ) (k : ℕ) where
  pub record PlaceFound (r : Move) : Type 0 where
    pub place : r.step ≤ n
    pub path : r.path ≡ landing_at end last first rank prefix n old new r.step
    pub near : is_at l r.path k ≡ true
    pub first_such : (b : ℕ) → b < r.step → is_at l (landing_at end last first rank prefix n old new b) k ≡ false

  pub record NoPlace : Type 0 where
    pub none : (b : ℕ) → b ≤ n → is_at l (landing_at end last first rank prefix n old new b) k ≡ false

  abbrev pub NearestPlace : Option Move → Type 0
  NearestPlace None = NoPlace
  NearestPlace (Some r) = PlaceFound r

-- the least step of path x that makes a path k steps away
module _ (S : meaning.Schema) (l : List ℕ) (x k : ℕ) where
  pub record StepFound (r : Move) : Type 0 where
    pub low : r.step < 1024
    pub numbered : is_numbered S (path_at S.graph x) (step_of r.step) ≡ true
    pub path : r.path ≡ step_number S x (step_of r.step)
    pub near : is_at l r.path k ≡ true
    pub first_such : (u : Step) → is_numbered S (path_at S.graph x) u ≡ true → StepBefore u (step_of r.step) → is_at l (step_number S x u) k ≡ false

  pub record NoStep : Type 0 where
    pub none : (u : Step) → is_numbered S (path_at S.graph x) u ≡ true → is_at l (step_number S x u) k ≡ false

  abbrev pub NearestStep : Option Move → Type 0
  NearestStep None = NoStep
  NearestStep (Some r) = StepFound r

-- path x is n steps away from some path, and the list has the distances up to it
pub record Descends (S : meaning.Schema) (l : List ℕ) (x n : ℕ) : Type 0 where
  pub to : ℕ
  pub reaches : Reaches S x to l
  pub away : n ≡ get_or l x 0

-- the first chain of n steps from path x to that path
abbrev pub Descended : meaning.Schema → List ℕ → ℕ → ℕ → List ℕ → Type 0
Descended S l x n steps = (y : ℕ) → Reaches S x y l → lists.first (chains S n (path_at S.graph x) (path_at S.graph y)) ≡ some (map step_of (front_of n steps))
