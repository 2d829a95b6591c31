-- Levels of paths: the list of how many steps away each path is, level after level, and what it says when the level of a path is reached.
use Rattle.std.specs.Prelude.{ℕ, zero, suc, ◌<◌, ◌≤◌, ◌≡◌, cond, ◌&&◌, List, [], ◌∷◌, ◌↔◌, length, get_or, set, ltb, eqb}
use Rattle.theory.specs.Numbering.{tabulate}
use Rattle.meaning.specs.Lists.{upto, concat_map}
use Rattle.meaning.specs.Schema.{Schema}
use Rattle.agreement.specs.Paths.{EqualPaths, path_count, path_at}
use Rattle.agreement.specs.PathChains.{IsDistance}
use Rattle.paths.specs.PathNumbers.{length_of}
use Rattle.chain.specs.Places.{step_number}

-- path y, where it is one and of no level yet, put into level k
abbrev pub mark : ℕ → ℕ → List ℕ → List ℕ
mark k y l = cond (ltb y 256 && eqb (get_or l y 0) 256) (set l y k) l

abbrev pub mark_all : ℕ → List ℕ → List ℕ → List ℕ
mark_all k [] l = l
mark_all k (y ∷ ys) l = mark_all k ys (mark k y l)

-- the paths that steps make of path x, by equation, direction and place; 256 at a place where there is no step
abbrev pub path_steps : Schema → ℕ → List ℕ
path_steps S x =
    concat_map (λ q.
    concat_map (λ d.
    tabulate (suc (length_of S.graph x)) (λ b. step_number S x (record { equation = q; direction = d; before = b })))
    (upto 2)) (upto (length S.equations))

-- the level behind level k, by the paths below n
abbrev pub level : Schema → ℕ → ℕ → List ℕ → List ℕ
level S k zero l = l
level S k (suc n) l = let m = level S k n l in cond (eqb (get_or m n 0) k) (mark_all (suc k) (path_steps S n) m) m

-- ---- distances

-- two paths that are equal
pub record Linked (S : Schema) (x y : ℕ) : Type 0 where
  pub x_in : x < path_count S.graph
  pub y_in : y < path_count S.graph
  pub equal : EqualPaths S (path_at S.graph x) (path_at S.graph y)

-- of paths up to the level of path x, each has its distance to path y
pub record Reaches (S : Schema) (x y : ℕ) (l : List ℕ) : Type 0 where
  pub long : length l ≡ 256
  pub x_in : x < path_count S.graph
  pub y_in : y < path_count S.graph
  pub here : IsDistance S (path_at S.graph y) (path_at S.graph x) (get_or l x 0)
  pub few : get_or l x 0 ≤ 255
  pub near : (z j : ℕ) → z < path_count S.graph → j ≤ get_or l x 0 → (get_or l z 0 ≡ j) ↔ IsDistance S (path_at S.graph y) (path_at S.graph z) j
