-- One step by its numbers, in a table of paths: by the columns of the table, and by the definition.
use Rattle.std.specs.Prelude.{ℕ, zero, suc, ◌+◌, ◌-◌, ◌≤◌, ◌≡◌, cond, List, ◌++◌, length, get_or, ltb, eqb}
use Rattle.theory.specs.Numbering.{tabulate}
use Rattle.meaning.specs.Schema as meaning
use Rattle.meaning.specs.PathChain.{Step, is_step, made}
use Rattle.agreement.specs.Paths.{path_at, number_of}
use Rattle.schema.specs.declared.Path.{Path}
use Rattle.schema.specs.declared.Schema.{Schema}
use Rattle.schema.specs.Decoded.{path_of, no_path}
use Rattle.paths.specs.PathWalks.{walk_from, WalkIn}

-- the path that a step makes of path x, by its number; 256 where it is no step of path x
abbrev pub step_number : meaning.Schema → ℕ → Step → ℕ
step_number S x t = cond (is_step S (path_at S.graph x) t) (number_of S.graph (made S (path_at S.graph x) t)) 256

-- the side of equation q that is replaced in direction d, and the one that takes its place
abbrev pub old_of : Schema → ℕ → ℕ → Path
old_of t q d = cond (eqb d 0) (get_or t.left q no_path) (get_or t.right q no_path)

abbrev pub new_of : Schema → ℕ → ℕ → Path
new_of t q d = cond (eqb d 0) (get_or t.right q no_path) (get_or t.left q no_path)

-- ---- by the columns

-- path x without its last k edges
abbrev pub ancestor : List ℕ → ℕ → ℕ → ℕ
ancestor parent x zero = x
ancestor parent x (suc k) = ancestor parent (get_or parent x 0) k

-- of the n edges of path x, the front with i edges stands at i
pub record Prefixes (parent : List ℕ) (x n : ℕ) (l : List ℕ) : Type 0 where
  pub each : (i k : ℕ) → i + k ≡ n → get_or l i 0 ≡ ancestor parent x k
  pub long : length l ≡ 16

-- the edges of a path of n edges behind its first i
abbrev pub rest_edges : List ℕ → List ℕ → ℕ → ℕ → List ℕ
rest_edges last prefix i n = tabulate (n - i) (λ j. get_or last (get_or prefix (i + suc j) 0) 0)

module _ (end last first rank prefix : List ℕ) (n : ℕ) (old new : Path) where
  -- old stands behind the first b edges where they end at its start and old leads from there to the front with so many edges more
  abbrev pub landing_at : ℕ → ℕ
  landing_at b =
      cond (ltb n (b + old.length)) 256
      (cond (eqb (get_or end (get_or prefix b 0) 0) old.start)
      (cond (eqb (walk_from first rank (get_or prefix b 0) (path_of old).edges) (get_or prefix (b + old.length) 0))
      (walk_from first rank (walk_from first rank (get_or prefix b 0) (path_of new).edges) (rest_edges last prefix (b + old.length) n))
      256)
      256)

  -- at each place
  abbrev pub landings : List ℕ
  landings = tabulate (suc n) landing_at

  -- what is walked is in the table
  pub record LandIn (b : ℕ) : Type 0 where
    pub short : n ≤ 15
    pub place : b ≤ n
    pub old_short : old.length ≤ 15
    pub new_short : new.length ≤ 15
    pub old_in : b + old.length ≤ n → get_or end (get_or prefix b 0) 0 ≡ old.start → WalkIn first rank (get_or prefix b 0) (path_of old).edges
    pub new_in : b + old.length ≤ n → get_or end (get_or prefix b 0) 0 ≡ old.start → walk_from first rank (get_or prefix b 0) (path_of old).edges ≡ get_or prefix (b + old.length) 0
        → WalkIn first rank (get_or prefix b 0) ((path_of new).edges ++ rest_edges last prefix (b + old.length) n)

  abbrev pub LandsIn : Type 0
  LandsIn = (b : ℕ) → b ≤ n → LandIn b
