-- Walking a table of paths: from a path to the one that follows it by an edge.
use Rattle.std.specs.Prelude.{ℕ, ◌+◌, ◌<◌, List, [], ◌∷◌, get_or}

-- the number to which edges lead from path x
abbrev pub walk_from : List ℕ → List ℕ → ℕ → List ℕ → ℕ
walk_from first rank x [] = x
walk_from first rank x (e ∷ es) = walk_from first rank (get_or first x 0 + get_or rank e 0) es

-- each step of the walk stays in the table
abbrev pub WalkIn : List ℕ → List ℕ → ℕ → List ℕ → Type 0
WalkIn first rank x [] = Unit {0}
WalkIn first rank x (e ∷ es) = (x < 257) × (e < 32) × WalkIn first rank (get_or first x 0 + get_or rank e 0) es
