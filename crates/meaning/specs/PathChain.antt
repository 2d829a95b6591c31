-- Steps by their numbers (document 01, 'Schemas and path equality'), and the first of the shortest chains of them from one path to another (document 02, C-11).
use Rattle.std.specs.Prelude.{ℕ, zero, suc, ◌+◌, Bool, cond, ◌&&◌, List, [], ◌∷◌, ◌++◌, map, length, take, drop, get_or, leb, ltb, eqb}
use Rattle.std.proofs.Math.Option.{Option, none, some}
use Rattle.meaning.specs.Lists.{upto, cons_if, filter, first, concat_map, starts_with}
use Rattle.meaning.specs.Schema.{Path, path, identical, Equation, Schema, end, all_paths}

-- ---- steps: one side of an equation, inside a path, replaced by its other side

-- the equation, the direction (0 left side to right, 1 back) and the number of edges before the replaced part
pub record Step : Type 0 where
  pub equation : ℕ
  pub direction : ℕ
  pub before : ℕ

abbrev pub equation_at : Schema → ℕ → Equation
equation_at S q = get_or S.equations q (record { left = path 0 []; right = path 0 [] })

-- the side that is replaced, and the one that takes its place
abbrev pub old_side : Schema → Step → Path
old_side S t = cond (eqb t.direction 0) (equation_at S t.equation).left (equation_at S t.equation).right

abbrev pub new_side : Schema → Step → Path
new_side S t = cond (eqb t.direction 0) (equation_at S t.equation).right (equation_at S t.equation).left

-- the numbers are those of an equation, a direction and a place in p
abbrev pub is_numbered : Schema → Path → Step → Bool
is_numbered S p t = ltb t.equation (length S.equations) && ltb t.direction 2 && leb t.before (length p.edges)

-- the old side stands at this place
abbrev pub stands_in : Schema → Path → Step → Bool
stands_in S p t = eqb (end S.graph (path p.start (take t.before p.edges))) (old_side S t).start && starts_with (old_side S t).edges (drop t.before p.edges)

abbrev pub is_step : Schema → Path → Step → Bool
is_step S p t = is_numbered S p t && stands_in S p t

-- the path that a step of p makes of it
abbrev pub made : Schema → Path → Step → Path
made S p t = path p.start (take t.before p.edges ++ ((new_side S t).edges ++ drop (t.before + length (old_side S t).edges) p.edges))

-- the same for any numbers: none where they are no step of p
abbrev pub stepped : Schema → Path → Step → Option Path
stepped S p t = cond (is_step S p t) (some (made S p t)) none

-- the steps of p, in the order of their numbers
abbrev pub steps : Schema → Path → List Step
steps S p =
    filter (is_step S p)
    (concat_map (λ q.
    concat_map (λ d.
    map (λ b. record { equation = q; direction = d; before = b })
    (upto (suc (length p.edges)))) (upto 2)) (upto (length S.equations)))

-- ---- chains

-- the chains of k steps from p to q, in the order of their numbers
abbrev pub chains : Schema → ℕ → Path → Path → List (List Step)
chains S zero p q = cons_if (identical p q) [] []
chains S (suc k) p q = concat_map (λ t. map (λ c. t ∷ c) (chains S k (made S p t) q)) (steps S p)

-- the first chain of the fewest steps, or none: a chain that meets no path twice has fewer steps than there are paths
abbrev pub first_chain : Schema → Path → Path → Option (List Step)
first_chain S p q = first (concat_map (λ k. chains S k p q) (upto (length (all_paths S.graph))))
