-- Class numbers joined pair by pair, and the pairs of paths that an equation makes equal, by their numbers in the table.
use Rattle.std.specs.Prelude.{ℕ, zero, suc, ◌+◌, ◌-◌, ◌<◌, ◌≤◌, min, max, ◌≡◌, cond, List, [], ◌∷◌, ◌++◌, map, get_or, eqb}
use Rattle.theory.specs.Numbering.{tabulate}
use Rattle.meaning.specs.Lists.{upto, concat_map}
use Rattle.meaning.specs.Schema as meaning
use Rattle.agreement.specs.Paths.{path_at, class_number}
use Rattle.schema.specs.declared.Path.{Path}
use Rattle.schema.specs.declared.Schema.{Schema}
use Rattle.schema.specs.Decoded.{path_of, no_path}
use Rattle.paths.specs.declared.Paths.{Paths}
use Rattle.paths.specs.Table.{Filled, IsTable}
use Rattle.paths.specs.PathWalks.{walk_from, WalkIn}

abbrev pub renamed_to : ℕ → ℕ → ℕ → ℕ
renamed_to old new x = cond (eqb x old) new x

-- classes a and b joined under the lower number
abbrev pub join_classes : ℕ → ℕ → List ℕ → List ℕ
join_classes a b l = map (renamed_to (max a b) (min a b)) l

abbrev pub join_numbers : List (ℕ × ℕ) → List ℕ → List ℕ
join_numbers [] l = l
join_numbers (x ∷ xs) l = join_numbers xs (join_classes (get_or l x.0 0) (get_or l x.1 0) l)

-- n numbers from a on and n from b on, in turn
abbrev pub run_pairs : ℕ → ℕ → ℕ → List (ℕ × ℕ)
run_pairs a b n = tabulate n (λ j. (a + j, b + j))

-- and what follows them: d lengths of paths
abbrev pub follower_pairs : List ℕ → ℕ → ℕ → ℕ → ℕ → List (ℕ × ℕ)
follower_pairs first a b n zero = []
follower_pairs first a b n (suc d) = run_pairs a b n ++ follower_pairs first (get_or first a 0) (get_or first b 0) (get_or first (a + n) 0 - get_or first a 0) d

-- all of them are in the table
abbrev pub RunsIn : List ℕ → ℕ → ℕ → ℕ → ℕ → Type 0
RunsIn first a b n zero = Unit {0}
RunsIn first a b n (suc d) = (a + n ≤ 256) × (b + n ≤ 256) × (get_or first a 0 ≤ get_or first (a + n) 0) × RunsIn first (get_or first a 0) (get_or first b 0) (get_or first (a + n) 0 - get_or first a 0) d

-- ---- the pairs of an equation: behind each path u that ends at its start, both sides and what follows them
abbrev pub pairs_at : Paths → ℕ → Path → Path → ℕ → List (ℕ × ℕ)
pairs_at p nodes l r u =
    cond (eqb (get_or p.end u 0) l.start)
    (follower_pairs p.first (walk_from p.first p.rank u (path_of l).edges) (walk_from p.first p.rank u (path_of r).edges) 1 nodes)
    []

abbrev pub equation_pairs : Paths → ℕ → Path → Path → List (ℕ × ℕ)
equation_pairs p nodes l r = concat_map (pairs_at p nodes l r) (upto p.count)

-- all of them are in the table
pub record Joinable (p : Paths) (nodes : ℕ) (l r : Path) : Type 0 where
  pub few : p.count ≤ 256
  pub start : l.start < 16
  pub left_short : l.length ≤ 15
  pub right_short : r.length ≤ 15
  pub left : (u : ℕ) → u < p.count → get_or p.end u 0 ≡ l.start → WalkIn p.first p.rank u (path_of l).edges
  pub right : (u : ℕ) → u < p.count → get_or p.end u 0 ≡ l.start → WalkIn p.first p.rank u (path_of r).edges
  pub runs : (u : ℕ) → u < p.count → get_or p.end u 0 ≡ l.start
      → RunsIn p.first (walk_from p.first p.rank u (path_of l).edges) (walk_from p.first p.rank u (path_of r).edges) 1 nodes

abbrev pub schema_pairs : Schema → Paths → List (ℕ × ℕ)
schema_pairs t p = concat_map (λ q. equation_pairs p t.graph.nodes (get_or t.left q no_path) (get_or t.right q no_path)) (upto t.equations)

-- the class number of path i
abbrev pub class_at : meaning.Schema → ℕ → ℕ
class_at S i = class_number S (path_at S.graph i)

-- the table of a schema's paths, with their classes
pub record IsPaths (S : meaning.Schema) (p : Paths) : Type 0 where
  pub table : IsTable S.graph p
  pub class : Filled 256 (class_at S) p.count p.class
