-- Terms of the statements about schemas and paths: what tests 4 and 5 give, loops and heights, equal paths, the order and the numbers of paths, first paths.
use Rattle.std.specs.Prelude.{ℕ, suc, ◌<◌, ◌≤◌, ◌≡◌, true, false, ◌⊎◌, ◌↔◌, length, get_or}
use mathlib.Core.List.{List, [], Memᴰ}
use Rattle.theory.specs.Schema as theory
use Rattle.theory.specs.Schema.{IsPath, endpoint, Chain, Lex, IsFirst}
use Rattle.theory.specs.Pi.{Sorted}
use Rattle.meaning.specs.Lists.{position}
use Rattle.meaning.specs.Schema.{Path, path, identical, Equation, Graph, Schema, source, target, all_paths, has_loop}
use Rattle.meaning.specs.PathEquality.{first_path}
use Rattle.meaning.specs.Sheet.{sound, on_sheet}
use Rattle.meaning.specs.Formats.{read_schema, max_paths}
use Rattle.meaning.specs.Views.{schema_of}
use Rattle.meaning.specs.Judge.{is_well_formed}

-- what tests 4 and 5 of a schema sheet give
pub record WellFormed (S : Schema) : Type 0 where
  pub fits : is_well_formed S ≡ true
  pub acyclic : has_loop S.graph ≡ false

-- the right sides of the equations start where the left sides do: the theory's equations have one start
abbrev pub SameStarts : Schema → Type 0
SameStarts S = (q : Equation) → Memᴰ q S.equations → q.left.start ≡ q.right.start

-- ---- loops and heights

-- a path of at least one edge that leads from a node to itself
pub record Loop (S : theory.Schema) : Type 0 where
  pub node : ℕ
  pub edges : List ℕ
  pub some : 1 ≤ length edges
  pub path : IsPath S node edges
  pub closed : endpoint S.tgt node edges ≡ node

-- h gives each node one more than the largest of what it gives the targets of its edges, and 0 without edges: more than each of them, and no more
pub record IsHeight (G : Graph) (h : ℕ → ℕ) : Type 0 where
  pub above : (e : ℕ) → e < length G.edges → h (target G e) < h (source G e)
  pub reached : (n : ℕ) → n < G.nodes → (h n ≡ 0) ⊎ ((e : ℕ) × (e < length G.edges) × (source G e ≡ n) × (h n ≡ suc (h (target G e))))

-- ---- path equality

-- a chain of steps leads from p to q
pub record EqualPaths (S : Schema) (p q : Path) : Type 0 where
  pub starts : p.start ≡ q.start
  pub chain : Chain (schema_of S) p.start p.edges q.edges

-- ---- paths in order

-- by length, then start node, then edge numbers from the left
abbrev pub Before : Path → Path → Type 0
Before p q = (length p.edges < length q.edges) ⊎ ((length p.edges ≡ length q.edges) × ((p.start < q.start) ⊎ ((p.start ≡ q.start) × Lex p.edges q.edges)))

-- the list of all paths has each path, once, in this order
pub record ListsPaths (S : Schema) : Type 0 where
  pub each : (p : Path) → Memᴰ p (all_paths S.graph) ↔ IsPath (schema_of S) p.start p.edges
  pub in_order : Sorted Before (all_paths S.graph)

-- the sheet s reads as a well-formed schema S without a loop that has more than 256 paths
pub record Crowded (s : List ℕ) (S : Schema) : Type 0 where
  pub reads : on_sheet read_schema s ≡ sound S
  pub formed : WellFormed S
  pub crowd : max_paths < length (all_paths S.graph)

-- a path's number is its place among all paths
abbrev pub path_count : Graph → ℕ
path_count G = length (all_paths G)

abbrev pub number_of : Graph → Path → ℕ
number_of G p = position (identical p) (all_paths G)

abbrev pub path_at : Graph → ℕ → Path
path_at G i = get_or (all_paths G) i (path 0 [])

-- the number of a class is that of its first path
abbrev pub class_number : Schema → Path → ℕ
class_number S p = number_of S.graph (first_path S p)

-- g is the first of the paths that equal p
pub record FirstEqual (S : Schema) (p g : Path) : Type 0 where
  pub equal : EqualPaths S p g
  pub first : IsFirst (schema_of S) p.start g.edges
