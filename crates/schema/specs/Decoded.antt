-- What the decoded structs mean, and what the decoders promise of them.
use Rattle.std.specs.Prelude.{ℕ, ◌+◌, ◌*◌, ◌^◌, ◌≤◌, ◌<◌, ◌≡◌, Bool, cond, List, [], length, get_or, replicate, Option, MatchOption}
use Rattle.bits.specs.Field as bits
use Rattle.theory.specs.Numbering.{tabulate}
use Rattle.meaning.specs.Sheet.{Read, fails, reads, Judged, judged}
use Rattle.meaning.specs.Schema as meaning
use Rattle.meaning.specs.Category.{Category, listed_category}
use Rattle.meaning.specs.Formats as formats
use Rattle.meaning.specs.Formats.{read_path, read_equation, read_body}
use Rattle.meaning.proofs.Formats.{edges_in}
use Rattle.schema.specs.declared.Graph.{Graph}
use Rattle.schema.specs.declared.Path.{Path}
use Rattle.schema.specs.declared.Schema.{Schema}
use Rattle.schema.specs.declared.decode.Counts.{Counts}
use Rattle.schema.specs.declared.decode.PathRead.{PathRead}
use Rattle.schema.specs.declared.decode.EquationRead.{EquationRead}

-- ---- what a struct means

-- the first n numbers of an array
abbrev pub front_of : ℕ → List ℕ → List ℕ
front_of n l = tabulate n (λ i. get_or l i 0)

abbrev pub path_of : Path → meaning.Path
path_of p = meaning.path p.start (front_of p.length p.edges)

abbrev pub edges_of : ℕ → List ℕ → List ℕ → List meaning.Edge
edges_of n source target = tabulate n (λ i. record { source = get_or source i 0; target = get_or target i 0 })

abbrev pub graph_of : Graph → meaning.Graph
graph_of g = record { nodes = g.nodes; edges = edges_of g.edges g.source g.target }

-- the edges alone, for what does not depend on the number of nodes
abbrev pub links_of : ℕ → List ℕ → List ℕ → meaning.Graph
links_of n source target = record { nodes = 0; edges = edges_of n source target }

-- what stands past the end of an array of paths
abbrev pub no_path : Path
no_path = record { start = 0; length = 0; edges = [] }

abbrev pub equation_of : Path → Path → meaning.Equation
equation_of l r = record { left = path_of l; right = path_of r }

abbrev pub equations_of : ℕ → List Path → List Path → List meaning.Equation
equations_of n l r = tabulate n (λ i. equation_of (get_or l i no_path) (get_or r i no_path))

abbrev pub schema_of : Schema → meaning.Schema
schema_of t = record {
  graph = graph_of t.graph;
  attributes = tabulate t.attributes (λ i. record { node = get_or t.node i 0; kind = get_or t.kind i 0 });
  equations = equations_of t.equations t.left t.right;
}

-- the category that it presents
abbrev pub category_of : Schema → Category
category_of t = listed_category (schema_of t)

abbrev pub empty_path : Path
empty_path = record { start = 0; length = 0; edges = replicate 16 0 }

-- ---- fields of one width

-- n fields of width bits, step bits apart, lie in s
pub record Block (s : List ℕ) (at step width n : ℕ) : Type 0 where
  pub few : n ≤ 16
  pub narrow : width ≤ 8
  pub counted : at + step * n < 2 ^ 64
  pub within : (i : ℕ) → i < n → at + step * i + width ≤ 8 * length s

-- they stand at the front of l, which has room for `size`
pub record Column (s : List ℕ) (at step width size n : ℕ) (l : List ℕ) : Type 0 where
  pub each : (i : ℕ) → i < n → get_or l i 0 ≡ bits.field s (at + step * i) width
  pub long : length l ≡ size

-- ---- paths and equations

-- a position in s, and k more is a position too
pub record Near (s : List ℕ) (at k : ℕ) : Type 0 where
  pub inside : at ≤ 8 * length s
  pub counted : at + k < 2 ^ 62

module _ {A : Type 0} where
  abbrev pub read_of : Bool → A → ℕ → Read A
  read_of cut a next = cond cut (fails 1) (reads a next)

-- a path that was read
pub record PathTaken (s : List ℕ) (at : ℕ) (r : PathRead) : Type 0 where
  pub says : read_path s at ≡ reads (path_of r.path) r.next
  pub inside : r.next ≤ 8 * length s
  pub near : r.next ≤ at + 83
  pub short : r.path.length ≤ 15

-- that path, if the bits do not end before it does
abbrev pub PathFound : List ℕ → ℕ → Option PathRead → Type 0
PathFound s at r = MatchOption r (read_path s at ≡ fails 1) (PathTaken s at)

-- an equation that was read
pub record EquationTaken (s : List ℕ) (at : ℕ) (r : EquationRead) : Type 0 where
  pub says : read_equation s at ≡ reads (equation_of r.left r.right) r.next
  pub inside : r.next ≤ 8 * length s
  pub near : r.next ≤ at + 166
  pub short : (r.left.length ≤ 15) × (r.right.length ≤ 15)

-- that equation, if the bits do not end before it does
abbrev pub EquationFound : List ℕ → ℕ → Option EquationRead → Type 0
EquationFound s at r = MatchOption r (read_equation s at ≡ fails 1) (EquationTaken s at)

-- the first n paths of an array have at most 15 edges
pub record Short (n : ℕ) (l : List Path) : Type 0 where
  pub each : (i : ℕ) → i < n → (get_or l i no_path).length ≤ 15

-- ---- a schema

pub record GraphTaken (s : List ℕ) (n m : ℕ) (g : Graph) : Type 0 where
  pub nodes : g.nodes ≡ n
  pub edges : g.edges ≡ m
  pub says : edges_of g.edges g.source g.target ≡ edges_in s 22 m

abbrev pub counts_of : Counts → formats.Counts
counts_of c = record { nodes = c.nodes; edges = c.edges; attributes = c.attributes; equations = c.equations }

-- the counts are within their limits
pub record InLimits (c : formats.Counts) : Type 0 where
  pub nodes : c.nodes ≤ 16
  pub edges : c.edges ≤ 32
  pub attributes : c.attributes ≤ 16
  pub equations : c.equations ≤ 32

-- all but the equations, for which there is room
pub record TablesTaken (c : formats.Counts) (s : List ℕ) (t : Schema) : Type 0 where
  pub graph : GraphTaken s c.nodes c.edges t.graph
  pub attributes : t.attributes ≡ c.attributes
  pub node : Column s (22 + 8 * c.edges) 8 4 16 c.attributes t.node
  pub kind : Column s (22 + 8 * c.edges + 4) 8 4 16 c.attributes t.kind
  pub equations : t.equations ≡ c.equations
  pub long : (length t.left ≡ 32) × (length t.right ≡ 32)

abbrev pub on_body : formats.Counts → List ℕ → Judged meaning.Schema
on_body c s = judged (read_body c s 22)

-- the counts are within their limits, and so are the lengths of the equations' sides
pub record Limits (t : Schema) : Type 0 where
  pub nodes : t.graph.nodes ≤ 16
  pub edges : t.graph.edges ≤ 32
  pub attributes : t.attributes ≤ 16
  pub equations : t.equations ≤ 32
  pub left : Short t.equations t.left
  pub right : Short t.equations t.right
