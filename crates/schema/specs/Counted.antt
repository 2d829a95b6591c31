-- What the counts of paths say, and what they rely on.
use Rattle.std.specs.Prelude.{ℕ, min, ◌+◌, ◌<◌, ◌≤◌, ◌≡◌, List, length, get_or}
use Rattle.meaning.specs.Schema.{all_paths, has_loop}
use Rattle.meaning.proofs.PathCounts.{sum_edges}
use Rattle.schema.specs.declared.Graph.{Graph}
use Rattle.schema.specs.declared.count.Count.{Count}
use Rattle.schema.specs.Decoded.{graph_of}

-- a graph whose edges join nodes: what test 4 gives
pub record Fit (g : Graph) : Type 0 where
  pub nodes : g.nodes ≤ 16
  pub edges : g.edges ≤ 32
  pub sources : (e : ℕ) → e < g.edges → get_or g.source e 0 < g.nodes
  pub targets : (e : ℕ) → e < g.edges → get_or g.target e 0 < g.nodes

-- what stands in a tally from a position on
abbrev pub row : List ℕ → ℕ → ℕ → ℕ
row t at n = get_or t (at + n) 0

-- each node's number in the row at a position is capped
pub record Few (nodes : ℕ) (t : List ℕ) (at : ℕ) : Type 0 where
  pub each : (n : ℕ) → n < nodes → row t at n ≤ 257

-- nothing is counted yet from a position on
pub record Blank (t : List ℕ) (at : ℕ) : Type 0 where
  pub each : (i : ℕ) → at ≤ i → get_or t i 0 ≡ 0

pub record First (nodes : ℕ) (r : List ℕ) : Type 0 where
  pub each : (n : ℕ) → n < nodes → get_or r n 0 ≡ 1
  pub blank : Blank r 16

pub record Next (g : Graph) (t : List ℕ) (at : ℕ) (r : List ℕ) : Type 0 where
  pub each : (n : ℕ) → n < g.nodes → row r (at + 16) n ≡ min 257 (sum_edges (graph_of g) (row t at) n g.edges)
  pub blank : Blank r (at + 32)

pub record Counted (g : Graph) (r : Count) : Type 0 where
  pub paths : r.paths ≡ min 257 (length (all_paths (graph_of g)))
  pub looped : r.looped ≡ has_loop (graph_of g)
