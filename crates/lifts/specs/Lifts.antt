-- Lifts of edges as path numbers, and joined lists by arrays.
use Rattle.std.specs.Prelude.{ℕ, zero, suc, ◌+◌, ◌/◌, ◌%◌, ◌<◌, ◌≡◌, cond, List, get_or, eqb}
use Rattle.meaning.specs.Sigma.{lift}
use Rattle.agreement.specs.Paths.{number_of, path_at}
use Rattle.schema.specs.declared.Schema.{Schema}
use Rattle.schema.specs.Decoded.{graph_of, category_of}
use Rattle.paths.specs.declared.Paths.{Paths}
use Rattle.mapping.specs.declared.Mapping.{Mapping}
use Rattle.mapping.specs.Decoded.{mapping_of}

-- r is the number of the lift of e at c
pub record IsLift (s t : Schema) (source-paths : Paths) (f : Mapping) (c e r : ℕ) : Type 0 where
  pub below : r < source-paths.count
  pub path : path_at (graph_of s.graph) r ≡ lift (category_of s) (category_of t) (mapping_of s f) c e
  pub number : r ≡ number_of (graph_of s.graph) (lift (category_of s) (category_of t) (mapping_of s f) c e)

-- of edge e and node c at 16 * e + c, in the first n places
pub record EdgeLifts (s t : Schema) (source-paths : Paths) (f : Mapping) (n : ℕ) (l : List ℕ) : Type 0 where
  pub each : (k : ℕ) → k < n → k % 16 < s.graph.nodes → get_or t.graph.source (k / 16) 0 ≡ get_or f.node (k % 16) 0 → IsLift s t source-paths f (k % 16) (k / 16) (get_or l k 0)

-- the rows that the nodes below n give to the table at d
abbrev pub joined_before : List ℕ → List ℕ → ℕ → ℕ → ℕ
joined_before node counts d zero = 0
joined_before node counts d (suc n) = joined_before node counts d n + cond (eqb (get_or node n 0) d) (get_or counts n 0) 0
