-- What Sigma relies on, and what it promises of its tables.
use Rattle.std.specs.Prelude.{ℕ, ◌<◌, ◌≡◌, true, List, length, get_or}
use Rattle.meaning.specs.Formats as meaning
use Rattle.meaning.specs.Judge.{links_in_range}
use Rattle.meaning.specs.Evenness.{even}
use Rattle.meaning.specs.Sigma.{sigma}
use Rattle.schema.specs.declared.Schema.{Schema}
use Rattle.schema.specs.Decoded.{schema_of, category_of}
use Rattle.paths.specs.declared.Paths.{Paths}
use Rattle.instance.specs.declared.Instance.{Instance}
use Rattle.instance.specs.Decoded.{tables_of, Limits}
use Rattle.instance.specs.Stored.{Counts}
use Rattle.mapping.specs.declared.Mapping.{Mapping}
use Rattle.mapping.specs.Decoded.{mapping_of}
use Rattle.mapping.specs.Judged.{Schemas, Sound}
use Rattle.lifts.specs.Lifts.{joined_before}
use Rattle.sigma.specs.Joined.{AttributesOver}
use Rattle.sigma.specs.Lifted.{LiftsLead}

-- r has the counts of the joined lists
pub record Counted (s t : Schema) (f : Mapping) (run r : Instance) : Type 0 where
  pub counts : Counts t.graph.nodes (λ d. joined_before f.node run.counts d s.graph.nodes) r.counts

-- the lifts of each edge of T can be followed
pub record AllLead (s t : Schema) (p : Paths) (f : Mapping) (run : Instance) (lifts links : List ℕ) : Type 0 where
  pub each : (e : ℕ) → e < t.graph.edges → LiftsLead p f.node run.counts lifts links s.graph.nodes e (get_or t.graph.source e 0)

-- each attribute of T has one over it at each node over its own
pub record AllOver (s t : Schema) (f : Mapping) : Type 0 where
  pub each : (b : ℕ) → b < t.attributes → AttributesOver s f b (get_or t.node b 0)

-- ---- tables

-- an even mapping from S to T with the tables of their paths, and a run over S whose links exist
pub record Pushable (s t : Schema) (source-paths target-paths : Paths) (f : Mapping) (run : Instance) (links values : List ℕ) : Type 0 where
  pub schemas : Schemas s t source-paths target-paths
  pub mapping : Sound s t f
  pub is-even : even (category_of s) (category_of t) (mapping_of s f) ≡ true
  pub limits : Limits s run
  pub links_in : links_in_range (schema_of s) (tables_of s run links values) ≡ true

-- Sigma of the tables of a run
abbrev pub sigma_of : Schema → Schema → Mapping → Instance → List ℕ → List ℕ → meaning.Instance
sigma_of s t f run links values = sigma (category_of s) (category_of t) (mapping_of s f) (tables_of s run links values)

-- Sigma's tables stand in working arrays
pub record Pushed (s t : Schema) (f : Mapping) (run : Instance) (links values : List ℕ) (r : Instance) (followed copied : List ℕ) : Type 0 where
  pub says : tables_of t r followed copied ≡ sigma_of s t f run links values
  pub long : length r.counts ≡ 16
