-- What the tests from 4 up say of decoded structs, and what the judges promise.
use Rattle.std.specs.Prelude.{ℕ, ◌≤◌, ◌≡◌, true, false, Option, MatchOption}
use Rattle.meaning.specs.Schema as meaning
use Rattle.meaning.specs.Judge.{is_well_formed, has_few_paths}
use Rattle.schema.specs.declared.Graph.{Graph}
use Rattle.schema.specs.declared.Path.{Path}
use Rattle.schema.specs.declared.Schema.{Schema}
use Rattle.schema.specs.Decoded.{graph_of, path_of, schema_of, Limits}

-- where a path ends, if it is one
abbrev pub Followed : Graph → Path → Option ℕ → Type 0
Followed g p r =
    MatchOption r
    (meaning.is_path (graph_of g) (path_of p) ≡ false)
    (λ last. (meaning.is_path (graph_of g) (path_of p) ≡ true) × (last ≡ meaning.end (graph_of g) (path_of p)))

-- what the code that works on a judged schema relies on
pub record Sound (t : Schema) : Type 0 where
  pub limits : Limits t
  pub well-formed : is_well_formed (schema_of t) ≡ true
  pub acyclic : meaning.has_loop (graph_of t.graph) ≡ false
  pub few : has_few_paths (graph_of t.graph) ≡ true

-- a path of a graph, as the judge of a path sheet accepts it
pub record SoundPath (g : Graph) (p : Path) : Type 0 where
  pub short : p.length ≤ 15
  pub path : meaning.is_path (graph_of g) (path_of p) ≡ true
