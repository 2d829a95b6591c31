-- What the tests of a mapping rely on, and what its judge promises.
use Rattle.std.specs.Prelude.{ℕ, ◌<◌, ◌≤◌, ◌≡◌, true, List, get_or}
use Rattle.theory.specs.Mapping.{image}
use Rattle.meaning.specs.Schema as meaning
use Rattle.meaning.specs.Formats as formats
use Rattle.meaning.specs.Views.{path_image}
use Rattle.meaning.specs.Judge.{images_fit, keeps_equations}
use Rattle.agreement.specs.Paths.{path_count, number_of, path_at}
use Rattle.schema.specs.declared.Path.{Path}
use Rattle.schema.specs.declared.Schema.{Schema}
use Rattle.schema.specs.Decoded.{path_of, schema_of, category_of}
use Rattle.schema.specs.Judged as schemas
use Rattle.paths.specs.declared.Paths.{Paths}
use Rattle.paths.specs.Table.{Filled, Index}
use Rattle.paths.specs.Classes.{class_at, IsPaths}
use Rattle.paths.specs.PathWalks.{WalkIn}
use Rattle.mapping.specs.declared.Image.{Image}
use Rattle.mapping.specs.declared.Mapping.{Mapping}
use Rattle.mapping.specs.Decoded.{image_of, no_image, mapping_of, Short}

-- the node images are nodes of T
pub record NodesIn (s t : Schema) (f : Mapping) : Type 0 where
  pub each : (c : ℕ) → c < s.graph.nodes → get_or f.node c 0 < t.graph.nodes

-- two schemas with their tables of paths
pub record Schemas (s t : Schema) (source_paths target_paths : Paths) : Type 0 where
  pub source : schemas.Sound s
  pub target : schemas.Sound t
  pub source-paths : IsPaths (schema_of s) source_paths
  pub target-paths : IsPaths (schema_of t) target_paths

-- and a mapping between them that passed test 7
pub record Imageable (s t : Schema) (source-paths target-paths : Paths) (f : Mapping) : Type 0 where
  pub schemas : Schemas s t source-paths target-paths
  pub short : Short s.graph.edges f.edge
  pub fits : images_fit (schema_of s) (schema_of t) (mapping_of s f) ≡ true

-- the image of path i of S, as its number among the paths of T
abbrev pub image_number : meaning.Schema → meaning.Schema → formats.Mapping → ℕ → ℕ
image_number S T F i = number_of T.graph (path_image F (path_at S.graph i))

-- ---- test 8

-- the numbers of T's paths, and their classes
pub record Numbers (T : meaning.Schema) (first rank class : List ℕ) : Type 0 where
  pub index : Index T.graph first rank
  pub classes : Filled 256 (class_at T) (path_count T.graph) class

-- and a mapping that passed test 7
pub record Testable (s t : Schema) (first rank class : List ℕ) (f : Mapping) : Type 0 where
  pub source : schemas.Sound s
  pub target : schemas.Sound t
  pub numbers : Numbers (schema_of t) first rank class
  pub short : Short s.graph.edges f.edge
  pub fits : images_fit (schema_of s) (schema_of t) (mapping_of s f) ≡ true

-- the images of edges, joined
abbrev pub joined_images : List Image → List ℕ → List ℕ
joined_images edge es = image (λ e. image_of (get_or edge e no_image)) es

-- a path whose image can be walked
pub record Walkable (first rank node : List ℕ) (edge : List Image) (p : Path) : Type 0 where
  pub short : p.length ≤ 15
  pub start : p.start < 16
  pub edges : (i : ℕ) → i < p.length → get_or p.edges i 0 < 32
  pub images : (i : ℕ) → i < p.length → (get_or edge (get_or p.edges i 0) no_image).length ≤ 15
  pub within : WalkIn first rank (get_or node p.start 0) (joined_images edge (path_of p).edges)

-- ---- the judge

-- what the code that works on a judged mapping relies on
pub record Sound (s t : Schema) (f : Mapping) : Type 0 where
  pub short : Short s.graph.edges f.edge
  pub fits : images_fit (schema_of s) (schema_of t) (mapping_of s f) ≡ true
  pub keeps : keeps_equations (category_of s) (category_of t) (mapping_of s f) ≡ true
