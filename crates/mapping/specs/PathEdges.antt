-- The edges of a path, by its number in a table of paths; and those of the first path of a class.
use Rattle.std.specs.Prelude.{ℕ, zero, suc, ◌≤◌, ◌≡◌, List, [], ◌∷◌, ◌++◌, get_or}
use Rattle.meaning.specs.Schema.{path}
use Rattle.meaning.specs.PathEquality.{first_path}
use Rattle.schema.specs.declared.Schema.{Schema}
use Rattle.schema.specs.declared.Path.{Path}
use Rattle.schema.specs.Decoded.{path_of, schema_of}
use Rattle.paths.specs.declared.Paths.{Paths}
use Rattle.mapping.specs.declared.Image.{Image}
use Rattle.mapping.specs.Decoded.{image_of}

-- the last n edges of path i, by the last edge of each path and the path without it
abbrev pub edges_back : List ℕ → List ℕ → ℕ → ℕ → List ℕ
edges_back last parent i zero = []
edges_back last parent i (suc n) = edges_back last parent (get_or parent i 0) n ++ (get_or last i 0 ∷ [])

abbrev pub path_edges : Paths → ℕ → List ℕ
path_edges paths i = edges_back paths.last paths.parent i (get_or paths.length i 0)

pub record EdgesTaken (paths : Paths) (i : ℕ) (r : Image) : Type 0 where
  pub says : image_of r ≡ path_edges paths i
  pub short : r.length ≤ 15

pub record FirstTaken (t : Schema) (w : Path) (r : Image) : Type 0 where
  pub says : path w.start (image_of r) ≡ first_path (schema_of t) (path_of w)
  pub short : r.length ≤ 15
