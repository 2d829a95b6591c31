-- The category that a schema presents: its paths, with the first path of each class of equal ones (document 02, C-14).
-- The test of mappings (8), evenness, Sigma and Pi take no more of path equality than this.
use Rattle.std.specs.Prelude.{ℕ, Bool, List}
use Rattle.meaning.specs.Schema.{Path, identical, Schema, paths_from}
use Rattle.meaning.specs.PathEquality.{first_path}

pub record Category : Type 0 where
  pub schema : Schema
  pub paths_from : ℕ → List Path  -- paths from a node, in order: with each that stands for a class
  pub first_path : Path → Path  -- the path that stands for a path's class: the first of these that is equal to it

-- two paths are equal where the first paths of their classes are the same
abbrev pub equal : Category → Path → Path → Bool
equal C p q = identical (C.first_path p) (C.first_path q)

-- p stands for its class
abbrev pub is_first : Category → Path → Bool
is_first C p = identical (C.first_path p) p

-- that of a schema with a list of equations and no loop, by all its paths
abbrev pub listed_category : Schema → Category
listed_category S = record { schema = S; paths_from = paths_from S.graph; first_path = first_path S }
