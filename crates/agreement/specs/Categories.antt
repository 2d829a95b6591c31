-- What the test of mappings, evenness, Sigma and Pi take of a category, and no more.
use Rattle.std.specs.Prelude.{ℕ, ◌<◌, ◌≡◌, true}
use mathlib.Core.List.{List, Memᴰ}
use Rattle.theory.specs.Schema.{IsPath, PathBefore, IsFirst}
use Rattle.theory.specs.Pi.{Sorted}
use Rattle.meaning.specs.Schema.{Path, path}
use Rattle.meaning.specs.Category.{Category}
use Rattle.meaning.specs.Views.{schema_of}
use Rattle.meaning.specs.Judge.{is_well_formed}
use Rattle.agreement.specs.Paths.{FirstEqual}

pub record IsCategory (C : Category) : Type 0 where
  pub fits : is_well_formed C.schema ≡ true
  -- the path that stands for a path's class: a chain leads to it, and to no path before it
  pub first : (p : Path) → IsPath (schema_of C.schema) p.start p.edges → FirstEqual C.schema p (C.first_path p)
  -- the listed paths are paths, in order, and each that stands for a class is among them
  pub from_path : (n : ℕ) → n < C.schema.graph.nodes → (p : Path) → Memᴰ p (C.paths_from n) → (p.start ≡ n) × IsPath (schema_of C.schema) n p.edges
  pub in_order : (n : ℕ) → Sorted (λ p q. PathBefore p.edges q.edges) (C.paths_from n)
  pub listed : (n : ℕ) → n < C.schema.graph.nodes → (g : List ℕ) → IsFirst (schema_of C.schema) n g → Memᴰ (path n g) (C.paths_from n)
