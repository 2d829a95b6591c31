-- What Delta relies on, and what it promises of its tables.
use Rattle.std.specs.Prelude.{ℕ, ◌+◌, ◌*◌, ◌≤◌, ◌<◌, ◌≡◌, true, List, [], length, get_or}
use Rattle.theory.specs.Instance.{follow}
use Rattle.meaning.specs.Formats as meaning
use Rattle.meaning.specs.Judge.{images_fit}
use Rattle.meaning.specs.Delta.{delta}
use Rattle.schema.specs.declared.Schema.{Schema}
use Rattle.schema.specs.Decoded.{schema_of, front_of}
use Rattle.schema.specs.Judged.{Sound}
use Rattle.instance.specs.declared.Instance.{Instance}
use Rattle.instance.specs.Decoded.{rows_of, tables_of, Columns}
use Rattle.instance.specs.Followed.{link_in}
use Rattle.instance.specs.Stored.{Leads}
use Rattle.mapping.specs.declared.Mapping.{Mapping}
use Rattle.mapping.specs.Decoded.{image_of, no_image, mapping_of, Short}

-- S, T and a mapping from S to T that passed test 7
pub record Fitting (s t : Schema) (f : Mapping) : Type 0 where
  pub source : Sound s
  pub target : Sound t
  pub short : Short s.graph.edges f.edge
  pub fits : images_fit (schema_of s) (schema_of t) (mapping_of s f) ≡ true

-- ---- links and values

-- the edges of the image of edge e
abbrev pub edges_of_image : Mapping → ℕ → List ℕ
edges_of_image f e = image_of (get_or f.edge e no_image)

-- the row to which the image of edge e leads from row x
abbrev pub image_row : Mapping → List ℕ → ℕ → ℕ → ℕ
image_row f links e = follow (link_in links) (edges_of_image f e)

-- what following the image of each edge relies on
pub record EdgeImages (s : Schema) (f : Mapping) (counts links : List ℕ) : Type 0 where
  pub few : s.graph.edges ≤ 32
  pub columns : Columns s.graph.edges s.graph.source counts
  pub short : Short s.graph.edges f.edge
  pub leads : (e : ℕ) → e < s.graph.edges → Leads links (edges_of_image f e) (rows_of s.graph.source counts e)

-- row x of the column of the image of attribute a
abbrev pub image_value : List ℕ → List ℕ → ℕ → ℕ → ℕ
image_value attribute values a x = get_or values (512 * get_or attribute a 0 + x) 0

-- what copying the column of each attribute's image relies on
pub record AttributeImages (n : ℕ) (node attribute counts values : List ℕ) : Type 0 where
  pub few : n ≤ 16
  pub columns : Columns n node counts
  pub images : n ≤ length attribute
  pub within : (a : ℕ) → a < n → 512 * get_or attribute a 0 + 512 ≤ length values

-- ---- tables

-- Delta of the tables of j
abbrev pub delta_of : Schema → Schema → Mapping → Instance → List ℕ → List ℕ → meaning.Instance
delta_of s t f j links values = delta (schema_of s) (mapping_of s f) (tables_of t j links values)

-- d has the counts of Delta's tables
pub record Counted (s t : Schema) (f : Mapping) (j d : Instance) : Type 0 where
  pub says : front_of s.graph.nodes d.counts ≡ (delta_of s t f j [] []).counts
  pub long : length d.counts ≡ 16

-- Delta's tables stand in working arrays
pub record Pulled (s t : Schema) (f : Mapping) (j : Instance) (links values : List ℕ) (d : Instance) (followed copied : List ℕ) : Type 0 where
  pub says : tables_of s d followed copied ≡ delta_of s t f j links values
  pub long : length d.counts ≡ 16
