-- What a sheet holds, by table, edge and row, and as the theory's schema, mapping and instance.
use mathlib.Core.List.{List, [], Memᴰ}
use Rattle.std.specs.Prelude.{◌≡◌, ℕ, ◌<◌, length, get_or}
use Rattle.theory.specs.Schema as theory_schema
use Rattle.theory.specs.Instance as theory_instance
use Rattle.theory.specs.Mapping as theory_mapping
use Rattle.meaning.specs.Lists.{upto}
use Rattle.meaning.specs.Schema.{Path, path, Equation, Schema, source, target, attribute_at}
use Rattle.meaning.specs.Formats.{Mapping, Instance}

-- ---- a schema

-- an equation of S is one of those on its list, whose two sides have one start (refusal 4 sees to that)
pub data IsListed (S : Schema) : ℕ → List ℕ → List ℕ → Type 0 where
  listed : {q : Equation} → Memᴰ q S.equations → IsListed S q.left.start q.left.edges q.right.edges

abbrev pub schema_of : Schema → theory_schema.Schema
schema_of S = record {
  nodes = S.graph.nodes;
  edges = length S.graph.edges;
  attributes = length S.attributes;
  src = source S.graph;
  tgt = target S.graph;
  home = λ a. (attribute_at S a).node;
  kind = λ a. (attribute_at S a).kind;
  Equation = IsListed S;
}

-- ---- a mapping

abbrev pub node_image : Mapping → ℕ → ℕ
node_image F c = get_or F.nodes c 0

abbrev pub edge_image : Mapping → ℕ → List ℕ
edge_image F e = get_or F.edges e []

abbrev pub attribute_image : Mapping → ℕ → ℕ
attribute_image F a = get_or F.attributes a 0

-- a path's image: its edges' images, joined
abbrev pub path_image : Mapping → Path → Path
path_image F p = path (node_image F p.start) (theory_mapping.image (edge_image F) p.edges)

abbrev pub mapping_of : Schema → Schema → Mapping → theory_mapping.Mapping
mapping_of S T F = record { S = schema_of S; T = schema_of T; node = node_image F; edge = edge_image F; attribute = attribute_image F }

-- ---- an instance

abbrev pub count : Instance → ℕ → ℕ
count I c = get_or I.counts c 0

-- the rows of table c
abbrev pub rows : Instance → ℕ → List ℕ
rows I c = upto (count I c)

-- the row to which edge e links row r
abbrev pub link : Instance → ℕ → ℕ → ℕ
link I e r = get_or (get_or I.links e []) r 0

-- the links along edge e, row by row
abbrev pub link_column : Instance → ℕ → List ℕ
link_column I e = get_or I.links e []

abbrev pub column : Instance → ℕ → List ℕ
column I a = get_or I.values a []

abbrev pub value : Instance → ℕ → ℕ → ℕ
value I a r = get_or (column I a) r 0

-- the row to which a path leads from row r
abbrev pub follow : Instance → List ℕ → ℕ → ℕ
follow I es r = theory_instance.follow (link I) es r

abbrev pub instance_of : Instance → theory_instance.Instance ℕ
instance_of I = record { count = count I; link = link I; value = value I }

-- each list is as long as the schema and the counts say
pub record Shaped (S : Schema) (I : Instance) : Type 0 where
  pub tables : length I.counts ≡ S.graph.nodes
  pub edges : length I.links ≡ length S.graph.edges
  pub attributes : length I.values ≡ length S.attributes
  pub links : (e : ℕ) → e < length S.graph.edges → length (get_or I.links e []) ≡ count I (source S.graph e)
  pub values : (a : ℕ) → a < length S.attributes → length (column I a) ≡ count I (attribute_at S a).node
