-- The composed mapping, in one hop what F and then G are in two, and the call that writes it (document 02, C-17).
use Rattle.std.specs.Prelude.{ℕ, List, [], ◌∷◌, map, length}
use Rattle.theory.specs.Mapping as theory_mapping
use Rattle.meaning.specs.Lists.{upto}
use Rattle.meaning.specs.Schema.{Schema}
use Rattle.meaning.specs.Category.{listed_category}
use Rattle.meaning.specs.Formats.{Mapping, mapping_sheet}
use Rattle.meaning.specs.Views.{node_image, edge_image, attribute_image}
use Rattle.meaning.specs.Judge.{judge_schema, judge_mapping}
use Rattle.meaning.specs.Calls.{Outcome, accepted, ◌>>=◌, at}

-- each node and attribute goes to its image's image, "each edge going to its image path's images joined": as they are, no first path of a class is chosen
abbrev pub composite : Mapping → Mapping → Mapping
composite F G = record {
  nodes = map (node_image G) F.nodes;
  edges = map (theory_mapping.image (edge_image G)) F.edges;
  attributes = map (attribute_image G) F.attributes;
}

-- each node, edge and attribute of S goes to itself
abbrev pub identity : Schema → Mapping
identity S = record { nodes = upto S.graph.nodes; edges = map (λ e. e ∷ []) (upto (length S.graph.edges)); attributes = upto (length S.attributes) }

-- three schemas, F from the first to the second and G from the second to the third
pub record Composable : Type 0 where
  pub S : Schema
  pub T : Schema
  pub U : Schema
  pub F : Mapping
  pub G : Mapping

-- "The composing call is lent S, T, U, F, G, judged in that order"
abbrev pub judge_composable : (s t u f g : List ℕ) → Outcome Composable
judge_composable s t u f g = do
  S ← at 1 (judge_schema s)
  T ← at 2 (judge_schema t)
  U ← at 3 (judge_schema u)
  F ← at 4 (judge_mapping (listed_category S) (listed_category T) f)
  G ← at 5 (judge_mapping (listed_category T) (listed_category U) g)
  accepted (record { S = S; T = T; U = U; F = F; G = G })

-- the mapping sheet from S to U
abbrev pub composed_sheet : Composable → List ℕ
composed_sheet x = mapping_sheet (composite x.F x.G)

abbrev pub compose : (s t u f g : List ℕ) → Outcome (List ℕ)
compose s t u f g = do
  x ← judge_composable s t u f g
  accepted (composed_sheet x)
