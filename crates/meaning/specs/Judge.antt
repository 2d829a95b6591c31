-- Each kind of sheet judged: read, then tested upward from 4, in the order of document 01, 'Why a sheet is sent back'.
use Rattle.std.specs.Prelude.{ℕ, Bool, true, false, not, ◌&&◌, List, [], length, get_or, leb, ltb, eqb}
use Rattle.theory.specs.Schema.{endpoint}
use Rattle.meaning.specs.Lists.{upto, all}
use Rattle.meaning.specs.Schema.{Edge, Attribute, Path, Equation, Graph, Schema, source, target, attribute_at, end, joins, is_path, all_paths, has_loop}
use Rattle.meaning.specs.Category.{Category, equal}
use Rattle.meaning.specs.Sheet.{Judged, faulty, sound, on_sheet}
use Rattle.meaning.specs.Formats.{Mapping, Instance, read_path_sheet, read_schema, read_mapping, read_instance, max_paths, Kinds, kinds, in_range}
use Rattle.meaning.specs.Views.{node_image, edge_image, attribute_image, path_image, count, rows, column, follow}

infixl 20 ◌>>=◌
module _ {A B : Type 0} where
  abbrev pub ◌>>=◌ : Judged A → (A → Judged B) → Judged B
  ◌>>=◌ (faulty n) f = faulty n
  ◌>>=◌ (sound a) f = f a

-- go on where the test passes, or refuse with the number
abbrev pub ensure : Bool → ℕ → Judged (Unit {0})
ensure true n = sound tt
ensure false n = faulty n

-- ---- path: 4

abbrev pub judge_path : Graph → List ℕ → Judged Path
judge_path G s = do
  p ← on_sheet read_path_sheet s
  _ ← ensure (is_path G p) 4
  sound p

-- ---- schema: 4, 5, 6

abbrev pub edge_fits : Graph → Edge → Bool
edge_fits G e = ltb e.source G.nodes && ltb e.target G.nodes

abbrev pub attribute_fits : Graph → Attribute → Bool
attribute_fits G a = ltb a.node G.nodes

-- both sides are paths, with one start and one end
abbrev pub equation_fits : Graph → Equation → Bool
equation_fits G q = is_path G q.left && is_path G q.right && eqb q.left.start q.right.start && eqb (end G q.left) (end G q.right)

-- 4 (stray): nothing names a missing node or edge, and an equation's sides are paths with one start and one end
abbrev pub is_well_formed : Schema → Bool
is_well_formed S = all (edge_fits S.graph) S.graph.edges && all (attribute_fits S.graph) S.attributes && all (equation_fits S.graph) S.equations

-- 6 (crowd)
abbrev pub has_few_paths : Graph → Bool
has_few_paths G = leb (length (all_paths G)) max_paths

-- 4, then 5 (ring), then 6
abbrev pub test_schema : Schema → Judged Schema
test_schema S = do
  _ ← ensure (is_well_formed S) 4
  _ ← ensure (not (has_loop S.graph)) 5
  _ ← ensure (has_few_paths S.graph) 6
  sound S

abbrev pub judge_schema : List ℕ → Judged Schema
judge_schema s = do
  S ← on_sheet read_schema s
  test_schema S

-- ---- mapping from S to T: 7, 8

-- an edge's image is a path from its source's image to its target's
abbrev pub edge_image_fits : Schema → Schema → Mapping → ℕ → Bool
edge_image_fits S T F e =
    joins T.graph (node_image F (source S.graph e)) (edge_image F e) &&
    eqb (endpoint (target T.graph) (node_image F (source S.graph e)) (edge_image F e)) (node_image F (target S.graph e))

-- an attribute's image exists, with the same kind, at the image of the attribute's node
abbrev pub attribute_image_fits : Schema → Schema → Mapping → ℕ → Bool
attribute_image_fits S T F a =
    ltb (attribute_image F a) (length T.attributes) &&
    eqb (attribute_at T (attribute_image F a)).kind (attribute_at S a).kind &&
    eqb (attribute_at T (attribute_image F a)).node (node_image F (attribute_at S a).node)

-- 7 (misfit)
abbrev pub images_fit : Schema → Schema → Mapping → Bool
images_fit S T F =
    all (λ d. ltb d T.graph.nodes) F.nodes &&
    all (edge_image_fits S T F) (upto (length S.graph.edges)) &&
    all (attribute_image_fits S T F) (upto (length S.attributes))

-- 8 (broken rule): an equation's sides have equal images
abbrev pub keeps_equations : Category → Category → Mapping → Bool
keeps_equations S T F = all (λ q. equal T (path_image F q.left) (path_image F q.right)) S.schema.equations

abbrev pub test_mapping : Category → Category → Mapping → Judged Mapping
test_mapping S T F = do
  _ ← ensure (images_fit S.schema T.schema F) 7
  _ ← ensure (keeps_equations S T F) 8
  sound F

abbrev pub judge_mapping : Category → Category → List ℕ → Judged Mapping
judge_mapping S T s = do
  F ← on_sheet (read_mapping S.schema) s
  test_mapping S T F

-- ---- instance of S: 9, 10, 11

-- 9 (dangling): a target row is below its table's count
abbrev pub links_in_range : Schema → Instance → Bool
links_in_range S I = all (λ e. all (λ r. ltb r (count I (target S.graph e))) (get_or I.links e [])) (upto (length S.graph.edges))

-- 10 (off scale): a value is in its kind's range
abbrev pub values_in_range : Kinds → Schema → Instance → Bool
values_in_range ks S I = all (λ a. all (in_range ks (attribute_at S a).kind) (column I a)) (upto (length S.attributes))

-- 11 (bent row): the two sides of an equation lead each row to the same row
abbrev pub obeys_equations : Schema → Instance → Bool
obeys_equations S I = all (λ q. all (λ r. eqb (follow I q.left.edges r) (follow I q.right.edges r)) (rows I q.left.start)) S.equations

abbrev pub test_instance : Schema → Instance → Judged Instance
test_instance S I = do
  _ ← ensure (links_in_range S I) 9
  _ ← ensure (values_in_range kinds S I) 10
  _ ← ensure (obeys_equations S I) 11
  sound I

abbrev pub judge_instance : Schema → List ℕ → Judged Instance
judge_instance S s = do
  I ← on_sheet (read_instance S) s
  test_instance S I
