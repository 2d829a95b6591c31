-- Links along an edge of T, by arrays: the places of its target's components at its source, and where a row restricted to them stands.
use Rattle.std.specs.Prelude.{ℕ, ◌+◌, ◌*◌, ◌≤◌, ◌<◌, ◌≡◌, cond, List, ◌∷◌, length, get_or, ltb}
use Rattle.theory.specs.Numbering.{tabulate}
use Rattle.theory.specs.Schema.{Lex}
use Rattle.meaning.specs.Lists.{upto, sum_of, position, same_list}
use Rattle.schema.specs.declared.Graph.{Graph}
use Rattle.schema.specs.Decoded.{front_of}
use Rattle.paths.specs.declared.Paths.{Paths}
use Rattle.paths.specs.PathWalks.{walk_from, WalkIn}
use Rattle.instance.specs.Decoded.{column_of}
use Rattle.mapping.specs.PathEdges.{path_edges}
use Rattle.pi.specs.declared.components.Components.{Components}
use Rattle.pi.specs.declared.listed.TableRows.{TableRows}
use Rattle.pi.specs.Components.{place_of}

-- ---- an edge followed by a path

-- the number of edge e, from node d on, followed by path i
abbrev pub after_edge : Paths → ℕ → ℕ → ℕ → ℕ
after_edge paths d e i = walk_from paths.first paths.rank d (e ∷ path_edges paths i)

pub record Extends (paths : Paths) (d e i : ℕ) : Type 0 where
  pub path_low : i < 256
  pub short : get_or paths.length i 0 ≤ 15
  pub next_low : get_or paths.first d 0 + get_or paths.rank e 0 < 257
  pub within : WalkIn paths.first paths.rank d (e ∷ path_edges paths i)

-- ---- the place at edge e's source of component j of its target

abbrev pub source_of : Graph → ℕ → ℕ
source_of g e = get_or g.source e 0

abbrev pub target_of : Graph → ℕ → ℕ
target_of g e = get_or g.target e 0

abbrev pub path_after : Graph → Paths → Components → ℕ → ℕ → ℕ
path_after g paths k e j = after_edge paths (source_of g e) e (get_or k.first (64 * target_of g e + j) 0)

abbrev pub place_after : Graph → Paths → Components → ℕ → ℕ → ℕ
place_after g paths k e j =
    place_of k.node k.first (64 * source_of g e) (get_or k.count (source_of g e) 0)
    (get_or k.node (64 * target_of g e + j) 0) (get_or paths.class (path_after g paths k e j) 0)

-- what finding these places relies on
pub record Traced (g : Graph) (paths : Paths) (k : Components) (e : ℕ) : Type 0 where
  pub edge_low : e < 32
  pub source_low : source_of g e < 16
  pub target_low : target_of g e < 16
  pub source_few : get_or k.count (source_of g e) 0 ≤ 64
  pub target_few : get_or k.count (target_of g e) 0 ≤ 64
  pub extends : (j : ℕ) → j < get_or k.count (target_of g e) 0 → Extends paths (source_of g e) e (get_or k.first (64 * target_of g e + j) 0)
  pub number_low : (j : ℕ) → j < get_or k.count (target_of g e) 0 → path_after g paths k e j < 256

-- ---- rows of 64 numbers, of which the first ones count

-- entry p of the n numbers from base on, or 0 past their end
abbrev pub entry_of : List ℕ → ℕ → ℕ → ℕ → ℕ
entry_of l base n p = cond (ltb p n) (get_or l (base + p) 0) 0

-- the place of a row among `count` rows from row `first` on
abbrev pub row_place : List ℕ → ℕ → ℕ → List ℕ → ℕ → ℕ
row_place rows first count wanted m = position (λ x. same_list wanted (column_of rows (64 * (first + x)) m)) (upto count)

-- the rows of the table at d
abbrev pub table_rows : List ℕ → List ℕ → ℕ → TableRows
table_rows counts widths d = record { first = sum_of (front_of d counts); count = get_or counts d 0; width = get_or widths d 0 }

-- they stand in the list of rows
pub record Within (rows : List ℕ) (table : TableRows) : Type 0 where
  pub narrow : table.width ≤ 64
  pub few : table.count ≤ 512
  pub inside : 64 * (table.first + table.count) ≤ length rows

-- and ascend in lexicographic order
pub record Ordered (rows : List ℕ) (table : TableRows) : Type 0 where
  pub each : (x y : ℕ) → x < y → y < table.count → Lex (column_of rows (64 * (table.first + x)) table.width) (column_of rows (64 * (table.first + y)) table.width)

-- row x of a table with its numbers taken from the given places, among the rows of another table
abbrev pub link_place : List ℕ → TableRows → TableRows → (ℕ → ℕ) → ℕ → ℕ
link_place rows here there place x =
    row_place rows there.first there.count (tabulate there.width (λ j. entry_of rows (64 * (here.first + x)) here.width (place j))) there.width

-- and that along edge e
abbrev pub link_row : Graph → Paths → Components → List ℕ → List ℕ → ℕ → ℕ → ℕ
link_row g paths k counts rows e = link_place rows (table_rows counts k.count (source_of g e)) (table_rows counts k.count (target_of g e)) (place_after g paths k e)

pub record Linkable (g : Graph) (paths : Paths) (k : Components) (counts rows : List ℕ) : Type 0 where
  pub few : g.edges ≤ 32
  pub long : length counts ≡ 16
  pub traced : (e : ℕ) → e < g.edges → Traced g paths k e
  pub source_within : (e : ℕ) → e < g.edges → Within rows (table_rows counts k.count (source_of g e))
  pub target_within : (e : ℕ) → e < g.edges → Within rows (table_rows counts k.count (target_of g e))
  pub target_ordered : (e : ℕ) → e < g.edges → Ordered rows (table_rows counts k.count (target_of g e))
