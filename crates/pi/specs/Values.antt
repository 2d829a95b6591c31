-- Values of an attribute of T, by arrays: read in the rows that stand at one place of its table's rows.
use Rattle.std.specs.Prelude.{ℕ, ◌+◌, ◌*◌, ◌≤◌, ◌<◌, ◌≡◌, List, length, get_or, eqb}
use Rattle.meaning.specs.Lists.{position}
use Rattle.schema.specs.declared.Schema.{Schema}
use Rattle.schema.specs.Decoded.{front_of}
use Rattle.paths.specs.declared.Paths.{Paths}
use Rattle.instance.specs.Decoded.{rows_of}
use Rattle.pi.specs.declared.components.Components.{Components}
use Rattle.pi.specs.declared.listed.TableRows.{TableRows}
use Rattle.pi.specs.Components.{place_of}
use Rattle.pi.specs.Links.{entry_of, table_rows, Within}

-- the attribute of S whose image is b
abbrev pub attribute_over : Schema → List ℕ → ℕ → ℕ
attribute_over s image b = position (eqb b) (front_of s.attributes image)

abbrev pub attribute_node : Schema → ℕ → ℕ
attribute_node t b = get_or t.node b 0

-- the place of attribute a's node with the trivial path, at b's table
abbrev pub value_place : Schema → Schema → Paths → Components → ℕ → ℕ → ℕ
value_place s t paths k a b = place_of k.node k.first (64 * attribute_node t b) (get_or k.count (attribute_node t b) 0) (attribute_node s a) (get_or paths.class (attribute_node t b) 0)

-- row x of a table leads to the row at a place of it, which has its value among n values from base on
abbrev pub value_through : List ℕ → TableRows → ℕ → List ℕ → ℕ → ℕ → ℕ → ℕ
value_through rows here place values base n x = entry_of values base n (entry_of rows (64 * (here.first + x)) here.width place)

-- the value of attribute b in row x
abbrev pub value_row : Schema → Schema → Paths → Components → List ℕ → List ℕ → List ℕ → List ℕ → List ℕ → ℕ → ℕ → ℕ
value_row s t paths k image run counts rows values b =
    value_through rows (table_rows counts k.count (attribute_node t b)) (value_place s t paths k (attribute_over s image b) b)
    values (512 * attribute_over s image b) (rows_of s.node run (attribute_over s image b))

pub record Readable (s t : Schema) (k : Components) (image run counts rows values : List ℕ) : Type 0 where
  pub source_few : s.attributes ≤ 16
  pub target_few : t.attributes ≤ 16
  pub long : length counts ≡ 16
  pub run_long : length run ≡ 16
  pub values_long : 512 * s.attributes ≤ length values
  pub attribute-in : (b : ℕ) → b < t.attributes → attribute_over s image b < s.attributes
  pub node_low : (a : ℕ) → a < s.attributes → attribute_node s a < 16
  pub rows_few : (a : ℕ) → a < s.attributes → rows_of s.node run a ≤ 512
  pub home_low : (b : ℕ) → b < t.attributes → attribute_node t b < 16
  pub within : (b : ℕ) → b < t.attributes → Within rows (table_rows counts k.count (attribute_node t b))
