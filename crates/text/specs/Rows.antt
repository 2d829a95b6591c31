-- The text of rows, from columns that stand in arrays: a column's table is home k, and its cell of row r stands at max_rows * k + r.
use Rattle.std.specs.Prelude.{ℕ, ◌+◌, ◌*◌, ◌≤◌, Bool, cond, List, [], length, get_or, eqb}
use Rattle.meaning.specs.Lists.{upto, concat_map}
use Rattle.meaning.specs.Formats.{max_rows}
use Rattle.text.specs.Appended.{digits, part, line_of}

-- a number, where it is the row's own
unfoldable pub part_if : Bool → ℕ → List ℕ
part_if own n = cond own (part n) []

-- a row's cell of column k, where the column is one of the table
abbrev pub cell_text : List ℕ → List ℕ → ℕ → ℕ → ℕ → List ℕ
cell_text home cells table row k = part_if (eqb (get_or home k 0) table) (get_or cells (max_rows * k + row) 0)

-- a row's cells, columns ascending
unfoldable pub cells_text : List ℕ → List ℕ → ℕ → ℕ → List ℕ
cells_text home cells table row = concat_map (cell_text home cells table row) (upto (length home))

-- a row: table, row, link targets, values
abbrev pub row_text : List ℕ → List ℕ → List ℕ → List ℕ → ℕ → ℕ → List ℕ
row_text source links node values table row = line_of (digits table) (part row) (cells_text source links table row) (cells_text node values table row)

-- the rows of a table
unfoldable pub table_text : List ℕ → List ℕ → List ℕ → List ℕ → ℕ → ℕ → List ℕ
table_text source links node values table rows = concat_map (row_text source links node values table) (upto rows)

-- and of all tables
unfoldable pub tables_text : List ℕ → List ℕ → List ℕ → List ℕ → List ℕ → List ℕ
tables_text counts source links node values = concat_map (λ d. table_text source links node values d (get_or counts d 0)) (upto (length counts))

-- each column has its place in its array
pub record ColumnsFit (source links node values : List ℕ) : Type 0 where
  pub for_links : max_rows * length source ≤ length links
  pub for_values : max_rows * length node ≤ length values
