-- A result written into a lent tray, from working arrays.
use Rattle.std.specs.Prelude.{ℕ, ◌+◌, ◌*◌, ◌^◌, ◌≤◌, ◌<◌, ◌≡◌, List, ◌++◌, length, drop}
use Rattle.bits.specs.Field.{bytes_for}
use Rattle.bits.specs.Put.{put_all}
use Rattle.theory.specs.Numbering.{tabulate}
use Rattle.meaning.specs.Lists.{sum_of, concat_map}
use Rattle.meaning.specs.Formats.{fields_of}
use Rattle.schema.specs.declared.Schema.{Schema}
use Rattle.instance.specs.declared.Instance.{Instance}
use Rattle.instance.specs.Decoded.{rows_of, columns_of, Columns}

-- the bytes at the front of the tray, and the others as they were
pub record Written (bytes tray : List ℕ) (n : ℕ) (out : List ℕ) : Type 0 where
  pub length_is : n ≡ length bytes
  pub says : out ≡ bytes ++ drop (length bytes) tray

-- there is room for n edges, with their number before them, from a position on
pub record EdgesFit (tray : List ℕ) (at n : ℕ) : Type 0 where
  pub few : n ≤ 15
  pub counted : at < 2 ^ 62
  pub within : at + 4 + 5 * n ≤ 8 * length tray

-- the rows of n columns together
abbrev pub rows_in : ℕ → (ℕ → ℕ) → ℕ
rows_in n rows = sum_of (tabulate n rows)

-- columns as fields of one width
abbrev pub column_fields : ℕ → ℕ → (ℕ → ℕ) → List ℕ → List (ℕ × ℕ)
column_fields width n rows l = concat_map (fields_of width) (columns_of n rows l)

-- there is room for them from a position on
pub record ColumnsFit (tray : List ℕ) (at width n : ℕ) (home counts l : List ℕ) : Type 0 where
  pub narrow : width ≤ 32
  pub counted : at + 16384 * n < 2 ^ 62
  pub columns : Columns n home counts
  pub long : 512 * n ≤ length l
  pub within : at + width * rows_in n (rows_of home counts) ≤ 8 * length tray

pub record ColumnsWritten (tray : List ℕ) (at width n : ℕ) (home counts l : List ℕ) (next : ℕ) (out : List ℕ) : Type 0 where
  pub next_is : next ≡ at + width * rows_in n (rows_of home counts)
  pub near : next ≤ at + 16384 * n
  pub says : out ≡ put_all tray at (column_fields width n (rows_of home counts) l)

-- the bits and the bytes of an instance's sheet
abbrev pub sheet_bits : Schema → Instance → ℕ
sheet_bits t i = 10 * t.graph.nodes + 9 * rows_in t.graph.edges (rows_of t.graph.source i.counts) + 32 * rows_in t.attributes (rows_of t.node i.counts)

abbrev pub sheet_bytes : Schema → Instance → ℕ
sheet_bytes t i = bytes_for (sheet_bits t i)
