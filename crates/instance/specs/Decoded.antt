-- What the structs and the working arrays of an instance mean, and what the decoder promises of them.
use Rattle.std.specs.Prelude.{ℕ, ◌+◌, ◌*◌, ◌^◌, ◌≤◌, ◌<◌, ◌≡◌, Bool, ◌&&◌, List, length, get_or, leb, Option, Some, None, IfSome}
use Rattle.bits.specs.Field as bits
use Rattle.theory.specs.Numbering.{tabulate}
use Rattle.meaning.specs.Lists.{sum_of}
use Rattle.meaning.specs.Sheet.{Read, Reader, fails, reads, in_turn, times, field}
use Rattle.meaning.specs.Formats as meaning
use Rattle.schema.specs.declared.Schema.{Schema}
use Rattle.schema.specs.Decoded.{front_of}
use Rattle.instance.specs.declared.Instance.{Instance}

-- ---- what structs and arrays mean

-- n numbers of an array from base on
abbrev pub column_of : List ℕ → ℕ → ℕ → List ℕ
column_of l base n = tabulate n (λ r. get_or l (base + r) 0)

-- column k has a row for each of its table, home k
abbrev pub rows_of : List ℕ → List ℕ → ℕ → ℕ
rows_of home counts k = get_or counts (get_or home k 0) 0

-- n columns of the given rows, 512 apart
abbrev pub columns_of : ℕ → (ℕ → ℕ) → List ℕ → List (List ℕ)
columns_of n rows l = tabulate n (λ k. column_of l (512 * k) (rows k))

abbrev pub tables_of : Schema → Instance → List ℕ → List ℕ → meaning.Instance
tables_of t i links values = record {
  counts = front_of t.graph.nodes i.counts;
  links = columns_of t.graph.edges (rows_of t.graph.source i.counts) links;
  values = columns_of t.attributes (rows_of t.node i.counts) values;
}

-- ---- what a call is lent

-- a column of links for each edge, and one of values for each attribute, that a schema can have
abbrev pub max_links : ℕ
max_links = meaning.max_edges * meaning.max_rows

abbrev pub max_values : ℕ
max_values = meaning.max_attributes * meaning.max_rows

-- working arrays for the instances of every schema
pub record Room (links values : List ℕ) : Type 0 where
  pub for_links : length links ≡ max_links
  pub for_values : length values ≡ max_values

-- working arrays for the instances of a schema
pub record RoomFor (t : Schema) (links values : List ℕ) : Type 0 where
  pub for_links : 512 * t.graph.edges ≤ length links
  pub for_values : 512 * t.attributes ≤ length values

-- at most 4 edges and at most 4 attributes
abbrev pub has_few_columns : Schema → Bool
has_few_columns t = leb t.graph.edges 4 && leb t.attributes 4

-- ---- fields of one width

-- n fields lie in s from a position on
pub record Fields (s : List ℕ) (at width n : ℕ) : Type 0 where
  pub narrow : width ≤ 32
  pub counted : at + width * n < 2 ^ 64
  pub within : at + width * n ≤ 8 * length s

-- the leading counts of n tables
abbrev pub counts_in : ℕ → List ℕ → List ℕ
counts_in n s = tabulate n (λ i. bits.field s (0 + 10 * i) 10)

-- n columns, each of a table with at most 512 rows
pub record Columns (n : ℕ) (home counts : List ℕ) : Type 0 where
  pub homes : n ≤ length home
  pub tables : (k : ℕ) → k < n → get_or home k 0 < length counts
  pub rows : (k : ℕ) → k < n → rows_of home counts k ≤ 512

abbrev pub read_columns : ℕ → ℕ → (ℕ → ℕ) → Reader (List (List ℕ))
read_columns width n rows = in_turn (λ k. times (rows k) (field width)) (tabulate n (λ k. k))

-- columns and the place behind them, or that the bits end before they do
abbrev pub read_to : Option ℕ → List (List ℕ) → Read (List (List ℕ))
read_to None columns = fails 1
read_to (Some next) columns = reads columns next

pub record ColumnsTaken (s : List ℕ) (at width n : ℕ) (home counts : List ℕ) (r : Option ℕ) (out : List ℕ) : Type 0 where
  pub says : read_to r (columns_of n (rows_of home counts) out) ≡ read_columns width n (rows_of home counts) s at
  pub inside : IfSome r (λ next. next ≤ 8 * length s)
  pub near : IfSome r (λ next. next ≤ at + 16384 * n)

-- ---- an instance

-- at most 512 rows in all
pub record Limits (t : Schema) (i : Instance) : Type 0 where
  pub rows : sum_of (front_of t.graph.nodes i.counts) ≤ 512
  pub long : length i.counts ≡ 16
