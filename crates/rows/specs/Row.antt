-- A row that stands in no table yet, in working arrays: its link along edge e at 512 * e, its value of attribute a at 512 * a.
use Rattle.std.specs.Prelude.{ℕ, ◌*◌, ◌≤◌, ◌<◌, ◌≡◌, true, List, [], ◌∷◌, length, get_or, set, replicate}
use Rattle.theory.specs.Instance.{follow}
use Rattle.meaning.specs.Formats as formats
use Rattle.meaning.specs.Rows.{row_links_in_range}
use Rattle.schema.specs.declared.Schema.{Schema}
use Rattle.schema.specs.Decoded.{schema_of}
use Rattle.instance.specs.declared.Instance.{Instance}
use Rattle.instance.specs.Decoded.{tables_of, Limits}
use Rattle.instance.specs.Tested.{Accepted}
use Rattle.instance.specs.Followed.{link_in, Stays}

-- the counts of one row of table c
abbrev pub row_counts : ℕ → List ℕ
row_counts c = set (replicate 16 0) c 1

-- that row
abbrev pub row_alone : ℕ → Instance
row_alone c = record { counts = row_counts c }

abbrev pub row_of : Schema → ℕ → List ℕ → List ℕ → formats.Instance
row_of t c links values = tables_of t (row_alone c) links values

-- the row to which edge e links the row
abbrev pub row_link : List ℕ → ℕ → ℕ
row_link row e = get_or row (512 * e) 0

-- the row to which edges lead from the row, whose own number is own
abbrev pub follow_row : List ℕ → List ℕ → List ℕ → ℕ → ℕ
follow_row row links [] own = own
follow_row row links (e ∷ es) own = follow (link_in links) es (row_link row e)

-- edges followed from the row on stay within the arrays
abbrev pub StaysOn : List ℕ → List ℕ → List ℕ → Type 0
StaysOn row links [] = Unit {0}
StaysOn row links (e ∷ es) = (512 * e < length row) × Stays links es (row_link row e)

-- ---- what the tests of a row rely on

-- the links of an accepted run, whatever its values
pub record AcceptedLinks (t : Schema) (i : Instance) (links : List ℕ) : Type 0 where
  pub limits : Limits t i
  pub room : 512 * t.graph.edges ≤ length links
  pub values : List ℕ
  pub accepted : Accepted t i links values

-- a row of table c with links to rows of the run
pub record RowLinked (t : Schema) (i : Instance) (c : ℕ) (links : List ℕ) : Type 0 where
  pub room : 512 * t.graph.edges ≤ length links
  pub links_in : row_links_in_range (schema_of t) (tables_of t i [] []) (row_of t c links []) ≡ true
