-- A whole text at the front of a lent buffer, and what its tables must be.
use Rattle.std.specs.Prelude.{ℕ, ◌≤◌, ◌<◌, ◌≡◌, List, ◌++◌, length, drop}
use Rattle.meaning.specs.Lists.{sum_of}
use Rattle.meaning.specs.Formats.{max_rows}
use Rattle.meaning.specs.Views.{link}
use Rattle.meaning.specs.Calls.{Migrated}
use Rattle.schema.specs.declared.Schema.{Schema}
use Rattle.schema.specs.Decoded.{Limits, schema_of}
use Rattle.instance.specs.declared.Instance.{Instance}
use Rattle.instance.specs.Decoded.{tables_of, RoomFor}
use Rattle.text.specs.declared.Text.{Text}

-- no text is longer: a first line of 19 bytes, and a line of 311 for each row
abbrev pub max_text_bytes : ℕ
max_text_bytes = 159251

-- bytes behind the text keep their values
pub record Written (text old : List ℕ) (r : Text) (new : List ℕ) : Type 0 where
  pub length_is : r.length ≡ length text
  pub bytes : new ≡ text ++ drop (length text) old

abbrev pub migrated_of : Schema → Instance → List ℕ → List ℕ → Migrated
migrated_of t i links values = record { schema = schema_of t; tables = tables_of t i links values }

-- tables of an accepted instance: links and rows within the limit of rows
pub record Printable (t : Schema) (i : Instance) (links values : List ℕ) : Type 0 where
  pub limits : Limits t
  pub room : RoomFor t links values
  pub rows : sum_of (tables_of t i links values).counts ≤ max_rows
  pub targets : (e : ℕ) → e < t.graph.edges → (r : ℕ) → link (tables_of t i links values) e r < max_rows
