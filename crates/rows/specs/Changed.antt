-- What a run in working arrays is after a change.
use Rattle.std.specs.Prelude.{◌≡◌, List, ℕ}
use Rattle.meaning.specs.Formats as formats
use Rattle.schema.specs.declared.Schema.{Schema}
use Rattle.instance.specs.declared.Instance.{Instance}
use Rattle.instance.specs.Decoded.{tables_of, Limits}

-- the tables J stand there
pub record Becomes (t : Schema) (r : Instance) (links values : List ℕ) (J : formats.Instance) : Type 0 where
  pub says : tables_of t r links values ≡ J
  pub limits : Limits t r
