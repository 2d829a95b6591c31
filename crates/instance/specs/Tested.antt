-- The tests of an instance, over its working arrays.
use Rattle.std.specs.Prelude.{ℕ, ◌*◌, ◌≡◌, Bool, true, List, ltb, get_or}
use Rattle.meaning.specs.Lists.{all}
use Rattle.meaning.specs.Formats.{Kinds, kinds, in_range}
use Rattle.meaning.specs.Judge.{links_in_range, values_in_range, obeys_equations}
use Rattle.schema.specs.declared.Schema.{Schema}
use Rattle.schema.specs.Decoded.{schema_of}
use Rattle.instance.specs.declared.Instance.{Instance}
use Rattle.instance.specs.Decoded.{rows_of, column_of, tables_of}

-- the links along edge e, as many as rows has for its source, are below what counts has for its target
abbrev pub link_test : List ℕ → List ℕ → List ℕ → List ℕ → List ℕ → ℕ → Bool
link_test source target rows counts links e = all (λ r. ltb r (rows_of target counts e)) (column_of links (512 * e) (rows_of source rows e))

-- the values of attribute a are of its kind
abbrev pub value_test : List ℕ → List ℕ → List ℕ → List ℕ → Kinds → ℕ → Bool
value_test node kind counts values ks a = all (in_range ks (get_or kind a 0)) (column_of values (512 * a) (rows_of node counts a))

-- ---- of a whole instance

-- what the code that works on an accepted instance relies on
pub record Accepted (t : Schema) (i : Instance) (links values : List ℕ) : Type 0 where
  pub links_in : links_in_range (schema_of t) (tables_of t i links values) ≡ true
  pub values_in : values_in_range kinds (schema_of t) (tables_of t i links values) ≡ true
  pub obeys : obeys_equations (schema_of t) (tables_of t i links values) ≡ true
