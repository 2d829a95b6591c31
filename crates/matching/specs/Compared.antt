-- The test of a matching over working arrays. `tables` is the table list of A; the columns of A and of B along an edge or an attribute k stand
-- from 512 * k on; a list has the partners of A's rows, tables in order.
use Rattle.std.specs.Prelude.{ℕ, ◌+◌, ◌*◌, ◌≤◌, ◌<◌, ◌≡◌, Bool, true, List, ltb, eqb, length, get_or}
use Rattle.theory.specs.Numbering.{tabulate}
use Rattle.meaning.specs.Lists.{all, sum_of}
use Rattle.meaning.specs.Judge.{links_in_range}
use Rattle.schema.specs.declared.Schema.{Schema}
use Rattle.schema.specs.Decoded.{schema_of, front_of}
use Rattle.schema.specs.Judged.{Sound}
use Rattle.instance.specs.declared.Instance.{Instance}
use Rattle.instance.specs.declared.tables.Table.{Table}
use Rattle.instance.specs.Decoded.{column_of, tables_of, Limits, RoomFor}
use Rattle.instance.specs.Tables.{no_table}

-- the partners of an instance's rows, at the front of an array
abbrev pub partners_of : Schema → Instance → List ℕ → List ℕ
partners_of t a list = front_of (sum_of (front_of t.graph.nodes a.counts)) list

-- where the rows of table c begin, and how many they are
abbrev pub first_in : List Table → ℕ → ℕ
first_in tables c = (get_or tables c no_table).first

abbrev pub count_in : List Table → ℕ → ℕ
count_in tables c = (get_or tables c no_table).count

abbrev pub each_row : ℕ → (ℕ → Bool) → Bool
each_row n test = all test (tabulate n (λ r. r))

-- ---- of one row of a table whose rows begin at first

abbrev pub partner_at : List ℕ → ℕ → ℕ → ℕ
partner_at list first r = get_or list (first + r) 0

abbrev pub link_kept : List ℕ → ℕ → ℕ → List ℕ → List ℕ → ℕ → ℕ → Bool
link_kept list source target a b base r = eqb (partner_at list target (get_or a (base + r) 0)) (get_or b (base + partner_at list source r) 0)

abbrev pub value_kept : List ℕ → ℕ → List ℕ → List ℕ → ℕ → ℕ → Bool
value_kept list first a b base r = eqb (get_or a (base + r) 0) (get_or b (base + partner_at list first r) 0)

-- n rows stand in A's column from base on, and so do their partners in B's
pub record Paired (list : List ℕ) (first : ℕ) (a b : List ℕ) (base n : ℕ) : Type 0 where
  pub listed : first + n ≤ length list
  pub own : base + n ≤ length a
  pub other : (r : ℕ) → r < n → base + partner_at list first r < length b

-- the targets of n rows have partners
pub record Targets (list : List ℕ) (target : ℕ) (a : List ℕ) (base n : ℕ) : Type 0 where
  pub listed : (r : ℕ) → r < n → target + get_or a (base + r) 0 < length list

-- ---- of all rows of one table, edge or attribute

abbrev pub exist_test : List Table → List ℕ → List ℕ → ℕ → Bool
exist_test tables counts list c = all (λ x. ltb x (get_or counts c 0)) (column_of list (first_in tables c) (count_in tables c))

abbrev pub link_test : List ℕ → List ℕ → List Table → List ℕ → List ℕ → List ℕ → ℕ → Bool
link_test source target tables list a b e =
    each_row (count_in tables (get_or source e 0)) (link_kept list (first_in tables (get_or source e 0)) (first_in tables (get_or target e 0)) a b (512 * e))

abbrev pub value_test : List ℕ → List Table → List ℕ → List ℕ → List ℕ → ℕ → Bool
value_test node tables list a b k = each_row (count_in tables (get_or node k 0)) (value_kept list (first_in tables (get_or node k 0)) a b (512 * k))

-- the rows of n tables have their partners in a list
pub record TablesListed (n : ℕ) (tables : List Table) (list : List ℕ) : Type 0 where
  pub few : n ≤ 16
  pub listed : (c : ℕ) → c < n → first_in tables c + count_in tables c ≤ length list

-- n columns, each of one of 16 tables
pub record Homes (n : ℕ) (home : List ℕ) : Type 0 where
  pub long : n ≤ length home
  pub table : (k : ℕ) → k < n → get_or home k 0 < 16

pub record ColumnsPaired (n : ℕ) (home : List ℕ) (tables : List Table) (list a b : List ℕ) : Type 0 where
  pub homes : Homes n home
  pub each : (k : ℕ) → k < n → Paired list (first_in tables (get_or home k 0)) a b (512 * k) (count_in tables (get_or home k 0))

pub record LinksPaired (n : ℕ) (source target : List ℕ) (tables : List Table) (list a b : List ℕ) : Type 0 where
  pub sources : ColumnsPaired n source tables list a b
  pub targets : Homes n target
  pub each : (e : ℕ) → e < n → Targets list (first_in tables (get_or target e 0)) a (512 * e) (count_in tables (get_or source e 0))

-- ---- of two instances: links of A lead to rows

pub record Comparable (t : Schema) (a : Instance) (links values : List ℕ) (b : Instance) (links' values' list : List ℕ) : Type 0 where
  pub sound : Sound t
  pub limits : Limits t a
  pub limits' : Limits t b
  pub room : RoomFor t links values
  pub room' : RoomFor t links' values'
  pub links_in : links_in_range (schema_of t) (tables_of t a links values) ≡ true
  pub long : 512 ≤ length list
