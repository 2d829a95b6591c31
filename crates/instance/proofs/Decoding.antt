-- What the readers of an instance sheet give, step by step.
use Prim.Native.Nat.{ℕ, ◌*◌, ◌≤◌, ◌<◌}
use mathlib.Core.Path.{◌≡◌, sym, ap, ◌∙◌}
use mathlib.Core.Bool.{true, false}
use mathlib.Core.List.{List}
use Rattle.std.specs.Prelude.{Some, None}
use native.Mathlib.Omega.{arith}
use native.Mathlib.Nat.{zero-add, le_trans}
use borrow.Author.Tests.{le-leb, lt-leb}
use lib.ListN.{length, get_or}
use Rattle.bits.specs.Field as bits
use Rattle.theory.proofs.Numbering.{tabulate-get_or}
use Rattle.meaning.specs.Lists.{sum_of}
use Rattle.meaning.specs.Sheet.{Read, Reader, fails, reads, times, field}
use Rattle.meaning.specs.Schema as meaning
use Rattle.meaning.specs.Formats.{Instance, read_links, read_values, read_tables, read_instance}
use Rattle.meaning.proofs.Reading.{fixed-field, fixed-times}
use Rattle.schema.specs.declared.Schema.{Schema}
use Rattle.schema.specs.Decoded.{schema_of, front_of}
use Rattle.schema.specs.Judged.{Sound}
use Rattle.schema.proofs.SoundSchema.{source_in, target-in, home_in}
use Rattle.instance.specs.declared.Instance as declared
use Rattle.instance.specs.Decoded.{counts_in, rows_of, tables_of, read_columns, Columns, ColumnsTaken}
use Rattle.instance.proofs.Columns.{in_turn-same, sum_of-part}

-- ---- the leading counts
module _ (S : meaning.Schema) (s : List ℕ) where
  pub instance-short : 8 * length s < 10 * S.graph.nodes → read_instance S s 0 ≡ fails 1
  instance-short h = rw ((fixed-times S.graph.nodes (fixed-field 10)).cut s 0 (omega arith) (omega arith))

  pub instance-count : 10 * S.graph.nodes ≤ 8 * length s → 512 < sum_of (counts_in S.graph.nodes s) → read_instance S s 0 ≡ fails 3
  instance-count h l = rw ((fixed-times S.graph.nodes (fixed-field 10)).here s 0 (omega arith), lt-leb (sum_of (counts_in S.graph.nodes s)) 512 l)

  pub instance-tables : 10 * S.graph.nodes ≤ 8 * length s → sum_of (counts_in S.graph.nodes s) ≤ 512
      → read_instance S s 0 ≡ read_tables S (counts_in S.graph.nodes s) s (10 * S.graph.nodes)
  instance-tables h l =
      rw ((fixed-times S.graph.nodes (fixed-field 10)).here s 0 (omega arith), le-leb (sum_of (counts_in S.graph.nodes s)) 512 l)
      (ap (read_tables S (counts_in S.graph.nodes s) s) (zero-add (10 * S.graph.nodes)))

-- ---- of a sound schema
module _ (t : Schema) (A : Sound t) where
  module _ (counts : List ℕ) (few : sum_of (front_of t.graph.nodes counts) ≤ 512) (long : length counts ≡ 16) where
    rows_few : (home : List ℕ) (n : ℕ) {m : ℕ} → ((k : ℕ) → k < n → get_or home k 0 < t.graph.nodes) → n ≤ m → length home ≡ m → Columns n home counts
    rows_few home n h l e = record {
      homes = omega arith;
      tables = λ k m. let z = h k m in let y = A.limits.nodes in omega arith;
      rows = λ k m. le_trans (sum_of-part t.graph.nodes (λ c. get_or counts c 0) (get_or home k 0) (h k m)) few;
    }

    pub link-columns : length t.graph.source ≡ 32 → Columns t.graph.edges t.graph.source counts
    link-columns = rows_few t.graph.source t.graph.edges (source_in t A) A.limits.edges

    pub target-columns : length t.graph.target ≡ 32 → Columns t.graph.edges t.graph.target counts
    target-columns = rows_few t.graph.target t.graph.edges (target-in t A) A.limits.edges

    pub value-columns : length t.node ≡ 16 → Columns t.attributes t.node counts
    value-columns = rows_few t.node t.attributes (home_in t A) A.limits.attributes

  -- ---- what follows the leading counts, read into columns
  module _ (counts s : List ℕ) (p : ℕ) where
    abbrev tables : Read Instance
    tables = read_tables (schema_of t) (front_of t.graph.nodes counts) s p

    rows_at : (home : List ℕ) (k : ℕ) → get_or home k 0 < t.graph.nodes → get_or (front_of t.graph.nodes counts) (get_or home k 0) 0 ≡ rows_of home counts k
    rows_at home k l = tabulate-get_or t.graph.nodes (λ c. get_or counts c 0) 0 (get_or home k 0) l

    links-columns : read_links (schema_of t) (front_of t.graph.nodes counts) s p ≡ read_columns 9 t.graph.edges (rows_of t.graph.source counts) s p
    links-columns =
        ap (λ (m : Reader (List (List ℕ))). m s p)
        (in_turn-same {A = meaning.Edge} _ _ t.graph.edges _ _ (λ e l. ap (λ (n : ℕ). times n (field 9)) (rows_at t.graph.source e (source_in t A e l))))

    values-columns : (q : ℕ) → read_values (schema_of t) (front_of t.graph.nodes counts) s q ≡ read_columns 32 t.attributes (rows_of t.node counts) s q
    values-columns q =
        ap (λ (m : Reader (List (List ℕ))). m s q)
        (in_turn-same {A = meaning.Attribute} _ _ t.attributes _ _ (λ a l. ap (λ (n : ℕ). times n (field 32)) (rows_at t.node a (home_in t A a l))))

    pub links-cut : {links : List ℕ} → ColumnsTaken s p 9 t.graph.edges t.graph.source counts None links → tables ≡ fails 1
    links-cut u = rw (links-columns ∙ sym u.says)

    module _ {q : ℕ} {links : List ℕ} (u : ColumnsTaken s p 9 t.graph.edges t.graph.source counts (Some q) links) where
      pub values-cut : {values : List ℕ} → ColumnsTaken s q 32 t.attributes t.node counts None values → tables ≡ fails 1
      values-cut v = rw (links-columns ∙ sym u.says, values-columns q ∙ sym v.says)

      module _ {r : ℕ} {values : List ℕ} (v : ColumnsTaken s q 32 t.attributes t.node counts (Some r) values) where
        pub tables-tail : bits.tail_ok s r ≡ false → tables ≡ fails 2
        tables-tail f = rw (links-columns ∙ sym u.says, values-columns q ∙ sym v.says, f)

        pub tables-read : (i : declared.Instance) → i.counts ≡ counts → bits.tail_ok s r ≡ true → tables ≡ reads (tables_of t i links values) r
        tables-read i g f = rw (links-columns ∙ sym u.says, values-columns q ∙ sym v.says, f, g)
