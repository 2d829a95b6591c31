-- A table list that is laid out for an instance: where each table's rows begin among all rows, and how far they go.
use Prim.Native.Nat.{ℕ, zero, suc, ◌+◌, ◌*◌, ◌≤◌, ◌<◌}
use mathlib.Core.Path.{◌≡◌, sym, ap, ◌∙◌}
use mathlib.Core.List.{List, []}
use native.Mathlib.Omega.{arith}
use native.Mathlib.Nat.{not-suc-le-zero}
use native.Mathlib.Decide.{ℕ_discrete}
use lib.ListN.{length, get_or}
use Rattle.theory.specs.Numbering.{sum}
use Rattle.theory.proofs.Numbering.{sum_mono, tabulate-length, tabulate-get_or}
use Rattle.meaning.specs.Lists.{sum_of}
use Rattle.meaning.specs.Formats as meaning
use Rattle.meaning.specs.Formats.{table_list}
use Rattle.meaning.specs.Views.{count}
use Rattle.meaning.specs.Matching.{partner}
use Rattle.agreement.proofs.Tables.{rows-sum, table_list-at}
use Rattle.schema.specs.declared.Schema.{Schema}
use Rattle.schema.specs.Decoded.{schema_of}
use Rattle.instance.specs.declared.Instance.{Instance}
use Rattle.instance.specs.declared.tables.Table.{Table}
use Rattle.instance.specs.Decoded.{column_of, columns_of, tables_of}
use Rattle.instance.specs.Tables.{table_of, no_table, table_list_of}
use Rattle.matching.specs.Compared.{partners_of, first_in, count_in, partner_at}

pub sum-front : (w : ℕ → ℕ) (k c : ℕ) → c < k → sum w c + w c ≤ sum w k
unfolding sum
sum-front w zero c h = absurd (not-suc-le-zero h)
sum-front w (suc k) c h = elim (ℕ_discrete c k) [
  | yes e ↦ rw e (omega arith)
  | no e ↦ let i : sum w c + w c ≤ sum w k = sum-front w k c (omega arith) in omega arith
]

-- an entry of a column
pub column-entry : (n : ℕ) (rows : ℕ → ℕ) (l : List ℕ) (k r : ℕ) → k < n → r < rows k → get_or (get_or (columns_of n rows l) k []) r 0 ≡ get_or l (512 * k + r) 0
column-entry n rows l k r h i =
    ap (λ (xs : List ℕ). get_or xs r 0) (tabulate-get_or n (λ j. column_of l (512 * j) (rows j)) [] k h)
    ∙ tabulate-get_or (rows k) (λ j. get_or l (512 * k + j) 0) 0 r i

module _ (t : Schema) (i : Instance) where
  abbrev I : meaning.Instance
  I = tables_of t i [] []

  counts-length : length I.counts ≡ t.graph.nodes
  counts-length = tabulate-length t.graph.nodes (λ c. get_or i.counts c 0)

  pub rows_are : sum (count I) t.graph.nodes ≡ sum_of I.counts
  rows_are = rows-sum (schema_of t) I counts-length

  pub partner-at : (list : List ℕ) (c x : ℕ) → c < t.graph.nodes → x < count I c → partner I (partners_of t i list) c x ≡ get_or list (sum (count I) c + x) 0
  partner-at list c x l h =
      tabulate-get_or (sum_of I.counts) (λ k. get_or list k 0) 0 (sum (count I) c + x) (rw (← rows_are) (sum_mono (count I) t.graph.nodes c x l h))

  module _ (tables : List Table) (laid : table_list_of t.graph.nodes tables ≡ table_list I) where
    table_is : (c : ℕ) → c < t.graph.nodes → table_of (get_or tables c no_table) ≡ record { first = sum (count I) c; count = count I c }
    table_is c l =
        let d = table_of no_table in
        sym (tabulate-get_or {A = meaning.Table} t.graph.nodes (λ k. table_of (get_or tables k no_table)) d c l)
        ∙ ap (λ (xs : List meaning.Table). get_or xs c d) laid
        ∙ table_list-at I d c (rw counts-length l)

    pub first-is : (c : ℕ) → c < t.graph.nodes → first_in tables c ≡ sum (count I) c
    first-is c l = ap (λ (x : meaning.Table). x.first) (table_is c l)

    pub count-is : (c : ℕ) → c < t.graph.nodes → count_in tables c ≡ count I c
    count-is c l = ap (λ (x : meaning.Table). x.count) (table_is c l)

    pub table-within : (c : ℕ) → c < t.graph.nodes → first_in tables c + count_in tables c ≤ sum_of I.counts
    table-within c l = rw (first-is c l, count-is c l, ← rows_are) (sum-front (count I) t.graph.nodes c l)

    pub partner-is : (list : List ℕ) (c x : ℕ) → c < t.graph.nodes → x < count I c → partner I (partners_of t i list) c x ≡ partner_at list (first_in tables c) x
    partner-is list c x l h = partner-at list c x l h ∙ ap (λ (n : ℕ). get_or list (n + x) 0) (sym (first-is c l))
