-- The table list, table by table.
use Prim.Native.Nat.{ℕ, zero, suc, ◌+◌, ◌<◌}
use mathlib.Core.Path.{◌≡◌, refl, sym, ap, ap₂, ◌∙◌}
use mathlib.Core.List.{List, ◌∷◌}
use native.Mathlib.Omega.{arith}
use lib.ListN.{get_or}
use Rattle.theory.specs.Numbering.{tabulate}
use Rattle.theory.proofs.Numbering.{tabulate-get_or}
use Rattle.meaning.specs.Lists.{sum_of}
use Rattle.meaning.specs.Formats as meaning
use Rattle.meaning.specs.Formats.{tables_from}
use Rattle.meaning.proofs.Tabulate.{tabulate-same}
use Rattle.schema.specs.Decoded.{front_of}
use Rattle.instance.specs.declared.tables.Table.{Table}
use Rattle.instance.specs.Tables.{table_of, no_table, table_list_of}

tables-from : (first n : ℕ) (f : ℕ → ℕ) → tables_from first (tabulate n f) ≡ tabulate {A = meaning.Table} n (λ c. record { first = first + sum_of (tabulate c f); count = f c })
tables-from first zero f = refl
tables-from first (suc n) f =
    ap₂ (λ (x : ℕ) (l : List meaning.Table). record { first = x; count = f 0 } ∷ l) (omega arith)
    (tables-from (first + f 0) n (λ c. f (suc c))
    ∙ tabulate-same {A = meaning.Table} n (λ c l. ap (λ (x : ℕ). record { first = x; count = f (suc c) }) (omega arith)))

-- table c of these counts
abbrev pub table_at : List ℕ → ℕ → Table
table_at counts c = record { first = sum_of (front_of c counts); count = get_or counts c 0 }

pub laid : (counts : List ℕ) (n : ℕ) (l : List Table) → ((c : ℕ) → c < n → get_or l c no_table ≡ table_at counts c) → table_list_of n l ≡ tables_from 0 (front_of n counts)
laid counts n l h =
    tabulate-same {A = meaning.Table} n (λ c m. ap table_of (h c m) ∙ ap (λ (x : ℕ). record { first = x; count = get_or counts c 0 }) (omega arith))
    ∙ sym (tables-from 0 n (λ c. get_or counts c 0))

-- and each table of a list that is laid out is the one of these counts
pub laid-at : (counts : List ℕ) (n : ℕ) (l : List Table) → table_list_of n l ≡ tables_from 0 (front_of n counts) → (c : ℕ) → c < n → get_or l c no_table ≡ table_at counts c
laid-at counts n l e c m =
    let none = table_of no_table in
    let same : table_of (get_or l c no_table) ≡ record { first = 0 + sum_of (front_of c counts); count = get_or counts c 0 } =
    sym (tabulate-get_or {A = meaning.Table} n (λ k. table_of (get_or l k no_table)) none c m)
    ∙ ap (λ (xs : List meaning.Table). get_or xs c none) (e ∙ tables-from 0 n (λ k. get_or counts k 0))
    ∙ tabulate-get_or {A = meaning.Table} n (λ k. record { first = 0 + sum_of (front_of k counts); count = get_or counts k 0 }) none c m
    in
    ap (λ (x : meaning.Table). record { first = x.first; count = x.count }) same ∙ ap (λ (x : ℕ). record { first = x; count = get_or counts c 0 }) (omega arith)
