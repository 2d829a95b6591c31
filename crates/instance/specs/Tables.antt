-- The table list in an array.
use Rattle.std.specs.Prelude.{ℕ, List, get_or}
use Rattle.theory.specs.Numbering.{tabulate}
use Rattle.meaning.specs.Formats as meaning
use Rattle.instance.specs.declared.tables.Table.{Table}

abbrev pub table_of : Table → meaning.Table
table_of t = record { first = t.first; count = t.count }

abbrev pub no_table : Table
no_table = record { first = 0; count = 0 }

abbrev pub table_list_of : ℕ → List Table → List meaning.Table
table_list_of n l = tabulate n (λ c. table_of (get_or l c no_table))
