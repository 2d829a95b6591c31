-- `rows::judge::read_row` meets its contract.
use native.Mathlib.Omega.{arith}
use borrow.Author.Rules.{rules}
use Rattle.rows.proofs.FromRow.{row-limits, row-refused, row-judged}
use Rattle.rows.proofs.judge.read_row.Goals as goal

pub decode_tables-requires : goal.decode_tables-requires
decode_tables-requires c = let A = c.requires.0 in
    let l = row-limits c.args.schema A c.args.table c.requires.1 in
    let R = c.requires.2 in
    rw c.one_row-row.ensures (A, record { for_links = omega (arith, R.for_links); for_values = omega (arith, R.for_values) }, omega arith, omega arith, l.rows)

pub returns-in_err-decode_tables : goal.returns-in_err-decode_tables
returns-in_err-decode_tables c =
    let refused = row-refused c.args.schema c.requires.0 c.args.table c.requires.1 c.args.s.now (rw c.one_row-row.ensures at c.in_err-decode_tables.ensures.says) in
    search (rules, refused)

pub returns : goal.returns
returns c = row-judged c.args.schema c.requires.0 c.args.table c.requires.1 c.args.s.now _ _ _ (rw c.one_row-row.ensures at c.in_ok-decode_tables.ensures.says)
