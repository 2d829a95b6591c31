-- `changes::exports::migration_withdraw_row` meets its contract.
use mathlib.Core.Path.{ap}
use lib.ListN.{take}
use Rattle.meaning.specs.Changes.{withdrawal_sheets, Trays}
use Rattle.migration.proofs.Encoding.{results_within}
use Rattle.changes.proofs.Trays.{low-answer}
use Rattle.changes.proofs.exports.migration_withdraw_row.Goals as goal

pub changed_number-requires : goal.changed_number-requires
changed_number-requires c = let a = c.args in let x = c.withdraw_row in low-answer x.result a.run.now a.pushed.now (withdrawal_sheets a.s.now a.t.now a.f.now (take a.run_length a.run.now) a.table a.row) (ap (λ (t : Trays). t.answer) x.ensures) (results_within.row_withdrawn a.s.now a.t.now a.f.now (take a.run_length a.run.now) a.table a.row)
