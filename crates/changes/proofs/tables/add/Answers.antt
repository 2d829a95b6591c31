-- `changes::tables::add` meets its contract.
use Rattle.std.proofs.lemmas.Result.{err_from_is_err_and}
use Rattle.changes.proofs.Changing.{judged-row, add-overfull, add-changes, table-in}
use Rattle.changes.proofs.tables.add.Goals as goal

pub returns-in_err-ensure-2 : goal.returns-in_err-ensure-2
returns-in_err-ensure-2 c =
    let a = c.args in
    let r = c.from_residual-in_err-ensure-2 in
    let p = err_from_is_err_and r.result r.ensures.1 in
    let j = c.judge_row in
    rw (p.1, p.2) record { says = add-overfull a.schema.now a.run a.run_links.now a.run_values.now c.requires.0 a.table a.row.now (table-in a.schema.now a.table c.in_ok-ensure.ensures) j.new.row_links j.new.row_values (judged-row a.schema.now a.table j.new.row_links j.new.row_values j.result c.in_default.not-Err j.ensures) (rw c.total.ensures at c.in_err-ensure-2.ensures); run = tt }

pub returns : goal.returns
returns c =
    let a = c.args in
    let j = c.judge_row in
    add-changes a.schema.now a.run a.run_links.now a.run_values.now c.requires.0 a.table a.row.now (table-in a.schema.now a.table c.in_ok-ensure.ensures) j.new.row_links j.new.row_values (judged-row a.schema.now a.table j.new.row_links j.new.row_values j.result c.in_default.not-Err j.ensures) (rw c.total.ensures at c.in_ok-ensure-2.ensures) c.put_row.ensures
