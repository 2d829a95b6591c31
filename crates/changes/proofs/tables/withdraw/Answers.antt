-- `changes::tables::withdraw` meets its contract.
use Rattle.std.proofs.lemmas.Result.{err_from_is_err_and}
use Rattle.changes.proofs.Changing.{withdraw-absent, withdraw-held, withdraw-changes}
use Rattle.changes.proofs.tables.withdraw.Goals as goal

pub returns-in_err-ensure-2 : goal.returns-in_err-ensure-2
returns-in_err-ensure-2 c =
    let a = c.args in
    let r = c.from_residual-in_err-ensure-2 in
    let p = err_from_is_err_and r.result r.ensures.1 in
    rw (p.1, p.2) record { says = withdraw-absent a.schema.now a.run a.run_links.now a.run_values.now c.requires.0 a.table a.x c.in_ok-ensure.ensures c.in_err-ensure-2.ensures; run = tt }

pub returns-in_err-ensure-3 : goal.returns-in_err-ensure-3
returns-in_err-ensure-3 c =
    let a = c.args in
    let r = c.from_residual-in_err-ensure-3 in
    let p = err_from_is_err_and r.result r.ensures.1 in
    rw (p.1, p.2) record { says = withdraw-held a.schema.now a.run a.run_links.now a.run_values.now c.requires.0 a.table a.x c.in_ok-ensure.ensures c.in_ok-ensure-2.ensures c.is_held-held.ensures c.in_err-ensure-3.ensures; run = tt }

pub returns : goal.returns
returns c =
    let a = c.args in
    withdraw-changes a.schema.now a.run a.run_links.now a.run_values.now c.requires.0 a.table a.x c.in_ok-ensure.ensures c.in_ok-ensure-2.ensures c.is_held-held.ensures c.in_ok-ensure-3.ensures c.take_row.ensures
