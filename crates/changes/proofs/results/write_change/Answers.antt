-- `changes::results::write_change` meets its contract.
use Rattle.std.proofs.lemmas.Result.{err_from_is_err_and}
use Rattle.changes.proofs.Trays.{run_small, pushed-small, both-fit}
use Rattle.changes.proofs.results.write_change.Goals as goal

pub returns-in_err-ensure : goal.returns-in_err-ensure
returns-in_err-ensure c =
    let a = c.args in
    let p = err_from_is_err_and c.from_residual.result c.from_residual.ensures.1 in
    rw (p.1, p.2) (run_small a.opened.now a.change.now a.run_links.now a.run_values.now a.links.now a.values.now a.run.now a.pushed.now c.sheet_length-run_bytes.ensures c.sheet_length-pushed_bytes.ensures c.in_err-ensure.ensures)

pub returns-in_err-ensure-2 : goal.returns-in_err-ensure-2
returns-in_err-ensure-2 c =
    let a = c.args in
    let r = c.from_residual-in_err-ensure-2 in
    let p = err_from_is_err_and r.result r.ensures.1 in
    rw (p.1, p.2) (pushed-small a.opened.now a.change.now a.run_links.now a.run_values.now a.links.now a.values.now a.run.now a.pushed.now c.sheet_length-run_bytes.ensures c.sheet_length-pushed_bytes.ensures c.in_ok-ensure.ensures c.in_err-ensure-2.ensures)

pub returns : goal.returns
returns c =
    let a = c.args in
    both-fit a.opened.now a.change.now a.run_links.now a.run_values.now a.links.now a.values.now a.run.now a.pushed.now c.sheet_length-run_bytes.ensures c.sheet_length-pushed_bytes.ensures c.in_ok-ensure.ensures c.in_ok-ensure-2.ensures c.write_instance.ensures c.write_instance-2.ensures
