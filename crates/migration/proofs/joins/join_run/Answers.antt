-- `migration::joins::join_run` meets its contract.
use mathlib.Core.Path.{◌∙◌}
use Rattle.migration.proofs.Joining.{families-joined, families-crowded}
use borrow.Author.Rules.{rules}
use Rattle.migration.proofs.joins.join_run.Goals as goal

pub returns-in_err-check_listed : goal.returns-in_err-check_listed
returns-in_err-check_listed c =
    let z = c.requires in
    let r = c.in_ok-run in
    let i = c.open_instance in
    let l = c.list_families-listing in
    let told = families-crowded c.args.opened.now r.run' i.new.links i.new.values z.0 r.ensures.sound (search rules) c.in_ok-check_joinable.ensures c.components-k.ensures l.ensures (l.auto.rows ∙ z.2) c.args.i.now r.ensures.says c.in_err-check_listed.ensures in
    search rules

pub returns : goal.returns
returns c =
    let z = c.requires in
    let r = c.in_ok-run in
    let i = c.open_instance in
    let l = c.list_families-listing in
    families-joined c.args.opened.now r.run' i.new.links i.new.values z.0 r.ensures.sound (search rules) c.in_ok-check_joinable.ensures c.components-k.ensures l.ensures (l.auto.rows ∙ z.2) c.args.i.now r.ensures.says c.in_ok-check_listed.ensures
