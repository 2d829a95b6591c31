-- `changes::tables::change_tables` meets its contract.
use Rattle.std.proofs.Common.{rules}
use Rattle.changes.proofs.Pushing.{pushed-limits, sheets-told}
use Rattle.changes.proofs.tables.change_tables.Goals as goal

pub returns : goal.returns
returns c =
    let a = c.args in
    let b = c.in_ok-before in
    let r = c.in_ok-run in
    let s = c.sigma-pushed in
    record {
      says = sheets-told a.kind a.opened.now a.i.now a.table a.row.now b.before r.run' s.result c.open_run.new.links c.open_run.new.values c.change.new.run_links c.change.new.run_values s.new.followed s.new.copied b.ensures.says r.ensures.says s.ensures.says;
      writable = record {
        source = c.requires.0.schemas.source;
        target = c.requires.0.schemas.target;
        run_limits = r.ensures.run.limits;
        pushed_limits = pushed-limits c.requires.0 b.ensures.even.is-even r.ensures.run s.ensures;
        run_room = search rules;
        pushed_room = search rules;
      };
    }
