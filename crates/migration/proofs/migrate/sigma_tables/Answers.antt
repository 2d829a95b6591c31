-- `migration::migrate::sigma_tables` meets its contract.
use Rattle.meaning.specs.Calls.{accepted}
use Rattle.steps.specs.Opened.{migration_of}
use Rattle.migration.proofs.Pushing.{run-pushed}
use Rattle.migration.proofs.migrate.sigma_tables.Goals as goal

pub returns : goal.returns
returns c =
    let o = c.args.opened.now in
    let i = c.open_run in
    run-pushed (accepted (migration_of o)) c.args.i.now o c.in_ok-run.run' i.new.links i.new.values c.in_ok-run.ensures.says c.push_run.ensures
