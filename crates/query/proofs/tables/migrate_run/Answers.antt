-- `query::tables::migrate_run` meets its contract.
use mathlib.Core.Path.{refl}
use Rattle.query.proofs.Pulling.{fitting, run-links-in, joinable}
use Rattle.query.proofs.Rooms.{rooms-kept}
use Rattle.query.proofs.tables.migrate_run.Goals as goal

pub delta-pulled-requires : goal.delta-pulled-requires
delta-pulled-requires c = let z = c.requires in (fitting z.0, z.0.limits, run-links-in z.0, z.1.run, z.1.pulled)

pub join_and_push-requires : goal.join_and_push-requires
join_and_push-requires c =
    let z = c.requires in
    let d = c.delta-pulled in
    (joinable z.0 d.ensures c.in_ok-check_rows.ensures, rooms-kept z.1 refl refl d.auto.followed d.auto.copied refl)
