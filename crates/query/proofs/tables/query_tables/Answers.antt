-- `query::tables::query_tables` meets its contract.
use mathlib.Core.Path.{refl}
use Rattle.query.proofs.Answering.{migratable}
use Rattle.query.proofs.Rooms.{rooms-kept}
use Rattle.query.proofs.tables.query_tables.Goals as goal

pub migrate_run-requires : goal.migrate_run-requires
migrate_run-requires c =
    let z = c.requires in
    let i = c.open_instance in
    (migratable z.0 c.components-k.ensures c.in_ok-check_mappings.ensures c.in_ok-run.ensures.sound, rooms-kept z.1 i.auto.links i.auto.values refl refl refl)
