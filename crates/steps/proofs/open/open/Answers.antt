-- `steps::open::open` meets its contract.
use Rattle.mapping.proofs.Sides.{numbers}
use Rattle.steps.proofs.open.open.Goals as goal

pub judge_mapping-requires : goal.judge_mapping-requires
judge_mapping-requires c =
    let t = c.in_ok-target.ensures.sound in
    (c.in_ok-source.ensures.sound, t, numbers t c.path_table-target_paths.ensures)
