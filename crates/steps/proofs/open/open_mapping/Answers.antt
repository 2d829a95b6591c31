-- `steps::open::open_mapping` meets its contract.
use Rattle.mapping.proofs.Sides.{numbers}
use Rattle.steps.proofs.open.open_mapping.Goals as goal

pub judge_mapping-requires : goal.judge_mapping-requires
judge_mapping-requires c = let z = c.requires in (z.0, z.1.sound, numbers z.1.sound z.1.paths)
