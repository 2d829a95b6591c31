-- `compose::call::open_images` meets its contract.
use Rattle.mapping.proofs.Sides.{numbers}
use Rattle.compose.proofs.call.open_images.Goals as goal

pub judge_mapping-requires : goal.judge_mapping-requires
judge_mapping-requires c = let z = c.requires in (z.0, z.1, numbers z.1 c.path_table-paths.ensures)
