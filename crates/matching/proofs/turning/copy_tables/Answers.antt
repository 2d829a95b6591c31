-- `matching::turning::copy_tables` meets its contract.
use mathlib.Core.Path.{◌∙◌}
use Rattle.matching.proofs.Copying.{moved_more}
use Rattle.matching.proofs.turning.copy_tables.Goals as goal

pub loop-c-preserved : goal.loop-c-preserved
loop-c-preserved c =
    let v = c.loop-c.invariant in
    let r = c.copy_column.ensures in
    (moved_more c.requires v.0 c.loop-c-test.true r, r.long ∙ v.1)
