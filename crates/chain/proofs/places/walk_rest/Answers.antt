-- `chain::places::walk_rest` meets its contract.
use native.Mathlib.Omega.{arith}
use Rattle.chain.proofs.Collecting.{walking-more}
use Rattle.chain.proofs.places.walk_rest.Goals as goal

pub loop-j-preserved : goal.loop-j-preserved
loop-j-preserved c = walking-more c.loop-j.invariant (omega arith) c.from.ensures c.from-e.ensures c.sum-x.ensures
