-- `candidates::retain_rows` meets its contract: it goes on word by word (proofs/Retaining.antt).
use native.Mathlib.Omega.{arith}
use Rattle.candidates.proofs.Retaining.{retaining-none, retaining-more, retaining-done}
use Rattle.candidates.proofs.retain_rows.Goals as goal

pub loop-k-init : goal.loop-k-init
loop-k-init c = retaining-none _ _ _ (omega arith)

pub loop-k-preserved : goal.loop-k-preserved
loop-k-preserved c = retaining-more c.loop-k.invariant (omega arith) (omega arith)

pub returns : goal.returns
returns c = retaining-done c.loop-k.invariant (omega arith) (omega arith)
