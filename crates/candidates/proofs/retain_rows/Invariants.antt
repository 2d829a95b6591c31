-- `candidates::retain_rows` meets its contract: it goes on word by word (proofs/Retaining.antt).
use Rattle.candidates.proofs.Retaining.{Retaining}
use Rattle.candidates.proofs.retain_rows.Given as goal

abbrev pub invariant-loop-k : goal.invariant-loop-k
invariant-loop-k l = Retaining l.initial.c l.j l.keep l.c l.removed l.left l.k
