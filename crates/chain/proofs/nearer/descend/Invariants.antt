-- `chain::nearer::descend` meets its contract. The invariant: the i steps taken begin the first of the shortest chains, and lead to path at.
use Rattle.schema.specs.Decoded.{schema_of}
use Rattle.chain.proofs.Descending.{Descending}
use Rattle.chain.proofs.nearer.descend.Given as goal

abbrev pub invariant-loop-i : goal.invariant-loop-i
invariant-loop-i l = Descending (schema_of l.t) l.of l.x l.n l.initial.steps l.at l.i l.steps
