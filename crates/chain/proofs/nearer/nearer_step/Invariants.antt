-- `chain::nearer::nearer_step` meets its contract. The invariant: no step with an equation below q makes a path k steps away.
use Rattle.schema.specs.Decoded.{schema_of}
use Rattle.chain.proofs.LeastSteps.{NoneBelow}
use Rattle.chain.proofs.nearer.nearer_step.Given as goal

abbrev pub invariant-loop-q : goal.invariant-loop-q
invariant-loop-q l = NoneBelow (schema_of l.fn.t) l.of l.x l.k l.q
