-- `chain::levels::mark_level` meets its contract. The invariant: the paths below x are looked at.
use Rattle.schema.specs.Decoded.{schema_of}
use Rattle.chain.proofs.Marking.{Levelled}
use Rattle.chain.proofs.levels.mark_level.Given as goal

abbrev pub invariant-loop-x : goal.invariant-loop-x
invariant-loop-x l = Levelled (schema_of l.t) l.k l.p.count l.initial.of l.x l.of
