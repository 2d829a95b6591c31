-- `chain::levels::mark_steps` meets its contract. The invariant: what steps of the first q equations make is marked.
use Rattle.schema.specs.Decoded.{schema_of}
use Rattle.chain.proofs.Marking.{Turns}
use Rattle.chain.proofs.LevelSteps.{equation_steps}
use Rattle.chain.proofs.levels.mark_steps.Given as goal

abbrev pub invariant-loop-q : goal.invariant-loop-q
invariant-loop-q l = Turns (equation_steps (schema_of l.fn.t) l.x) l.fn.t.equations l.k l.initial.of l.q l.of
