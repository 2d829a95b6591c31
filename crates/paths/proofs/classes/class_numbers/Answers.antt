-- `paths::classes::class_numbers` meets its contract. The invariant: the pairs of the first q equations are joined.
use mathlib.Core.Path.{refl, ap, ◌∙◌}
use native.Mathlib.Omega.{arith}
use Rattle.paths.specs.Classes.{join_numbers, schema_pairs}
use Rattle.paths.proofs.Joining.{turns_more, turns-done}
use Rattle.paths.proofs.EquationPairs.{ends-small, joinable, class-column}
use Rattle.paths.proofs.classes.class_numbers.Goals as goal

pub returns-then-n-eq0 : goal.returns-then-n-eq0
returns-then-n-eq0 c = class-column c.args.t c.args.p c.requires.0 c.requires.1 (c.own_classes.ensures ∙ rw c.if-n-eq0.true)

pub chain-requires : goal.chain-requires
chain-requires c = (ends-small c.args.t c.args.p c.requires.0 c.requires.1, c.requires.1.few, refl)

pub join_equation-requires : goal.join_equation-requires
join_equation-requires c = (joinable c.args.t c.args.p c.requires.0 c.requires.1 c.loop-q.q (omega arith), omega (arith, c.requires.1.few), c.chain.ensures)

pub loop-q-preserved : goal.loop-q-preserved
loop-q-preserved c = turns_more c.loop-q.invariant (omega arith) c.join_equation.ensures

pub returns : goal.returns
returns c = class-column c.args.t c.args.p c.requires.0 c.requires.1 (turns-done c.loop-q.invariant (omega arith) ∙ ap (join_numbers (schema_pairs c.args.t c.args.p)) c.own_classes-c.ensures)
