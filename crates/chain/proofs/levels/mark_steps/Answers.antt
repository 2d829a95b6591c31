-- `chain::levels::mark_steps` meets its contract. The invariant: what steps of the first q equations make is marked.
use native.Mathlib.Omega.{arith}
use Rattle.chain.proofs.StepPlaces.{length-low}
use Rattle.chain.proofs.LevelSteps.{lands, steps-more, steps-done}
use Rattle.chain.proofs.levels.mark_steps.Goals as goal

pub prefixes-prefix-requires : goal.prefixes-prefix-requires
prefixes-prefix-requires c = (omega (arith, c.requires.1.table.few), length-low c.args.t c.args.p c.requires.0 c.requires.1.table c.args.x c.requires.2)

pub mark_places-requires : goal.mark_places-requires
mark_places-requires c = lands c.args.t c.args.p c.requires.0 c.requires.1.table c.args.x c.requires.2 c.from-n.result c.from-n.ensures c.prefixes-prefix.result c.prefixes-prefix.ensures c.loop-q.q 0 c.loop-q-test.true (omega arith)

pub mark_places-requires-in-loop-q : goal.mark_places-requires-in-loop-q
mark_places-requires-in-loop-q c = lands c.args.t c.args.p c.requires.0 c.requires.1.table c.args.x c.requires.2 c.from-n.result c.from-n.ensures c.prefixes-prefix.result c.prefixes-prefix.ensures c.loop-q.q 1 c.loop-q-test.true (omega arith)

pub loop-q-preserved : goal.loop-q-preserved
loop-q-preserved c =
    let m = c.mark_places in
    steps-more c.args.t c.args.p c.requires.0 c.requires.1.table c.args.x c.requires.2 c.from-n.result c.from-n.ensures c.prefixes-prefix.result c.prefixes-prefix.ensures c.loop-q.invariant c.loop-q-test.true {u = m.new.of} m.ensures c.mark_places-in-loop-q.ensures

pub returns : goal.returns
returns c = steps-done c.args.t c.args.p c.requires.0 c.requires.1.table c.args.x c.requires.2 c.loop-q.invariant (omega arith)
