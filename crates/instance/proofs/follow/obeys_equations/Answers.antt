-- `instance::follow::obeys_equations` meets its contract.
use mathlib.Core.Path.{sym, ◌∙◌}
use mathlib.Core.List.{[]}
use native.Mathlib.Omega.{arith}
use Rattle.meaning.proofs.Tabulate.{passed-more, passed-fail, passed-done}
use Rattle.schema.proofs.SoundSchema.{sides-at}
use Rattle.instance.proofs.Following.{equation-at, left-followable, right-followable}
use Rattle.instance.proofs.follow.obeys_equations.Goals as goal

pub offset_bounds-instance-from : goal.offset_bounds-instance-from
offset_bounds-instance-from c =
    let S = sides-at c.args.schema c.requires.0 c.loop-k.k c.loop-k-test.true in
    omega (arith, S.start_in, c.requires.0.limits.nodes)

pub bounds-instance-from : goal.bounds-instance-from
bounds-instance-from c =
    let S = sides-at c.args.schema c.requires.0 c.loop-k.k c.loop-k-test.true in
    omega (arith, S.start_in, c.requires.0.limits.nodes)

pub paths_agree-requires : goal.paths_agree-requires
paths_agree-requires c =
    let a = c.args in
    let k = c.loop-k.k in
    let l = c.loop-k-test.true in
    let M = c.requires.0.limits in
    rw c.from.ensures (M.left.each k l, M.right.each k l, left-followable a.schema c.requires.0 a.instance a.links.now [] c.requires.1 c.requires.2 c.requires.3 k l, right-followable a.schema c.requires.0 a.instance a.links.now [] c.requires.1 c.requires.2 c.requires.3 k l)

pub returns-then-not-paths_agree : goal.returns-then-not-paths_agree
returns-then-not-paths_agree c =
    let a = c.args in
    let l = c.loop-k-test.true in
    let r = rw c.from.ensures at c.paths_agree.ensures in
    sym (passed-fail c.loop-k.invariant l (equation-at a.schema c.requires.0 a.instance a.links.now [] c.requires.1 c.requires.2 c.requires.3 c.loop-k.k l ∙ sym r ∙ c.if-not-paths_agree.true))

pub loop-k-preserved : goal.loop-k-preserved
loop-k-preserved c =
    let a = c.args in
    let l = c.loop-k-test.true in
    let r = rw c.from.ensures at c.paths_agree.ensures in
    passed-more c.loop-k.invariant l (equation-at a.schema c.requires.0 a.instance a.links.now [] c.requires.1 c.requires.2 c.requires.3 c.loop-k.k l ∙ sym r ∙ c.if-not-paths_agree.false)

pub returns : goal.returns
returns c = sym (passed-done c.loop-k.invariant c.loop-k-test.false)
