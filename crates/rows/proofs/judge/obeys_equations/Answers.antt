-- `rows::judge::obeys_equations` meets its contract.
use mathlib.Core.Path.{sym, ◌∙◌}
use mathlib.Core.Bool.{true, false}
use lib.ListN.{get_or}
use Rattle.meaning.proofs.Tabulate.{passed-more, passed-fail, passed-done}
use Rattle.rows.proofs.FromRow.{left-led, right-led, equations-test, bent-here, bent-apart}
use Rattle.rows.proofs.judge.obeys_equations.Goals.{Start, else-from-table-via-then-from-table+else-bent, else-from-table-via-else-from-table}
use Rattle.rows.proofs.judge.obeys_equations.Goals as goal

pub bent-requires : goal.bent-requires
bent-requires c = let a = c.args in
    let k = c.loop-k.k in
    let l = c.loop-k-test.true in
    let s = sym c.from.ensures ∙ c.if-from-table.true in
    let M = c.requires.0.limits in
    (M.left.each k l, M.right.each k l, (left-led a.schema c.requires.0 a.run a.table c.requires.1 a.links.now a.row_links.now c.requires.2 c.requires.3 k l s).stays, (right-led a.schema c.requires.0 a.run a.table c.requires.1 a.links.now a.row_links.now c.requires.2 c.requires.3 k l s).stays)

pub returns-then-bent : goal.returns-then-bent
returns-then-bent c =
    let a = c.args in
    let k = c.loop-k.k in
    let bent = bent-here a.schema a.table a.links.now a.row_links.now (get_or c.args.run.counts c.args.table 0) k true (sym c.from.ensures ∙ c.if-from-table.true) (sym c.bent.ensures ∙ c.if-bent.true) in
    sym (equations-test a.schema c.requires.0 a.run a.table c.requires.1 a.links.now a.row_links.now c.requires.2 c.requires.3 ∙ (passed-fail c.loop-k.invariant c.loop-k-test.true bent))

pub loop-k-preserved : goal.loop-k-preserved
loop-k-preserved c =
    let a = c.args in
    let k = c.loop-k.k in
    let v = c.loop-k.invariant in
    let t = c.loop-k-test.true in
    elim c.else-from-table.branch [
      | else-from-table-via-then-from-table+else-bent w ↦ passed-more v t (bent-here a.schema a.table a.links.now a.row_links.now (get_or c.args.run.counts c.args.table 0) k false (sym c.from.ensures ∙ w.if-from-table.true) (sym w.bent.ensures ∙ w.if-bent.false))
      | else-from-table-via-else-from-table w ↦ passed-more v t (bent-apart a.schema a.table a.links.now a.row_links.now (get_or c.args.run.counts c.args.table 0) k (λ e. w.if-from-table.false (c.from.ensures ∙ e)))
    ]

pub returns : goal.returns
returns c = let a = c.args in sym (equations-test a.schema c.requires.0 a.run a.table c.requires.1 a.links.now a.row_links.now c.requires.2 c.requires.3 ∙ (passed-done c.loop-k.invariant c.loop-k-test.false))
