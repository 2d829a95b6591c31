-- `mapping::fits::edges_fit` meets its contract.
use Prim.Native.Nat.{◌<◌}
use mathlib.Core.Path.{◌≡◌, sym, ◌∙◌}
use native.Mathlib.Omega.{arith}
use lib.ListN.{get_or}
use Rattle.meaning.proofs.Tabulate.{passed-more}
use Rattle.schema.proofs.SoundSchema.{source_in, target-in}
use Rattle.mapping.proofs.Viewing.{upto-fail, upto_done}
use Rattle.mapping.proofs.Fitting.{edge_test, edges-test}
use Rattle.mapping.proofs.fits.edges_fit.Goals.{After-image_fits, After-from-target}
use Rattle.mapping.proofs.fits.edges_fit.Goals as goal

source_low : (c : After-from-target) → c.from-source.result < 16
source_low c = let p = c.requires.0 in omega (arith, c.from-source.ensures, source_in _ p c.loop-e.e c.loop-e-test.true, p.limits.nodes)

target_low : (c : After-from-target) → c.from-target.result < 16
target_low c = let p = c.requires.0 in omega (arith, c.from-target.ensures, target-in _ p c.loop-e.e c.loop-e-test.true, p.limits.nodes)

tested : (c : After-image_fits) → edge_test c.args.s.graph c.args.t.graph c.args.f.node c.args.f.edge c.loop-e.e ≡ c.image_fits.result
tested c =
    let x : c.from-source.result ≡ get_or c.args.s.graph.source c.loop-e.e 0 = c.from-source.ensures in
    let y : c.from-target.result ≡ get_or c.args.s.graph.target c.loop-e.e 0 = c.from-target.ensures in
    rw (← x, ← y) (sym c.image_fits.ensures)

pub bounds-node-source : goal.bounds-node-source
bounds-node-source c = source_low (goal.at.bounds-node-source c).After-from-target

pub bounds-node-target : goal.bounds-node-target
bounds-node-target c = target_low (goal.at.bounds-node-target c).After-from-target

pub image_fits-requires : goal.image_fits-requires
image_fits-requires c =
    let p = c.requires in
    let e = c.loop-e.e in
    let l = c.loop-e-test.true in
    (p.1.limits.edges, p.3.each e l, let w = c.from-source.ensures in rw w (p.2.each _ (source_in _ p.0 e l)))

pub loop-e-preserved : goal.loop-e-preserved
loop-e-preserved c = passed-more c.loop-e.invariant c.loop-e-test.true (tested (goal.at.loop-e-preserved c).After-image_fits ∙ c.if-not-image_fits.false)

pub returns-then-not-image_fits : goal.returns-then-not-image_fits
returns-then-not-image_fits c = sym (edges-test c.args.s c.args.t c.args.f c.requires.0 ∙ upto-fail c.loop-e.invariant c.loop-e-test.true (tested (goal.at.returns-then-not-image_fits c).After-image_fits ∙ c.if-not-image_fits.true))

pub returns : goal.returns
returns c = sym (edges-test c.args.s c.args.t c.args.f c.requires.0 ∙ upto_done c.loop-e.invariant c.loop-e-test.false)
