-- `mapping::fits::attributes_fit` meets its contract.
use mathlib.Core.Path.{◌≡◌, sym, ◌∙◌}
use native.Mathlib.Omega.{arith}
use lib.ListN.{get_or}
use Rattle.meaning.proofs.Tabulate.{passed-more}
use Rattle.schema.proofs.SoundSchema.{home_in}
use Rattle.mapping.proofs.Viewing.{upto-fail, upto_done}
use Rattle.mapping.proofs.Fitting.{attribute_test, attributes-test}
use Rattle.mapping.proofs.fits.attributes_fit.Goals.{After-attribute_fits}
use Rattle.mapping.proofs.fits.attributes_fit.Goals as goal

tested : (c : After-attribute_fits) → attribute_test c.args.t c.args.s.node c.args.s.kind c.args.f.node c.args.f.attribute c.loop-a.a ≡ c.attribute_fits.result
tested c =
    let x : c.from-home.result ≡ get_or c.args.s.node c.loop-a.a 0 = c.from-home.ensures in
    let y : c.from-b.result ≡ get_or c.args.f.attribute c.loop-a.a 0 = c.from-b.ensures in
    rw (← x, ← y) (sym c.attribute_fits.ensures)

pub bounds-images-home : goal.bounds-images-home
bounds-images-home c = let p = c.requires.0 in omega (arith, c.from-home.ensures, home_in _ p c.loop-a.a c.loop-a-test.true, p.limits.nodes)

pub loop-a-preserved : goal.loop-a-preserved
loop-a-preserved c = passed-more c.loop-a.invariant c.loop-a-test.true (tested (goal.at.loop-a-preserved c).After-attribute_fits ∙ c.if-not-attribute_fits.false)

pub returns-then-not-attribute_fits : goal.returns-then-not-attribute_fits
returns-then-not-attribute_fits c = sym (attributes-test c.args.s c.args.t c.args.f c.requires.0 ∙ upto-fail c.loop-a.invariant c.loop-a-test.true (tested (goal.at.returns-then-not-attribute_fits c).After-attribute_fits ∙ c.if-not-attribute_fits.true))

pub returns : goal.returns
returns c = sym (attributes-test c.args.s c.args.t c.args.f c.requires.0 ∙ upto_done c.loop-a.invariant c.loop-a-test.false)
