-- `mapping::images::sides_agree` meets its contract, equation by equation.
use mathlib.Core.Path.{◌≡◌, sym, ◌∙◌}
use lib.ListN.{get_or}
use Rattle.meaning.proofs.Tabulate.{passed-more, passed-fail, passed-done}
use Rattle.schema.specs.Decoded.{no_path}
use Rattle.mapping.proofs.Sides.{Side, sides, side_test, keeps-by}
use Rattle.mapping.proofs.images.sides_agree.Goals.{After-same_class, In-loop-q}
use Rattle.mapping.proofs.images.sides_agree.Goals as goal

-- ---- the sides of equation q
both : (c : In-loop-q) → Side c.requires (get_or c.args.s.left c.loop-q.q no_path) × Side c.requires (get_or c.args.s.right c.loop-q.q no_path)
both c = sides c.requires c.loop-q.q c.loop-q-test.true

tested : (c : After-same_class) → c.same_class.result ≡ side_test c.args.first.now c.args.rank.now c.args.class.now c.args.f.node c.args.f.edge c.args.s.left c.args.s.right c.loop-q.q
tested c = c.same_class.ensures ∙ rw (c.image_number-left.ensures, c.image_number-right.ensures)

pub image_number-left-requires : goal.image_number-left-requires
image_number-left-requires c = (both (goal.at.image_number-left-requires c).In-loop-q).0.walkable

pub image_number-right-requires : goal.image_number-right-requires
image_number-right-requires c = (both (goal.at.image_number-right-requires c).In-loop-q).1.walkable

pub same_class-requires : goal.same_class-requires
same_class-requires c = let u = both (goal.at.same_class-requires c).In-loop-q in (rw c.image_number-left.ensures u.0.low, rw c.image_number-right.ensures u.1.low)

pub loop-q-preserved : goal.loop-q-preserved
loop-q-preserved c = passed-more c.loop-q.invariant c.loop-q-test.true (sym (tested (goal.at.loop-q-preserved c).After-same_class) ∙ c.if-not-same_class.false)

pub returns-then-not-same_class : goal.returns-then-not-same_class
returns-then-not-same_class c = sym (keeps-by c.requires ∙ passed-fail c.loop-q.invariant c.loop-q-test.true (sym (tested (goal.at.returns-then-not-same_class c).After-same_class) ∙ c.if-not-same_class.true))

pub returns : goal.returns
returns c = sym (keeps-by c.requires ∙ passed-done c.loop-q.invariant c.loop-q-test.false)
