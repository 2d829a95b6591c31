-- `lifts::even::is_even` meets its contract.
use mathlib.Core.Path.{sym, ◌∙◌}
use Rattle.lifts.proofs.EvenColumns.{even-by}
use Rattle.lifts.proofs.even.is_even.Goals as goal

pub image_classes-over-requires : goal.image_classes-over-requires
image_classes-over-requires c = let p = c.requires in record { schemas = p.0; short = p.1.short; fits = p.1.fits }

pub returns-then-paths_even : goal.returns-then-paths_even
returns-then-paths_even c =
    let a = c.args in
    rw (even-by a.s a.t a.f c.requires.0 c.requires.1 c.image_classes-over.ensures, sym c.paths_even.ensures ∙ c.if-paths_even.true) c.attributes_even.ensures

pub returns-else-paths_even : goal.returns-else-paths_even
returns-else-paths_even c =
    let a = c.args in
    rw (even-by a.s a.t a.f c.requires.0 c.requires.1 c.image_classes-over.ensures, sym c.paths_even.ensures ∙ c.if-paths_even.false) c.if-paths_even.false
