-- `schema::test_schema` meets its contract: the edges of a well formed schema join nodes.
use mathlib.Core.Path.{sym, ◌∙◌}
use Rattle.schema.proofs.Judging.{fit}
use Rattle.schema.proofs.test_schema.Goals as goal

pub count_paths-count-requires : goal.count_paths-count-requires
count_paths-count-requires c = fit c.requires (sym c.is_well_formed.ensures ∙ c.if-not-is_well_formed.false)

pub has_loop-requires : goal.has_loop-requires
has_loop-requires c = fit c.requires (sym c.is_well_formed.ensures ∙ c.if-not-is_well_formed.false)
