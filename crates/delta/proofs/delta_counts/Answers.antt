-- `delta::delta_counts` meets its contract.
use mathlib.Core.Path.{refl}
use borrow.Author.Rules.{rules}
use Rattle.delta.proofs.Pulling.{node-columns, counted}
use Rattle.delta.proofs.delta_counts.Goals.{Start}
use Rattle.delta.proofs.delta_counts.Goals as goal

pub count_column-requires : goal.count_column-requires
count_column-requires c =
    (c.requires.0.source.limits.nodes, node-columns c.requires.0 c.requires.1 (search rules))

pub returns : goal.returns
returns c = counted c.requires.0 c.requires.1 c.count_column.ensures
