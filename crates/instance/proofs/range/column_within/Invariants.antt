-- `instance::range::column_within` meets its contract.
use mathlib.Core.Path.{◌≡◌}
use Rattle.meaning.specs.Lists.{all}
use Rattle.meaning.specs.Formats.{within}
use Rattle.instance.specs.Decoded.{column_of}
use Rattle.instance.specs.Ranges.{range_of}
use Rattle.instance.proofs.range.column_within.Given as goal

abbrev pub invariant-loop-x : goal.invariant-loop-x
invariant-loop-x l = l.so_far ≡ all (within (range_of l.range)) (column_of l.l l.base l.x-index)
