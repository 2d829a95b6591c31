-- `matching::turning::copy_tables` meets its contract.
use mathlib.Core.Path.{◌≡◌}
use lib.ListN.{length}
use Rattle.matching.specs.Turned.{Moved}
use Rattle.matching.proofs.turning.copy_tables.Given as goal

abbrev pub invariant-loop-c : goal.invariant-loop-c
invariant-loop-c l = Moved l.c l.from l.to l.list l.out × (length l.out ≡ length l.initial.out)
