-- `paths::chains::chain` meets its contract. The invariant: the places from i on are chained.
use lib.ListN.{length}
use Rattle.paths.proofs.Chaining.{Chaining}
use Rattle.paths.proofs.chains.chain.Given as goal

abbrev pub invariant-loop-i : goal.invariant-loop-i
invariant-loop-i l = Chaining l.column l.count l.i (length l.initial.next) l.next l.first
