-- `schema::count::count_paths` meets its contract. The invariant: the paths of fewer than k edges are counted, and those of k edges tallied.
use Rattle.schema.proofs.Tallies.{Levels}
use Rattle.schema.proofs.count.count_paths.Given as goal

abbrev pub invariant-loop-k : goal.invariant-loop-k
invariant-loop-k l = Levels l.g l.tally l.paths l.k
