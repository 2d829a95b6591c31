-- `paths::table::rank_edges` meets its contract. The invariant: the first e edges have their ranks, and each node the number of those that leave it.
use Rattle.paths.proofs.Filling.{Ranking}
use Rattle.paths.proofs.table.rank_edges.Given as goal

abbrev pub invariant-loop-e : goal.invariant-loop-e
invariant-loop-e l = Ranking l.g l.seen l.rank l.e
