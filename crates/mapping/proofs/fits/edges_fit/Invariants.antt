-- `mapping::fits::edges_fit` meets its contract.
use Rattle.meaning.proofs.Tabulate.{Passed}
use Rattle.mapping.proofs.Fitting.{edge_test}
use Rattle.mapping.proofs.fits.edges_fit.Given as goal

abbrev pub invariant-loop-e : goal.invariant-loop-e
invariant-loop-e l = Passed (edge_test l.g l.h l.node l.edge) l.g.edges (λ k. k) l.e
