-- `mapping::fits::attributes_fit` meets its contract.
use Rattle.meaning.proofs.Tabulate.{Passed}
use Rattle.mapping.proofs.Fitting.{attribute_test}
use Rattle.mapping.proofs.fits.attributes_fit.Given as goal

abbrev pub invariant-loop-a : goal.invariant-loop-a
invariant-loop-a l = Passed (attribute_test l.t l.homes l.kinds l.images l.columns) l.a-end (λ k. k) l.a
