-- `mapping::images::sides_agree` meets its contract, equation by equation.
use Rattle.meaning.proofs.Tabulate.{Passed}
use Rattle.mapping.proofs.Sides.{side_test}
use Rattle.mapping.proofs.images.sides_agree.Given as goal

abbrev pub invariant-loop-q : goal.invariant-loop-q
invariant-loop-q l = Passed (side_test l.first l.rank l.class l.node l.edge l.lefts l.rights) l.n (λ k. k) l.q
