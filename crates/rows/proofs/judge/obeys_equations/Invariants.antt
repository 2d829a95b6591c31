-- `rows::judge::obeys_equations` meets its contract.
use Rattle.meaning.proofs.Tabulate.{Passed}
use Rattle.rows.proofs.FromRow.{bent_test}
use Rattle.rows.proofs.judge.obeys_equations.Given as goal

abbrev pub invariant-loop-k : goal.invariant-loop-k
invariant-loop-k l = Passed (bent_test l.schema l.table l.links l.row_links l.own) l.schema.equations (λ j. j) l.k
