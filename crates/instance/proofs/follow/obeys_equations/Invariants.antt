-- `instance::follow::obeys_equations` meets its contract.
use mathlib.Core.List.{[]}
use lib.ListN.{get_or}
use Rattle.meaning.specs.Schema.{Equation}
use Rattle.meaning.proofs.Tabulate.{Passed}
use Rattle.schema.specs.Decoded.{equation_of, no_path}
use Rattle.instance.specs.Decoded.{tables_of}
use Rattle.instance.proofs.Following.{equation_test}
use Rattle.instance.proofs.follow.obeys_equations.Given as goal

abbrev pub invariant-loop-k : goal.invariant-loop-k
invariant-loop-k l = Passed {A = Equation} (equation_test (tables_of l.schema l.instance l.links [])) l.schema.equations (λ j. equation_of (get_or l.schema.left j no_path) (get_or l.schema.right j no_path)) l.k
