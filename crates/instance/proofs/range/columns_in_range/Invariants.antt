-- `instance::range::columns_in_range` meets its contract.

use Rattle.meaning.proofs.Tabulate.{Passed}
use Rattle.instance.specs.Ranges.{kinds_of}
use Rattle.instance.specs.Tested.{value_test}
use Rattle.instance.proofs.range.columns_in_range.Given as goal

abbrev pub invariant-loop-a : goal.invariant-loop-a
invariant-loop-a l = Passed (value_test l.node l.kind l.counts l.values (kinds_of l.kinds)) l.n (λ k. k) l.a
