-- `chain::first_chain` meets its contract: paths of one class have the chain down the levels, others have none.
use mathlib.Core.Path.{sym, ◌∙◌}
use native.Mathlib.Omega.{arith}
use Rattle.chain.proofs.FoundChains.{walk-ready, NumberOf, number_low, linked, none_found, chain-found}
use Rattle.chain.proofs.first_chain.Goals.{After-path_number-x, After-path_number-y}
use Rattle.chain.proofs.first_chain.Goals as goal

first : (c : After-path_number-x) → NumberOf c.args.t c.path_table-p.result c.requires.0 c.path_table-p.ensures c.args.a c.path_number-x.result
first c = record { walked = c.path_number-x.ensures; path = c.requires.1 }

second : (c : After-path_number-y) → NumberOf c.args.t c.path_table-p.result c.requires.0 c.path_table-p.ensures c.args.b c.path_number-y.result
second c = record { walked = c.path_number-y.ensures; path = c.requires.2 }

pub path_number-x-requires : goal.path_number-x-requires
path_number-x-requires c = walk-ready c.args.t c.path_table-p.result c.requires.0 c.path_table-p.ensures c.requires.1

pub path_number-y-requires : goal.path_number-y-requires
path_number-y-requires c = walk-ready c.args.t c.path_table-p.result c.requires.0 c.path_table-p.ensures c.requires.2

pub same_class-requires : goal.same_class-requires
same_class-requires c = (number_low c.args.t c.path_table-p.result c.requires.0 c.path_table-p.ensures (first (goal.at.same_class-requires c).After-path_number-x), number_low c.args.t c.path_table-p.result c.requires.0 c.path_table-p.ensures (second (goal.at.same_class-requires c).After-path_number-y))

pub find_distances-d-requires : goal.find_distances-d-requires
find_distances-d-requires c = (c.requires.0, c.path_table-p.ensures, linked c.args.t c.path_table-p.result c.requires.0 c.path_table-p.ensures (first (goal.at.find_distances-d-requires c).After-path_number-x) (second (goal.at.find_distances-d-requires c).After-path_number-y) (sym c.same_class.ensures ∙ c.if-same_class.true))

pub descend-requires : goal.descend-requires
descend-requires c = (c.requires.0, c.path_table-p.ensures, record { to = c.path_number-y.result; reaches = c.find_distances-d.ensures; away = c.from-n.ensures }, omega (arith, c.from-n.ensures, c.find_distances-d.ensures.few, c.requires.3))

pub returns-then-same_class : goal.returns-then-same_class
returns-then-same_class c = chain-found c.args.t c.path_table-p.result c.requires.0 c.path_table-p.ensures (first (goal.at.returns-then-same_class c).After-path_number-x) (second (goal.at.returns-then-same_class c).After-path_number-y) c.descend.new.steps c.from-n.ensures c.find_distances-d.ensures c.descend.ensures

pub returns : goal.returns
returns c = none_found c.args.t c.path_table-p.result c.requires.0 c.path_table-p.ensures (first (goal.at.returns c).After-path_number-x) (second (goal.at.returns c).After-path_number-y) (sym c.same_class.ensures ∙ c.if-same_class.false)
