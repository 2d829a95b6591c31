-- `sigma::columns::value_column` meets its contract.
use borrow.Author.Rules.{rules}
use Rattle.sigma.specs.Joined.{value_over}
use Rattle.sigma.proofs.Joining.{joined-room}
use Rattle.sigma.proofs.columns.value_column.Goals as goal

pub join-requires-clause-callable : goal.join-requires-clause-callable
join-requires-clause-callable c = λ k l i place o h.
    let a = c.args in
    let w = joined-room a.f.node a.run.counts a.d k a.s.graph.nodes c.requires.2.rows l i in
    let v = c.requires.5.each k l i in
    search rules

pub returns : goal.returns
returns c = let a = c.args in c.join.ensures (value_over a.s a.f a.values.now a.b) (λ k l i place o p e. search rules)
