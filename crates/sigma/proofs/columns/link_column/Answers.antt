-- `sigma::columns::link_column` meets its contract.
use Prim.Native.Nat.{◌+◌, ◌*◌}
use borrow.Author.Rules.{rules}
use lib.ListN.{get_or}
use Rattle.sigma.specs.Lifted.{lift_row}
use Rattle.sigma.proofs.columns.link_column.Goals as goal

pub returns : goal.returns
returns c =
    let a = c.args in
    c.join.ensures (λ k. lift_row a.paths a.f.node a.run.counts a.links.now (get_or a.lifts.now (16 * a.e + k) 0)) (λ k l i place o p e. search rules)
