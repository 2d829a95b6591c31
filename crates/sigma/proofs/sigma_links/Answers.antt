-- `sigma::sigma_links` meets its contract.
use Prim.Native.Nat.{◌<◌}
use borrow.Author.Rules.{rules}
use Rattle.std.proofs.lemmas.List.{places, get_or-take}
use Rattle.sigma.proofs.Joining.{columns-more}
use Rattle.sigma.proofs.sigma_links.Goals as goal

pub loop-e-preserved : goal.loop-e-preserved
loop-e-preserved c =
    let h : c.loop-e.e < c.args.t.graph.edges = search (rules, places) in
    columns-more c.loop-e.invariant c.requires.2.rows (rw get_or-take at c.link_column.ensures)
