-- `sigma::sigma_values` meets its contract.
use Prim.Native.Nat.{◌<◌}
use borrow.Author.Rules.{rules}
use Rattle.std.proofs.lemmas.List.{places, get_or-take}
use Rattle.sigma.proofs.Joining.{columns-more}
use Rattle.sigma.proofs.sigma_values.Goals as goal

pub loop-b-preserved : goal.loop-b-preserved
loop-b-preserved c =
    let h : c.loop-b.b < c.args.t.attributes = search (rules, places) in
    columns-more c.loop-b.invariant c.requires.3.rows (rw get_or-take at c.value_column.ensures)
