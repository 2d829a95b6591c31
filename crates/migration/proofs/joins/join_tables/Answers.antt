-- `migration::joins::join_tables` meets its contract.
use Rattle.migration.proofs.Joining.{families-made}
use borrow.Author.Rules.{rules}
use Rattle.migration.proofs.joins.join_tables.Goals as goal

pub returns-clause-writable : goal.returns-clause-writable
returns-clause-writable c =
    let z = c.requires in
    families-made c.args.opened.now c.args.x.now z.0 z.1 (search rules) c.join-tables.ensures
