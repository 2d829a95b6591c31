-- `encoding::sheet_length` meets its contract.
use borrow.Author.Rules.{rules}
use native.Mathlib.Omega.{arith}
use Rattle.instance.proofs.Decoding.{link-columns, value-columns}
use Rattle.encoding.proofs.sheet_length.Goals as goal

pub rows_in-links-requires : goal.rows_in-links-requires
rows_in-links-requires c =
    let L = c.requires.1 in
    (link-columns c.args.schema c.requires.0 c.args.instance.counts L.rows L.long (search rules), c.requires.0.limits.edges)

pub rows_in-values-requires : goal.rows_in-values-requires
rows_in-values-requires c =
    let L = c.requires.1 in
    (value-columns c.args.schema c.requires.0 c.args.instance.counts L.rows L.long (search rules), omega (arith, c.requires.0.limits.attributes))
