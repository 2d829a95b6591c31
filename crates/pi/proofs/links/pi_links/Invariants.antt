-- `pi::links::pi_links` meets its contract.
use Rattle.instance.specs.Decoded.{rows_of}
use Rattle.instance.specs.Stored.{ColumnsStored}
use Rattle.pi.specs.Links.{link_row}
use Rattle.pi.proofs.links.pi_links.Given as goal

abbrev pub invariant-loop-e : goal.invariant-loop-e
invariant-loop-e l = ColumnsStored l.e (rows_of l.g.source l.tables.counts.now) (link_row l.g l.paths l.tables.k.now l.tables.counts.now l.tables.rows.now) l.initial.out l.out
