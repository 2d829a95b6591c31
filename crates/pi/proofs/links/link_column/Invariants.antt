-- `pi::links::link_column` meets its contract.
use lib.ListN.{get_or}
use Rattle.instance.specs.Stored.{Stored}
use Rattle.pi.specs.Links.{link_place}
use Rattle.pi.proofs.links.link_column.Given as goal

abbrev pub invariant-loop-x : goal.invariant-loop-x
invariant-loop-x l = Stored (link_place l.tables.rows.now l.here l.there (λ j. get_or l.places j 0)) l.x l.base l.initial.out l.out
