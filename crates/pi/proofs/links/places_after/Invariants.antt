-- `pi::links::places_after` meets its contract.
use Rattle.paths.specs.Table.{Filled}
use Rattle.pi.specs.Links.{place_after}
use Rattle.pi.proofs.links.places_after.Given as goal

abbrev pub invariant-loop-j : goal.invariant-loop-j
invariant-loop-j l = Filled 64 (place_after l.g l.paths l.k l.e) l.j l.places
