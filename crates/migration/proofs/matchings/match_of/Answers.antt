-- `migration::matchings::match_of` meets its contract.
use Rattle.migration.proofs.Validity.{pushed-rows}
use Rattle.migration.proofs.matchings.match_of.Goals as goal

pub returns-clause-ready : goal.returns-clause-ready
returns-clause-ready g c = let M = c.in_ok-sides.ensures.migratable in record { ready = M.ready; limits = M.run.limits; rows = pushed-rows M }
