-- `sigma::sigma` meets its contract.
use borrow.Author.Rules.{rules}
use Rattle.sigma.proofs.Pushing.{all-lead, all-over, counts_are, links-are, values-are, pushed}
use Rattle.sigma.proofs.sigma.Goals as goal

pub sigma_links-requires : goal.sigma_links-requires
sigma_links-requires c =
    let P = c.requires.0 in
    (P.schemas.source.limits.nodes, P.schemas.target.limits.edges, P.limits, search rules, all-lead P c.requires.1.for_links c.edge_lifts-lifts.ensures, c.requires.2.for_links)

pub sigma_values-requires : goal.sigma_values-requires
sigma_values-requires c =
    let P = c.requires.0 in
    (P.schemas.source.limits.nodes, P.schemas.source.limits.attributes, P.schemas.target.limits.attributes, P.limits, c.requires.1.for_values, all-over P, c.requires.2.for_values)

pub returns : goal.returns
returns c =
    let P = c.requires.0 in
    let C = c.sigma_counts-pushed.ensures in
    pushed (counts_are P C) (links-are P c.requires.1.for_links c.edge_lifts-lifts.ensures C c.sigma_links.ensures) (values-are P C c.sigma_values.ensures) C.counts.long
