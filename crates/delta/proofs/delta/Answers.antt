-- `delta::delta` meets its contract.
use mathlib.Core.List.{[]}
use native.Mathlib.Omega.{arith}
use borrow.Author.Rules.{rules}
use Rattle.delta.proofs.Pulling.{edge-images, attribute-images, links-are, values-are, pulled}
use Rattle.delta.proofs.delta.Goals.{Start}
use Rattle.delta.proofs.delta.Goals as goal

pub delta_links-requires : goal.delta_links-requires
delta_links-requires c =
    let D = c.delta_counts-d.ensures in
    (edge-images c.requires.0 c.requires.1 D c.args.links.now [] c.requires.3.for_links c.requires.2 (search rules), omega (arith, c.requires.0.source.limits.edges, c.requires.4.for_links))

pub delta_values-requires : goal.delta_values-requires
delta_values-requires c =
    let D = c.delta_counts-d.ensures in
    (attribute-images c.requires.0 c.requires.1 D (search rules) (search rules) c.requires.3.for_values, omega (arith, c.requires.0.source.limits.attributes, c.requires.4.for_values))

pub returns : goal.returns
returns c =
    let D = c.delta_counts-d.ensures in
    let links = c.args.links.now in
    let values = c.args.values.now in
    pulled D
    (links-are c.requires.0 c.requires.1 D links values c.requires.3.for_links c.requires.2 c.delta_links.ensures)
    (values-are c.requires.0 c.requires.1 D links values c.delta_values.ensures)
