-- `compose::writing::mapping_length` meets its contract.
use Rattle.std.proofs.Common.{◌≡◌, ◌≤◌, ◌*◌, ◌∙◌, arith}
use Rattle.compose.specs.Sheets.{images_bits}
use Rattle.compose.proofs.SheetFields.{bits-few, lent-bits}
use Rattle.compose.proofs.writing.mapping_length.Goals.{After-images_bits}
use Rattle.compose.proofs.writing.mapping_length.Goals as goal

bits : (c : After-images_bits) → c.images_bits.result ≡ images_bits c.args.s.graph.edges c.args.f.edge
bits c = c.images_bits.ensures ∙ lent-bits c.args.f.edge c.args.s.graph.edges (omega (arith, c.requires.0.limits.edges))

few : (c : After-images_bits) → c.images_bits.result ≤ 79 * 32
few c = omega (arith, bits c, bits-few c.args.f.edge c.args.s.graph.edges c.requires.1, c.requires.0.limits.edges)

pub overflow_add-result : goal.overflow_add-result
overflow_add-result c = omega (arith, few c, c.requires.0.limits.nodes)

pub overflow_add-result-2 : goal.overflow_add-result-2
overflow_add-result-2 c = omega (arith, few (goal.at.overflow_add-result-2 c).After-images_bits, c.requires.0.limits.nodes, c.requires.0.limits.attributes)

pub overflow_add-result-3 : goal.overflow_add-result-3
overflow_add-result-3 c = omega (arith, few (goal.at.overflow_add-result-3 c).After-images_bits, c.requires.0.limits.nodes, c.requires.0.limits.attributes)

pub returns : goal.returns
returns c = rw (bits (goal.at.returns c).After-images_bits)
