-- `compose::images::path_image` meets its contract. The invariant: the images of the first edges are joined.
use mathlib.Core.Path.{◌≡◌}
use Rattle.mapping.specs.Decoded.{image_of}
use Rattle.compose.proofs.Joining.{joined_to}
use Rattle.compose.proofs.images.path_image.Given as goal

abbrev pub invariant-loop-e : goal.invariant-loop-e
invariant-loop-e l = image_of l.image ≡ joined_to l.edge l.fn.p.edges l.e-index
