-- `mapping::images::image_number` meets its contract. The invariant: from path x on, the images of the edges from the next on lead to the same number.
use mathlib.Core.Path.{◌≡◌}
use lib.ListN.{get_or, drop}
use Rattle.schema.specs.Decoded.{path_of}
use Rattle.paths.specs.PathWalks.{walk_from, WalkIn}
use Rattle.mapping.specs.Judged.{joined_images}
use Rattle.mapping.proofs.images.image_number.Given as goal

abbrev pub invariant-loop-e : goal.invariant-loop-e
invariant-loop-e l = (walk_from l.first l.rank (get_or l.node l.fn.p.start 0) (joined_images l.edge (path_of l.fn.p).edges) ≡ walk_from l.first l.rank l.x (joined_images l.edge (drop l.e-index (path_of l.fn.p).edges))) × WalkIn l.first l.rank l.x (joined_images l.edge (drop l.e-index (path_of l.fn.p).edges))
