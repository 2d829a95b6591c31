-- `paths::table::fill` meets its contract. The invariant: path h is followed by the edges before e, of which the last leaves its end, and n rows are filled.
use Prim.Native.Nat.{◌+◌, ◌-◌, ◌*◌, ◌<◌}
use mathlib.Core.Path.{◌≡◌}
use lib.ListN.{get_or}
use Rattle.agreement.specs.Paths.{path_count}
use Rattle.schema.specs.Decoded.{graph_of}
use Rattle.paths.specs.PathNumbers.{end_of}
use Rattle.paths.proofs.Filling.{Filling}
use Rattle.paths.proofs.table.fill.Given as goal

abbrev pub invariant-loop-h : goal.invariant-loop-h
invariant-loop-h l = Filling (graph_of l.g) l.n l.h l.e l.t × (0 < l.e → get_or l.g.source (l.e - 1) 0 ≡ end_of (graph_of l.g) l.h)

abbrev pub decreases-loop-h : goal.decreases-loop-h
decreases-loop-h l = 34 * (path_count (graph_of l.g) - l.h) + (l.g.edges - l.e)
