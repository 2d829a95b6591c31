-- `chain::levels::find_distances` meets its contract. The invariant: each path up to level k has its distance, and no other is of a level.
use Prim.Native.Nat.{◌-◌}
use Rattle.schema.specs.Decoded.{schema_of}
use Rattle.chain.proofs.LevelDistances.{Labelled}
use Rattle.chain.proofs.levels.find_distances.Given as goal

abbrev pub invariant-loop-d : goal.invariant-loop-d
invariant-loop-d l = Labelled (schema_of l.t) l.y l.k l.k l.d.of

abbrev pub decreases-loop-d : goal.decreases-loop-d
decreases-loop-d l = 255 - l.k
