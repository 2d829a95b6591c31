-- The chain that is found, in a working array.
use Rattle.std.specs.Prelude.{ℕ, cond, List, map, ltb}
use Rattle.std.proofs.Math.Option.{Option, none, some}
use Rattle.meaning.specs.PathChain.{Step}
use Rattle.meaning.proofs.StepNumbers.{step_of}
use Rattle.schema.specs.Decoded.{front_of}

-- n steps at the front of the array, or none where n is no number of steps
abbrev pub chain_of : ℕ → List ℕ → Option (List Step)
chain_of n l = cond (ltb n 256) (some (map step_of (front_of n l))) none
