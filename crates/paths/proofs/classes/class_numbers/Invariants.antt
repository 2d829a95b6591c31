-- `paths::classes::class_numbers` meets its contract. The invariant: the pairs of the first q equations are joined.
use lib.ListN.{get_or}
use Rattle.schema.specs.Decoded.{no_path}
use Rattle.paths.specs.Classes.{equation_pairs}
use Rattle.paths.proofs.Joining.{Turns}
use Rattle.paths.proofs.classes.class_numbers.Given as goal

abbrev pub invariant-loop-q : goal.invariant-loop-q
invariant-loop-q l = Turns (λ i. equation_pairs l.p l.nodes (get_or l.lefts i no_path) (get_or l.rights i no_path)) l.n l.initial.c.of l.q l.c.of
