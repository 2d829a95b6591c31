-- `compose::exports::migration_compose` meets its contract.
use Prim.Native.Nat.{ℕ}
use mathlib.Core.Path.{ap, ◌∙◌}
use Rattle.migration.specs.Answers.{returned}
use Rattle.compose.proofs.exports.migration_compose.Goals as goal

pub returns : goal.returns
returns c = ap (λ (n : ℕ). (n, c.compose.new.tray)) c.written_number.ensures ∙ ap returned c.compose.ensures
