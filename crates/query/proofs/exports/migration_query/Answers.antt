-- `query::exports::migration_query` meets its contract.
use Prim.Native.Nat.{ℕ}
use mathlib.Core.Path.{ap, ◌∙◌}
use Rattle.migration.specs.Answers.{returned}
use Rattle.query.proofs.exports.migration_query.Goals as goal

pub returns : goal.returns
returns c = ap (λ (n : ℕ). (n, c.query.new.tray)) c.written_number.ensures ∙ ap returned c.query.ensures
