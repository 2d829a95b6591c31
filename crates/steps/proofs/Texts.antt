-- What a program prints: the text of migrated tables, which can be printed, or of the refusal.
use Prim.Native.Nat.{ℕ}
use Rattle.std.specs.Prelude.{Result, Ok, Err, IfOk}
use mathlib.Core.Path.{◌≡◌, sym}
use mathlib.Core.List.{List}
use Rattle.meaning.specs.Formats.{instance_sheet}
use Rattle.meaning.specs.Schema.{Schema}
use Rattle.meaning.specs.Calls as meaning
use Rattle.meaning.specs.Calls.{Outcome, accepted}
use Rattle.meaning.proofs.Facts.{instance-facts}
use Rattle.agreement.specs.Agrees.{Lendable}
use Rattle.text.specs.Written.{Printable}
use Rattle.steps.specs.declared.Refusal.{Refusal}
use Rattle.steps.specs.declared.results.Migrated.{Migrated}
use Rattle.steps.specs.Answers.{outcome_of}
use Rattle.steps.specs.Migrated.{migrated_of, Writable, Migrates}

module _ {r : Result Migrated Refusal} {links values : List ℕ} {M : Outcome meaning.Migrated} (u : Migrates r links values M) where
  -- the sheet of an accepted result is an instance sheet, so its links have 9 bits
  pub printable : ((N : meaning.Migrated) → M ≡ accepted N → (S : Schema) × Lendable S N.tables) → IfOk r (λ m. Printable m.schema m.tables links values)
  printable lendable = go r u.says u.writable
    where
      go : (r : Result Migrated Refusal) → outcome_of (λ m. migrated_of m links values) r ≡ M → IfOk r (λ m. Writable m links values) → IfOk r (λ m. Printable m.schema m.tables links values)
      go (Ok m) says w =
          let a = lendable (migrated_of m links values) (sym says) in
          record {
            limits = w.sound.limits;
            room = w.room;
            rows = w.limits.rows;
            targets = λ e l r. (instance-facts a.0 (instance_sheet (migrated_of m links values).tables) a.1.lent_again).fits_fields.link_below e r;
          }
      go (Err e) says w = tt
