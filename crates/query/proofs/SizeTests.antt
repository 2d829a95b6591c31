-- A migrated table whose size was tested, and a test that was not passed with what would have followed it.
use Prim.Native.Nat.{ℕ, ◌≤◌}
use mathlib.Core.Path.{◌≡◌, refl, ap}
use mathlib.Core.Bool.{Bool, true, false}
use borrow.Author.Tests.{leb-true}
use lib.Dec.{leb}
use Rattle.std.proofs.Common.{rules}
use Rattle.meaning.specs.Lists.{sum_of}
use Rattle.meaning.specs.Formats as formats
use Rattle.meaning.specs.Formats.{max_rows}
use Rattle.meaning.specs.Calls.{Outcome, accepted, refused, ◌>>=◌, ensure, ensure_fits}

-- a test that was passed
pub passed : (b : Bool) (n : ℕ) → accepted tt ≡ ensure b n → b ≡ true
passed true n e = refl
passed false n e = search rules

module _ (J : formats.Instance) (d : leb (sum_of J.counts) max_rows ≡ true) where
  pub fits : ensure_fits J ≡ accepted J
  fits = rw d refl

  pub fit : sum_of J.counts ≤ max_rows
  fit = leb-true (sum_of J.counts) max_rows d

-- a test of the size that was not
pub stopped : {B : Type 0} {n place : ℕ} (J : formats.Instance) {b : Bool} → b ≡ leb (sum_of J.counts) max_rows → refused n place ≡ ensure b 15 → (f : formats.Instance → Outcome B) → refused n place ≡ (ensure_fits J >>= f)
stopped J d e f = rw (← d) (ap (λ (o : Outcome (Unit {0})). (o >>= λ _. accepted J) >>= f) e)

pub three-passed : (a b c : Bool) → accepted tt ≡ (ensure a 13 >>= λ _. ensure b 14 >>= λ _. ensure c 12) → (a ≡ true) × (b ≡ true) × (c ≡ true)
three-passed true true c e = (refl, refl, passed c 12 e)
three-passed true false c e = search rules
three-passed false b c e = search rules
