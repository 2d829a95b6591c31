-- A result in a lent tray: written where there is room for it, or refused with the tray as it was.
use Prim.Native.Nat.{ℕ, ◌≤◌, ◌<◌}
use mathlib.Core.Path.{◌≡◌}
use mathlib.Core.List.{List}
use borrow.Author.Tests.{le-leb, lt-leb}
use lib.ListN.{length}
use Rattle.meaning.specs.Calls.{Outcome, refused, accepted, Lent, written}
use Rattle.encoding.specs.Written.{Written}
use Rattle.steps.specs.declared.Refusal.{Refusal}

abbrev pub lent : Outcome ℕ → List ℕ → Lent
lent answer tray = record { answer = answer; tray = tray }

module _ (bytes tray : List ℕ) where
  pub tray-written : {n : ℕ} {out : List ℕ} → length bytes ≤ length tray → Written bytes tray n out → lent (accepted n) out ≡ written tray bytes
  tray-written h w = rw (w.length_is, w.says, le-leb (length bytes) (length tray) h)

  pub tray-small : {r : Refusal} → r ≡ record { number = 16; place = 0 } → length tray < length bytes → lent (refused r.number r.place) tray ≡ written tray bytes
  tray-small e h = rw (e, lt-leb (length bytes) (length tray) h)
