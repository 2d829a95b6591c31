-- Values of a kind, by any list of kinds; and what the built-in list has.
use Prim.Native.Nat.{ℕ, zero, suc, ◌^◌, ◌<◌}
use mathlib.Core.Path.{◌≡◌, refl}
use mathlib.Core.Bool.{Bool, true, false, ◌&&◌}
use mathlib.Core.Logic.{◌↔◌, ◌⊎◌, inl, inr}
use native.Mathlib.Omega.{arith}
use lib.ListN.{get_or, drop}
use lib.Dec.{leb}
use borrow.Author.Tests.{leb-true, leb-false, le-leb}
use Rattle.meaning.specs.Lists.{all}
use Rattle.meaning.specs.Formats.{Range, from_to, within, Kinds, kinds, in_range}
use Rattle.meaning.proofs.Tabulate.{and_both}
use Rattle.meaning.proofs.Lists.{everywhere, all-places}
use Rattle.agreement.specs.Valid.{InRange}

pub in-range-iff : (ks : Kinds) (k v : ℕ) → (in_range ks k v ≡ true) ↔ InRange ks k v
in-range-iff ks k v =
    let r = get_or ks k (from_to 0 0) in (
      λ e. let b = and_both (leb r.smallest v) (leb v r.largest) e in (leb-true r.smallest v b.0, leb-true v r.largest b.1),
      λ is. rw (le-leb r.smallest v is.0, le-leb v r.largest is.1),
    )

-- what is not within a range is below or above it
pub beyond : (r : Range) (v : ℕ) → within r v ≡ false → (v < r.smallest) ⊎ (r.largest < v)
beyond r v e = go (leb r.smallest v) refl e
  where
    go : (b : Bool) → leb r.smallest v ≡ b → (b && leb v r.largest) ≡ false → (v < r.smallest) ⊎ (r.largest < v)
    go true p e = inr (leb-false v r.largest e)
    go false p e = inl (leb-false r.smallest v p)

-- a value fits a field of 32 bits, by any list of kinds whose largest values do
abbrev fits : Range → Bool
fits r = leb r.largest 4294967295

value_below : (ks : Kinds) → all fits ks ≡ true → (k v : ℕ) → InRange ks k v → v < 2 ^ 32
value_below ks e k v is =
    let h = leb-true (get_or ks k (from_to 0 0)).largest 4294967295 (everywhere (λ r. fits r ≡ true) ks (from_to 0 0) refl (all-places fits ks (from_to 0 0) e) k) in
    omega (arith, is.1, h)

-- ---- the built-in list

pub built-in-below : (k v : ℕ) → InRange kinds k v → v < 2 ^ 32
built-in-below = value_below kinds refl

-- every kind but the clock has 0
pub zero_in : (k : ℕ) → (k ≡ 2 → ⊥) → InRange kinds k 0
zero_in k n = (in-range-iff kinds k 0).0 (go k n)
  where
    go : (k : ℕ) → (k ≡ 2 → ⊥) → in_range kinds k 0 ≡ true
    go zero n = refl
    go (suc zero) n = refl
    go (suc (suc zero)) n = absurd (n refl)
    go (suc (suc (suc k))) n = everywhere (λ r. within r 0 ≡ true) (drop 3 kinds) (from_to 0 0) refl (all-places (λ r. within r 0) (drop 3 kinds) (from_to 0 0) refl) k
