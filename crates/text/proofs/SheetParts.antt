-- Laws of the framing: the byte length at a position, and the sheet after it.
use Prim.Native.Nat.{ℕ, zero, suc, ◌+◌, ◌-◌, ◌*◌, ◌≤◌, ◌<◌}
use mathlib.Core.Path.{◌≡◌, refl, ap, ◌∙◌}
use mathlib.Core.List.{List, [], ◌∷◌}
use native.Mathlib.Omega.{arith}
use native.Mathlib.Nat.{add-zero}
use lib.ListN.{length, get_or, drop, length-drop, drop_of_length-le}
use lib.Seq.{drop-drop, get_or-drop, take_all, take-nil, drop-nil}
use Rattle.meaning.specs.Program.{announced, first_sheet, later_sheets, after_sheets, sheet}
use Rattle.text.specs.declared.framing.Part.{Part}
use Rattle.text.specs.Framed.{SheetFound, NthFound}

-- ---- the byte length at the front

announced-some : (l : List ℕ) → 2 ≤ length l → announced l ≡ 256 * get_or l 0 0 + get_or l 1 0
announced-some [] h = absurd (omega arith)
announced-some (a ∷ []) h = absurd (omega arith)
announced-some (a ∷ b ∷ l) h = refl

pub length_some : (input : List ℕ) (at : ℕ) → at + 2 ≤ length input → announced (drop at input) ≡ 256 * get_or input at 0 + get_or input (at + 1) 0
length_some input at h =
    announced-some (drop at input) (omega (arith, length-drop at input))
    ∙ rw (get_or-drop at input 0 0, get_or-drop at input 1 0, add-zero at)

-- ---- the sheet after it

module _ (input : List ℕ) (at : ℕ) where
  -- what follows the byte length
  unlengthed : drop 2 (drop at input) ≡ drop (at + 2) input
  unlengthed = drop-drop 2 at input

  -- nothing stands past the end
  nothing : (k : ℕ) → length input ≤ k → drop k input ≡ []
  nothing k h = drop_of_length-le input h

  pub sheet-none : at ≤ length input → length input - at < 2 → SheetFound input at (record { start = length input; end = length input })
  sheet-none long h =
      let none = nothing (length input) (omega arith) in
      let rest : drop 2 (drop at input) ≡ [] = unlengthed ∙ nothing (at + 2) (omega arith) in
      record {
        lies = record { ordered = omega arith; inside = omega arith };
        onward = omega arith;
        sheet = rw (none, rest, take-nil (length input - length input), take-nil (announced (drop at input)));
        later = rw (none, rest, drop-nil (announced (drop at input)));
      }

  -- the input lacks bytes of the sheet
  pub sheet-cut : at + 2 ≤ length input → length input - (at + 2) < announced (drop at input) → SheetFound input at (record { start = at + 2; end = length input })
  sheet-cut long h =
      let rest = length-drop (at + 2) input in
      record {
        lies = record { ordered = omega arith; inside = omega arith };
        onward = omega arith;
        sheet = rw (unlengthed, take_all (length input - (at + 2)) (drop (at + 2) input) (omega arith), take_all (announced (drop at input)) (drop (at + 2) input) (omega arith));
        later = rw (unlengthed, drop-drop (announced (drop at input)) (at + 2) input, nothing (length input) (omega arith), nothing (at + 2 + announced (drop at input)) (omega arith));
      }

  pub sheet-whole : {size : ℕ} → size ≡ announced (drop at input) → at + 2 ≤ length input → size ≤ length input - (at + 2) → SheetFound input at (record { start = at + 2; end = at + 2 + size })
  sheet-whole {size} e long h =
      let size_is : at + 2 + size - (at + 2) ≡ size = omega arith in
      record {
        lies = record { ordered = omega arith; inside = omega arith };
        onward = omega arith;
        sheet = rw (unlengthed, size_is, e);
        later = rw (unlengthed, drop-drop (announced (drop at input)) (at + 2) input, e);
      }

-- ---- sheets, each where the one before ends

after-later : (n : ℕ) (input : List ℕ) → later_sheets (after_sheets n input) ≡ after_sheets (suc n) input
after-later zero input = refl
after-later (suc n) input = after-later n (later_sheets input)

-- a position is where the first n sheets end
pub record EndsAt (input : List ℕ) (n at : ℕ) : Type 0 where
  pub within : at ≤ length input
  pub rest : drop at input ≡ after_sheets n input

pub begins : (input : List ℕ) → EndsAt input 0 0
begins input = record { within = omega arith; rest = refl }

module _ {input : List ℕ} {n at : ℕ} {p : Part} (E : EndsAt input n at) (F : SheetFound input at p) where
  pub ends_next : EndsAt input (n + 1) p.end
  ends_next =
      let next : suc n ≡ n + 1 = omega arith in
      record { within = F.lies.inside; rest = F.later ∙ ap later_sheets E.rest ∙ after-later n input ∙ ap (λ (k : ℕ). after_sheets k input) next }

  pub nth-found : {m : ℕ} → n ≡ m → NthFound input m p
  nth-found e = record { lies = F.lies; is = F.sheet ∙ ap first_sheet E.rest ∙ ap (λ (k : ℕ). sheet k input) e }
