-- The steps of checkers and turnings, grouped as the code takes them: the inputs, then the sizes and the matching sheet, then what is made of them.
use Prim.Native.Nat.{ℕ}
use mathlib.Core.Path.{◌≡◌, refl, sym, ap, ◌∙◌}
use mathlib.Core.Bool.{Bool, true, false}
use mathlib.Core.List.{List}
use lib.Dec.{leb}
use Rattle.theory.specs.Matching.{partners}
use Rattle.theory.specs.Sigma.{share}
use Rattle.theory.specs.Transposition.{to_raw, to_pushed}
use Rattle.meaning.specs.Lists.{sum_of}
use Rattle.meaning.specs.Formats.{max_rows, matching_sheet}
use Rattle.meaning.specs.Views.{mapping_of, instance_of}
use Rattle.meaning.specs.Judge.{judge_instance}
use Rattle.meaning.specs.Evenness.{even}
use Rattle.meaning.specs.Delta.{delta}
use Rattle.meaning.specs.Sigma.{sigma}
use Rattle.meaning.specs.Calls as meaning
use Rattle.meaning.specs.Calls.{Outcome, accepted, ◌>>=◌, at, ensure, Migration, migration, sides, judge_raw, judge_pushed, check_raw, check_pushed, pushed_to_raw, raw_to_pushed}
use Rattle.meaning.specs.Category.{listed_category}
use Rattle.migration.specs.declared.matchings.Side.TheVariants as side
use Rattle.migration.specs.Sides.{Inputs, inputs, sized, sides_of}
use Rattle.migration.specs.Turnable.{Turnable, turnable, checked_side, turned_side, turned_list}
use Rattle.steps.proofs.Refusing.{bind_assoc}

-- the inputs, then the sizes of both migrated tables
grouped : (s t f i j : List ℕ) → (inputs (migration s t f) i j >>= sized) ≡ sides s t f i j
grouped s t f i j =
    bind_assoc (migration s t f) _ sized _ (λ m.
    bind_assoc (at 4 (judge_instance m.S i)) _ sized _ (λ I.
    bind_assoc (at 5 (judge_instance m.T j)) _ sized _ (λ J.
    bind_assoc (ensure (even (listed_category m.S) (listed_category m.T) m.F) 12) _ sized _ (λ u. refl))))

module _ {B : Type 0} (y : Inputs) (k h : meaning.Sides → Outcome B) where
  -- both sizes pass, or nothing follows
  sized-only : k (sides_of y) ≡ h (sides_of y) → (sized y >>= k) ≡ (sized y >>= h)
  sized-only e = go (leb (sum_of (sigma (listed_category y.m.S) (listed_category y.m.T) y.m.F y.run).counts) max_rows) (leb (sum_of (delta y.m.S y.m.F y.book).counts) max_rows)
    where
      by : Bool → Bool → Outcome meaning.Sides
      by a b = do
        P ← do
          _ ← ensure a 15
          accepted (sigma (listed_category y.m.S) (listed_category y.m.T) y.m.F y.run)
        D ← do
          _ ← ensure b 15
          accepted (delta y.m.S y.m.F y.book)
        accepted (record { m = y.m; run = y.run; book = y.book; pushed = P; pulled = D })

      go : (a b : Bool) → (by a b >>= k) ≡ (by a b >>= h)
      go true true = e
      go true false = refl
      go false b = refl

-- a side's judge, and what is made of what it accepts
module _ {B : Type 0} (s t f i j k : List ℕ) (judge : meaning.Sides → List ℕ → Outcome (List ℕ)) (g : Turnable → Outcome B) (h : meaning.Sides → List ℕ → Outcome B)
    (e : (y : Inputs) (l : List ℕ) → g (turnable y l) ≡ h (sides_of y) l) where
  abbrev made : meaning.Sides → Outcome B
  made x = do
    l ← judge x k
    h x l

  abbrev matched : Inputs → meaning.Sides → Outcome Turnable
  matched y x = do
    l ← judge x k
    accepted (turnable y l)

  abbrev tested : Inputs → Outcome Turnable
  tested y = do
    l ← do
      x ← sized y
      judge x k
    accepted (turnable y l)

  each : (y : Inputs) → (tested y >>= g) ≡ (sized y >>= made)
  each y =
      ap (λ (o : Outcome Turnable). o >>= g) (bind_assoc (sized y) (λ x. judge x k) (λ l. accepted (turnable y l)) (matched y) (λ x. refl))
      ∙ bind_assoc (sized y) (matched y) g (λ x. matched y x >>= g) (λ x. refl)
      ∙ sized-only y (λ x. matched y x >>= g) made (bind_assoc (judge (sides_of y) k) (λ l. accepted (turnable y l)) g (h (sides_of y)) (e y))

  regrouped : ((inputs (migration s t f) i j >>= tested) >>= g) ≡ (sides s t f i j >>= made)
  regrouped =
      bind_assoc (inputs (migration s t f) i j) tested g (λ y. sized y >>= made) each
      ∙ sym (bind_assoc (inputs (migration s t f) i j) sized made (λ y. sized y >>= made) (λ y. refl))
      ∙ ap (λ (o : Outcome meaning.Sides). o >>= made) (grouped s t f i j)

module _ (s t f i j k : List ℕ) where
  pub raw_checked : checked_side side.Raw (migration s t f) i j k ≡ check_raw s t f i j k
  raw_checked = regrouped s t f i j k judge_raw (λ _. accepted tt) (λ _ _. accepted tt) (λ y l. refl)

  pub pushed_checked : checked_side side.Pushed (migration s t f) i j k ≡ check_pushed s t f i j k
  pushed_checked = regrouped s t f i j k judge_pushed (λ _. accepted tt) (λ _ _. accepted tt) (λ y l. refl)

  -- a turning looks at counts alone
  pub raw_turned : turned_side side.Raw (migration s t f) i j k ≡ raw_to_pushed s t f i j k
  unfolding share partners
  raw_turned =
      regrouped s t f i j k judge_raw (λ z. accepted (matching_sheet (turned_list side.Raw z)))
      (λ x l. accepted (matching_sheet (to_pushed (mapping_of x.m.S x.m.T x.m.F) (instance_of x.run) (instance_of x.pushed) l)))
      (λ y l. refl)

  pub pushed_turned : turned_side side.Pushed (migration s t f) i j k ≡ pushed_to_raw s t f i j k
  unfolding share partners
  pushed_turned =
      regrouped s t f i j k judge_pushed (λ z. accepted (matching_sheet (turned_list side.Pushed z)))
      (λ x l. accepted (matching_sheet (to_raw (mapping_of x.m.S x.m.T x.m.F) (instance_of x.run) (instance_of x.pushed) l)))
      (λ y l. refl)
