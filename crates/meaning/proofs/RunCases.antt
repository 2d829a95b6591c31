-- Cases 4 and 5 for every run: their mappings are not even, whatever the rows; and case 4's Pi has one row for each row at 0.
use Prim.Native.Nat.{ℕ, zero, suc, ◌+◌, ◌<◌, ◌≤◌}
use mathlib.Core.Path.{◌≡◌, refl, ap, ap₂, ◌∙◌}
use mathlib.Core.Bool.{Bool, true, false, ◌&&◌}
use mathlib.Core.List.{List, [], ◌∷◌, ◌++◌, map, Memᴰ}
use native.Mathlib.Omega.{arith}
use native.Mathlib.Nat.{zero-add}
use native.Mathlib.Decide.{ℕ_discrete}
use lib.ListN.{length, get_or, length-map}
use lib.Dec.{leb, ltb, eqb}
use borrow.Author.Tests.{ltb-true, le-leb, eq-eqb, ne_eqb}
use Rattle.bits.specs.Field.{field, bit, tail_ok}
use Rattle.meaning.specs.Lists.{range, upto, filter, all, tuples}
use Rattle.meaning.specs.Sheet.{sound}
use Rattle.meaning.specs.Formats.{Instance, max_rows}
use Rattle.meaning.specs.Views.{count, rows, link}
use Rattle.meaning.specs.Judge.{judge_instance}
use Rattle.meaning.specs.Category.{listed_category}
use Rattle.meaning.specs.Evenness.{even}
use Rattle.meaning.specs.Pi.{families}
use Rattle.meaning.specs.Calls.{refused, accepted, Migration, migration, sigma_tables, pi_tables}
use Rattle.theory.proofs.Order.{mem-get_or}
use Rattle.meaning.proofs.Lists.{of-upto, all_of, upto-length, get_or-sum, filter-append}
use Rattle.meaning.proofs.Facts.{InstanceFacts, instance-facts}
use Rattle.meaning.proofs.Examples.{arrow, point, arrow_to_point, fork, line, fork_to_line}

-- case 4's sheets as read
abbrev pub arrow_point : Migration
arrow_point = record {
  S = record { graph = record { nodes = 2; edges = record { source = 0; target = 1 } ∷ [] }; attributes = []; equations = [] };
  T = record { graph = record { nodes = 1; edges = [] }; attributes = []; equations = [] };
  F = record { nodes = 0 ∷ 0 ∷ []; edges = [] ∷ []; attributes = [] };
}

-- case 4: Sigma 12; Pi has one row for each row at 0, the family of the row and its link's target, in order
pub record ArrowToPoint : Type 0 where
  pub read : migration arrow point arrow_to_point ≡ accepted arrow_point
  pub sigma : (i : List ℕ) (I : Instance) → judge_instance arrow_point.S i ≡ sound I → sigma_tables arrow point arrow_to_point i ≡ refused 12 0
  pub pi : (i : List ℕ) (I : Instance) → judge_instance arrow_point.S i ≡ sound I →
      pi_tables arrow point arrow_to_point i ≡ accepted (record { schema = arrow_point.T; tables = record { counts = count I 0 ∷ []; links = []; values = [] } })
  pub pairs : (i : List ℕ) (I : Instance) → judge_instance arrow_point.S i ≡ sound I →
      families (listed_category arrow_point.S) (listed_category arrow_point.T) arrow_point.F I 0 ≡ map (λ x. x ∷ link I 0 x ∷ []) (rows I 0)

-- case 5's sheets as read
abbrev pub fork_line : Migration
fork_line = record {
  S = record { graph = record { nodes = 4; edges = record { source = 0; target = 1 } ∷ record { source = 1; target = 2 } ∷ record { source = 0; target = 3 } ∷ [] }; attributes = []; equations = [] };
  T = record { graph = record { nodes = 3; edges = record { source = 0; target = 1 } ∷ record { source = 1; target = 2 } ∷ [] }; attributes = []; equations = [] };
  F = record { nodes = 0 ∷ 1 ∷ 2 ∷ 2 ∷ []; edges = (0 ∷ []) ∷ (1 ∷ []) ∷ (0 ∷ 1 ∷ []) ∷ []; attributes = [] };
}

-- case 5: Sigma 12; that each edge has one lift is in the table
pub record ForkToLine : Type 0 where
  pub read : migration fork line fork_to_line ≡ accepted fork_line
  pub sigma : (i : List ℕ) (I : Instance) → judge_instance fork_line.S i ≡ sound I → sigma_tables fork line fork_to_line i ≡ refused 12 0

-- ---- Sigma

arrow-read : migration arrow point arrow_to_point ≡ accepted arrow_point
unfolding field bit tail_ok
arrow-read = refl

fork-read : migration fork line fork_to_line ≡ accepted fork_line
unfolding field bit tail_ok
fork-read = refl

module _ (s t f i : List ℕ) {m : Migration} {I : Instance} (e : migration s t f ≡ accepted m) (h : judge_instance m.S i ≡ sound I) where
  uneven : even (listed_category m.S) (listed_category m.T) m.F ≡ false → sigma_tables s t f i ≡ refused 12 0
  uneven u = rw (e, h, u)

pub fork-to-line : ForkToLine
fork-to-line = record { read = fork-read; sigma = λ i I h. uneven fork line fork_to_line i fork-read h refl }

-- ---- Pi

-- pairs whose second part is g of the first
module _ (g : ℕ → ℕ) where
  abbrev leads : List ℕ → Bool
  leads rs = eqb (g (get_or rs 0 0)) (get_or rs 1 0) && true && true

  pairs-none : (x n start : ℕ) → g x < start → filter leads (map (λ t. x ∷ t) (tuples (range start n ∷ []))) ≡ []
  pairs-none x zero start h = refl
  pairs-none x (suc n) start h = rw (ne_eqb (g x) start (λ e. omega arith)) (pairs-none x n (suc start) (omega arith))

  pairs-one : (x n start : ℕ) → start ≤ g x → g x < start + n → filter leads (map (λ t. x ∷ t) (tuples (range start n ∷ []))) ≡ (x ∷ g x ∷ []) ∷ []
  pairs-one x zero start h l = absurd (omega arith)
  pairs-one x (suc n) start h l = go (ℕ_discrete (g x) start) (pairs-one x n (suc start))
    where
      go : Dec (g x ≡ start) → (suc start ≤ g x → g x < suc start + n → filter leads (map (λ t. x ∷ t) (tuples (range (suc start) n ∷ []))) ≡ (x ∷ g x ∷ []) ∷ []) →
          filter leads (map (λ t. x ∷ t) (tuples (range start (suc n) ∷ []))) ≡ (x ∷ g x ∷ []) ∷ []
      go (yes e) later = rw (e, eq-eqb start start refl) (ap (λ (l : List (List ℕ)). (x ∷ start ∷ []) ∷ l) (pairs-none x n (suc start) (omega arith)))
      go (no e) later = rw (ne_eqb (g x) start e) (later (omega arith) (omega arith))

  pairs : (n : ℕ) (xs : List ℕ) → ((x : ℕ) → Memᴰ x xs → g x < n) → filter leads (tuples (xs ∷ upto n ∷ [])) ≡ map (λ x. x ∷ g x ∷ []) xs
  pairs n [] h = refl
  pairs n (x ∷ xs) h =
      filter-append leads (map (λ t. x ∷ t) (tuples (upto n ∷ []))) (tuples (xs ∷ upto n ∷ []))
      ∙ ap₂ (λ (a b : List (List ℕ)). a ++ b) (pairs-one x n 0 (omega arith) (rw zero-add (h x (Memᴰ.head refl)))) (pairs n xs (λ y m. h y (Memᴰ.tail m)))

module _ {I : Instance} (I-is : InstanceFacts arrow_point.S I) where
  arrow-link : (x : ℕ) → Memᴰ x (rows I 0) → link I 0 x < count I 1
  arrow-link x m =
      let whole : length (get_or I.links 0 []) ≡ count I 0 = I-is.shaped.links 0 (omega arith) in
      let below = all_of (λ e. all (λ r. ltb r (count I 1)) (get_or I.links 0 [])) (upto 1) I-is.links (Memᴰ.head refl) in
      ltb-true (link I 0 x) (count I 1) (all_of (λ r. ltb r (count I 1)) (get_or I.links 0 []) below (mem-get_or 0 (get_or I.links 0 []) x (rw whole (of-upto (count I 0) m))))

  arrow-rows : families (listed_category arrow_point.S) (listed_category arrow_point.T) arrow_point.F I 0 ≡ map (λ x. x ∷ link I 0 x ∷ []) (rows I 0)
  arrow-rows = pairs (link I 0) (count I 1) (rows I 0) arrow-link

  arrow-counted : length (families (listed_category arrow_point.S) (listed_category arrow_point.T) arrow_point.F I 0) ≡ count I 0
  arrow-counted = ap length arrow-rows ∙ length-map (rows I 0) (λ x. x ∷ link I 0 x ∷ []) ∙ upto-length (count I 0)

  few_rows : leb (count I 0 + 0) max_rows ≡ true
  few_rows = le-leb (count I 0 + 0) max_rows (omega (arith, get_or-sum I.counts 0, I-is.few_rows))

pub arrow-to-point : ArrowToPoint
arrow-to-point = record {
  read = arrow-read;
  sigma = λ i I h. uneven arrow point arrow_to_point i arrow-read h refl;
  pi = λ i I h. let I-is = instance-facts arrow_point.S i h in rw (arrow-read, h, arrow-counted I-is, few_rows I-is);
  pairs = λ i I h. arrow-rows (instance-facts arrow_point.S i h);
}
