-- Case 3 over every list and every sheet: the base example has one matching on each side.
use Prim.Native.Nat.{ℕ}
use mathlib.Core.Path.{◌≡◌, refl, ap, ◌∙◌}
use mathlib.Core.Bool.{true}
use mathlib.Core.List.Memᴰ
use mathlib.Core.List.{List, [], ◌∷◌}
use mathlib.Core.Logic.{◌↔◌}
use native.Mathlib.Omega.{arith}
use lib.ListN.{length}
use Rattle.bits.specs.Field.{field, bit, tail_ok, Bytes}
use Rattle.bits.specs.Pack.{pack, gather, bits_of, digits, number, total_width}
use Rattle.theory.specs.Numbering.{sum}
use Rattle.meaning.specs.Lists.{sum_of}
use Rattle.meaning.specs.Schema.{Schema}
use Rattle.meaning.specs.Sheet.{Judged, faulty, sound}
use Rattle.meaning.specs.Formats.{Instance, matching_sheet}
use Rattle.meaning.specs.Views.{count}
use Rattle.meaning.specs.Matching.{is_matching, judge_matching}
use Rattle.meaning.specs.Calls.{Outcome, accepted, ◌>>=◌, at, Sides, sides, check_pushed, check_raw}
use Rattle.meaning.proofs.Facts.{matching-facts}
use Rattle.meaning.proofs.Written.{matching-judged-sheet}
use Rattle.meaning.proofs.Matchings.{matchings, matchings-all}
use Rattle.meaning.proofs.Examples.{vendor, operator, vendor_to_operator, run, book, pushed_list, raw_list}

-- the base example's sheets as read, with both migrated tables
abbrev pub base : Sides
base = record {
  m = record {
    S = record {
      graph = record { nodes = 3; edges = record { source = 0; target = 1 } ∷ record { source = 2; target = 1 } ∷ [] };
      attributes = record { node = 0; kind = 1 } ∷ record { node = 2; kind = 1 } ∷ [];
      equations = [];
    };
    T = record {
      graph = record { nodes = 2; edges = record { source = 0; target = 1 } ∷ [] };
      attributes = record { node = 0; kind = 1 } ∷ [];
      equations = [];
    };
    F = record { nodes = 0 ∷ 1 ∷ 0 ∷ []; edges = (0 ∷ []) ∷ (0 ∷ []) ∷ []; attributes = 0 ∷ 0 ∷ [] };
  };
  run = record { counts = 2 ∷ 2 ∷ 1 ∷ []; links = (1 ∷ 0 ∷ []) ∷ (1 ∷ []) ∷ []; values = (700 ∷ 300 ∷ []) ∷ (705 ∷ []) ∷ [] };
  book = record { counts = 3 ∷ 2 ∷ []; links = (0 ∷ 1 ∷ 1 ∷ []) ∷ []; values = (300 ∷ 705 ∷ 700 ∷ []) ∷ [] };
  pushed = record { counts = 3 ∷ 2 ∷ []; links = (1 ∷ 0 ∷ 1 ∷ []) ∷ []; values = (700 ∷ 300 ∷ 705 ∷ []) ∷ [] };
  pulled = record { counts = 3 ∷ 2 ∷ 3 ∷ []; links = (0 ∷ 1 ∷ 1 ∷ []) ∷ (0 ∷ 1 ∷ 1 ∷ []) ∷ []; values = (300 ∷ 705 ∷ 700 ∷ []) ∷ (300 ∷ 705 ∷ 700 ∷ []) ∷ [] };
}

-- the only matchings are 2 0 1 0 1 (pushed) and 2 0 0 1 1 (raw), as lists and as sheets
pub record OnlyMatchings : Type 0 where
  pub read : sides vendor operator vendor_to_operator run book ≡ accepted base
  pub pushed-list : (l : List ℕ) → length l ≡ 5 → is_matching base.m.T base.pushed base.book l ≡ true ↔ l ≡ 2 ∷ 0 ∷ 1 ∷ 0 ∷ 1 ∷ []
  pub raw-list : (l : List ℕ) → length l ≡ 5 → is_matching base.m.S base.run base.pulled l ≡ true ↔ l ≡ 2 ∷ 0 ∷ 0 ∷ 1 ∷ 1 ∷ []
  pub pushed-sheet : (k : List ℕ) → Bytes k → check_pushed vendor operator vendor_to_operator run book k ≡ accepted tt ↔ k ≡ pushed_list
  pub raw-sheet : (k : List ℕ) → Bytes k → check_raw vendor operator vendor_to_operator run book k ≡ accepted tt ↔ k ≡ raw_list

base_read : sides vendor operator vendor_to_operator run book ≡ accepted base
unfolding field bit tail_ok
base_read = refl

-- what is computed of l, for it to be the only matching from A to B
record Only (S : Schema) (A B : Instance) (l : List ℕ) : Type 0 where
  listed : matchings S A B ≡ l ∷ []
  matches : is_matching S A B l ≡ true
  read : judge_matching S A B (matching_sheet l) ≡ sound l
  whole : sum_of A.counts ≡ sum (count A) S.graph.nodes

only-pushed : Only base.m.T base.pushed base.book (2 ∷ 0 ∷ 1 ∷ 0 ∷ 1 ∷ [])
unfolding field bit tail_ok pack gather bits_of digits number total_width sum
only-pushed = record { listed = refl; matches = refl; read = refl; whole = refl }

only-raw : Only base.m.S base.run base.pulled (2 ∷ 0 ∷ 0 ∷ 1 ∷ 1 ∷ [])
unfolding field bit tail_ok pack gather bits_of digits number total_width sum
only-raw = record { listed = refl; matches = refl; read = refl; whole = refl }

-- a judged list, checked
abbrev checked : Judged (List ℕ) → Outcome (Unit {0})
checked j = do
  l ← at 6 j
  accepted tt

checked-sound : (j : Judged (List ℕ)) → checked j ≡ accepted tt → (l : List ℕ) × (j ≡ sound l)
checked-sound (faulty n) h = let z : ◌≡◌ {A = ℕ} 0 1 = cc in absurd (omega arith)
checked-sound (sound l) h = (l, refl)

module _ {S : Schema} {A B : Instance} {l : List ℕ} (only : Only S A B l) where
  only-list : (m : List ℕ) → length m ≡ sum (count A) S.graph.nodes → is_matching S A B m ≡ true ↔ m ≡ l
  only-list m e = (λ h. Memᴰ.eq_of_singleton (rw only.listed at (matchings-all S A B m e h)), λ h. ap (is_matching S A B) h ∙ only.matches)

  sheet-only : (k : List ℕ) → Bytes k → checked (judge_matching S A B k) ≡ accepted tt → k ≡ matching_sheet l
  sheet-only k b h =
      let (m, e) = checked-sound (judge_matching S A B k) h in
      let f = matching-facts S A B k e in
      matching-judged-sheet S A B k b e ∙ ap matching_sheet ((only-list m (f.whole ∙ only.whole)).0 f.is-matching)

  only-sheet : (k : List ℕ) → Bytes k → checked (judge_matching S A B k) ≡ accepted tt ↔ k ≡ matching_sheet l
  only-sheet k b = (sheet-only k b, λ h. ap (λ (k : List ℕ). checked (judge_matching S A B k)) h ∙ ap checked only.read)

pub only-matchings : OnlyMatchings
unfolding pack gather bits_of digits number total_width sum
only-matchings = record {
  read = base_read;
  pushed-list = only-list only-pushed;
  raw-list = only-list only-raw;
  pushed-sheet = λ k b. rw base_read (only-sheet only-pushed k b);
  raw-sheet = λ k b. rw base_read (only-sheet only-raw k b);
}
