-- Demand 3 holds, and its provisos hold exactly when the tests before the matching sheet are passed.
use Prim.Native.Nat.{ℕ, ◌+◌, ◌<◌, ◌≤◌}
use mathlib.Core.Path.{◌≡◌, refl, sym, ap, ◌∙◌}
use mathlib.Core.List.{List}
use mathlib.Core.Logic.{◌↔◌}
use native.Mathlib.Omega.{arith}
use lib.ListN.{get_or}
use Rattle.bits.specs.Field.{field, bit, tail_ok}
use Rattle.theory.specs.Numbering.{sum}
use Rattle.theory.specs.Instance as theory
use Rattle.theory.specs.Mapping as theory_mapping
use Rattle.theory.specs.Sigma.{place, IsSigma}
use Rattle.theory.specs.Matching.{IsMatching}
use Rattle.theory.specs.Transposition.{to_raw, to_pushed, Corresponds}
use Rattle.theory.proofs.Numbering.{sum-ext, sum_mono}
use Rattle.theory.proofs.Instance.{alike_refl, alike-sym}
use Rattle.theory.proofs.Sigma.{sigma-is, sigma_one, sigma-place}
use Rattle.theory.proofs.Matching.{matching-alike}
use Rattle.theory.proofs.Transposition.{corresponds}
use Rattle.meaning.specs.Lists.{sum_of}
use Rattle.meaning.specs.Schema.{Schema}
use Rattle.meaning.specs.Category.{listed_category}
use Rattle.meaning.specs.Sheet.{sound}
use Rattle.meaning.specs.Formats.{Mapping, Instance, max_rows, kinds}
use Rattle.meaning.specs.Views.{schema_of, mapping_of, count, instance_of}
use Rattle.meaning.specs.Judge.{judge_instance}
use Rattle.meaning.specs.Delta.{delta}
use Rattle.meaning.specs.Sigma.{sigma}
use Rattle.meaning.specs.Matching.{judge_matching}
use Rattle.meaning.specs.Calls.{Outcome, refused, accepted, ◌>>=◌, Sides, sides, judge_pushed, judge_raw, check_pushed, check_raw, pushed_to_raw, raw_to_pushed, in_tray}
use Rattle.meaning.proofs.Examples.{vendor, operator, vendor_to_operator, run, book}
use Rattle.agreement.specs.Demand3.{Accepts, Refuses, RefusesTray, meaning_answers, Provided, pushed_side, raw_side, Clauses, AllRefuse}
use Rattle.agreement.specs.Valid.{InRange, ValidMapping, ValidInstance}
use Rattle.agreement.specs.Agrees.{Inputs}
use Rattle.agreement.proofs.Tables.{rows-sum, matching-below}
use Rattle.agreement.proofs.Accepted.{at-accepted, SidesSound, sides-accepted, sides-accepts}
use Rattle.agreement.proofs.Valid.{mapping-valid, instance-valid}
use Rattle.agreement.proofs.Evenness.{even-iff}
use Rattle.agreement.proofs.Delta.{delta-alike, delta-rows}
use Rattle.agreement.proofs.Sigma.{sigma-is-sigma, sigma-valid}
use Rattle.agreement.proofs.Agrees.{inputs}
use Rattle.agreement.proofs.Matchings.{matching-sheet-judged, matching-judged-sheet}
use Rattle.agreement.proofs.Turning.{Matches, Reads, checks, Turned, turned_by, takes, turns, turns-back, comes, Numbers, meets-same}

module _ {s t f i j : List ℕ} (x : Provided s t f i j) where
  abbrev S : Schema
  S = x.S

  abbrev T : Schema
  T = x.T

  abbrev F : theory_mapping.Mapping
  F = mapping_of x.S x.T x.F

  abbrev Run : theory.Instance ℕ
  Run = instance_of x.run

  abbrev Book : theory.Instance ℕ
  Book = instance_of x.book

  -- both migrated tables, as the calls make them
  abbrev pushed : Instance
  pushed = sigma (listed_category x.S) (listed_category x.T) x.F x.run

  abbrev pulled : Instance
  pulled = delta x.S x.F x.book

  F-valid : ValidMapping (listed_category x.S) (listed_category x.T) x.F
  F-valid = mapping-valid s t f x.s_accepted x.t_accepted x.f_accepted

  F-is : theory_mapping.IsMapping F
  F-is = F-valid.is

  run-valid : ValidInstance x.S x.run
  run-valid = instance-valid S i x.run_accepted

  book-valid : ValidInstance x.T x.book
  book-valid = instance-valid T j x.book_accepted

  pushed-valid : ValidInstance x.T pushed
  pushed-valid = sigma-valid F-valid x.f_even run-valid

  pulled-few : sum_of pulled.counts ≤ max_rows
  pulled-few = rw (delta-rows F-valid x.book book-valid.shaped) at x.pulled_accepted

  is_sigma : IsSigma F Run (instance_of pushed)
  is_sigma = sigma-is-sigma F-valid x.f_even run-valid

  -- ---- all tests before the matching sheet are passed

  abbrev tables : Sides
  tables = record { m = record { S = x.S; T = x.T; F = x.F }; run = x.run; book = x.book; pushed = pushed; pulled = pulled }

  tables_sound : SidesSound s t f i j tables
  tables_sound = record {
    migration_sound = record { s_sound = x.s_accepted; t_sound = x.t_accepted; f_sound = x.f_accepted };
    run_sound = x.run_accepted;
    book_sound = x.book_accepted;
    is-even = (even-iff F-valid).1 x.f_even;
    pushed_is = refl;
    pulled_is = refl;
    pushed_fits = pushed-valid.few_rows;
    pulled_fits = pulled-few;
  }

  after-sides : {A : Type 0} (next : Sides → Outcome A) → (sides s t f i j >>= next) ≡ next tables
  after-sides next = ap (λ (o : Outcome Sides). o >>= next) (sides-accepts s t f i j tables_sound)

  -- ---- the lists of each side, read

  pushed-alike : theory.Alike (schema_of T) (instance_of pushed) x.pushed
  pushed-alike = sigma_one F-is x.f_even is_sigma x.pushed_is

  pulled-alike : theory.Alike (schema_of S) (instance_of pulled) (theory_mapping.delta F Book)
  pulled-alike = delta-alike F-valid x.book

  -- the tables that the calls make have the theory's matchings
  pushed-matches : (l : List ℕ) → IsMatching (schema_of T) (instance_of pushed) Book l ↔ Matches (pushed_side x) l
  pushed-matches l = (
    matching-alike F-is.t_is (sigma-is F-is x.f_even run-valid.is is_sigma) pushed-alike (alike_refl (schema_of T) Book) l,
    matching-alike F-is.t_is (sigma-is F-is x.f_even run-valid.is x.pushed_is) (alike-sym F-is.t_is pushed-alike) (alike_refl (schema_of T) Book) l,
  )

  raw-matches : (l : List ℕ) → IsMatching (schema_of S) Run (instance_of pulled) l ↔ Matches (raw_side x) l
  raw-matches l = (
    matching-alike F-is.s_is run-valid.is (alike_refl (schema_of S) Run) pulled-alike l,
    matching-alike F-is.s_is run-valid.is (alike_refl (schema_of S) Run) (alike-sym F-is.s_is pulled-alike) l,
  )

  pushed-reads : Reads (pushed_side x) (judge_pushed tables)
  pushed-reads = record {
    reads = λ l m. rw (matching-sheet-judged T pushed x.book pushed-valid.shaped book-valid.few_rows l ((pushed-matches l).1 m));
    read_is = λ k l b e.
        let m = matching-judged-sheet T pushed x.book pushed-valid.shaped book-valid.few_rows k b (at-accepted 6 (judge_matching T pushed x.book k) e) in
        ((pushed-matches l).0 m.0, m.1);
  }

  raw-reads : Reads (raw_side x) (judge_raw tables)
  raw-reads = record {
    reads = λ l m. rw (matching-sheet-judged S x.run pulled run-valid.shaped pulled-few l ((raw-matches l).1 m));
    read_is = λ k l b e.
        let m = matching-judged-sheet S x.run pulled run-valid.shaped pulled-few k b (at-accepted 6 (judge_matching S x.run pulled k) e) in
        ((raw-matches l).0 m.0, m.1);
  }

  -- ---- the turnings

  transposed : Corresponds F Run (instance_of pushed) Book
  transposed = corresponds (InRange kinds) F F-is x.f_even Run (instance_of pushed) Book run-valid.is is_sigma book-valid.is

  abbrev turned_raw : List ℕ → List ℕ
  turned_raw = to_raw F Run (instance_of pushed)

  abbrev turned_pushed : List ℕ → List ℕ
  turned_pushed = to_pushed F Run (instance_of pushed)

  to-raw : Turned (pushed_side x) (raw_side x) (pushed_to_raw s t f i j) turned_raw
  to-raw = turned_by pushed-reads (λ k. after-sides _) (λ l m. let n = (pushed-matches l).1 m in (transposed.to_raw_matches l n.whole).0 n)

  to-pushed : Turned (raw_side x) (pushed_side x) (raw_to_pushed s t f i j) turned_pushed
  to-pushed = turned_by raw-reads (λ k. after-sides _) (λ l m. (pushed-matches (turned_pushed l)).0 ((transposed.to_pushed_matches l m.whole).0 m))

  raw-again : (l : List ℕ) → Matches (pushed_side x) l → turned_pushed (turned_raw l) ≡ l
  raw-again l m = transposed.to_raw_back l ((pushed-matches l).1 m).whole

  pushed-again : (l : List ℕ) → Matches (raw_side x) l → turned_raw (turned_pushed l) ≡ l
  pushed-again l m = transposed.to_pushed_back l m.whole

  -- ---- the numbers of raw rows

  -- the theory's tables and the calls' begin at the same row
  first-same : (d : ℕ) → d < T.graph.nodes → sum x.pushed.count d ≡ sum (count pushed) d
  first-same d h = sym (sum-ext (count pushed) x.pushed.count d (λ c l. pushed-alike.count c (omega arith)))

  pushed-numbers : Numbers (schema_of S) Run (pushed_side x)
  pushed-numbers = record {
    position_in = λ c h y r. sum_mono x.pushed.count T.graph.nodes (F.node c) (place F Run c y) (F-is.node_in c h) (sigma-place F-is x.pushed_is c y h r);
    below = λ l m. matching-below T pushed x.book l book-valid.few_rows ((pushed-matches l).1 m);
  }

  raw-numbers : Numbers (schema_of S) Run (raw_side x)
  raw-numbers = record {
    position_in = λ c h y r. sum_mono Run.count S.graph.nodes c y h r;
    below = λ l m. matching-below S x.run pulled l pulled-few ((raw-matches l).1 m);
  }

  pub demand3 : Clauses x (meaning_answers s t f i j)
  demand3 = record {
    pushed_checked = checks pushed-reads (check_pushed s t f i j) (λ k. after-sides _);
    raw_checked = checks raw-reads (check_raw s t f i j) (λ k. after-sides _);
    pushed_taken = takes to-raw;
    raw_taken = takes to-pushed;
    pushed_turned = turns to-raw;
    raw_turned = turns to-pushed;
    raw_comes = comes to-raw to-pushed raw-again pushed-again;
    pushed_comes = comes to-pushed to-raw pushed-again raw-again;
    pushed_back = turns-back to-raw to-pushed raw-again;
    raw_back = turns-back to-pushed to-raw pushed-again;
    pushed_meets = meets-same to-raw pushed-numbers raw-numbers (λ l m c h y r.
        transposed.to_raw_meets l c h y r ∙ ap (λ (n : ℕ). get_or l (n + place F Run c y) 0) (sym (first-same (F.node c) (F-is.node_in c h))));
    raw_meets = meets-same to-pushed raw-numbers pushed-numbers (λ l m c h y r.
        ap (λ (n : ℕ). get_or (turned_pushed l) (n + place F Run c y) 0) (first-same (F.node c) (F-is.node_in c h)) ∙ transposed.to_pushed_meets l c h y r);
  }

-- ---- the provisos hold exactly when the tests before the matching sheet are passed

-- accepted sheets, an even mapping and a book whose Delta fits meet them, with Sigma of the run
module _ {s t f i : List ℕ} {S T : Schema} {F : Mapping} {I : Instance} (x : Inputs s t f i S T S F I) (E : theory_mapping.Even (mapping_of S T F)) where
  abbrev pub provided : (j : List ℕ) {J : Instance} → judge_instance T j ≡ sound J → theory.rows (schema_of S) (theory_mapping.delta (mapping_of S T F) (instance_of J)) ≤ max_rows → Provided s t f i j
  provided j {J} book fits =
      let v = mapping-valid s t f x.s_accepted x.t_accepted x.f_accepted in
      let w = instance-valid S i x.i_accepted in
      let P = sigma (listed_category S) (listed_category T) F I in
      let p = sigma-valid v E w in
      record {
        S = S;
        T = T;
        F = F;
        run = I;
        book = J;
        pushed = instance_of P;
        s_accepted = x.s_accepted;
        t_accepted = x.t_accepted;
        f_accepted = x.f_accepted;
        f_even = E;
        run_accepted = x.i_accepted;
        book_accepted = book;
        pushed_is = sigma-is-sigma v E w;
        pushed_accepted = rw (rows-sum T P p.shaped.tables) p.few_rows;
        pulled_accepted = fits;
      }

module _ (s t f i j : List ℕ) where
  accepted-provided : Accepts (sides s t f i j) → Provided s t f i j
  accepted-provided (y, e) =
      let h = sides-accepted s t f i j e in
      let m = h.migration_sound in
      let v = mapping-valid s t f m.s_sound m.t_sound m.f_sound in
      let w = instance-valid y.m.T j h.book_sound in
      provided (inputs m h.run_sound) ((even-iff v).0 h.is-even) j h.book_sound (rw (delta-rows v y.book w.shaped) (rw h.pulled_is at h.pulled_fits))

  pub provided-iff : Provided s t f i j ↔ Accepts (sides s t f i j)
  provided-iff = (λ x. (tables x, sides-accepts s t f i j (tables_sound x)), accepted-provided)

  -- where they do not hold, all four calls refuse, whatever list is lent
  module _ (unprovided : Provided s t f i j → ⊥) where
    sides-refused : Refuses (sides s t f i j)
    sides-refused = go (sides s t f i j) refl
      where
        go : (o : Outcome Sides) → sides s t f i j ≡ o → Refuses o
        go (refused n p) e = (n, p, refl)
        go (accepted y) e = absurd (unprovided (accepted-provided (y, e)))

    refused-then : {A : Type 0} (next : Sides → Outcome A) → Refuses (sides s t f i j >>= next)
    refused-then next = let r = sides-refused in (r.0, r.1, ap (λ (o : Outcome Sides). o >>= next) r.2)

    refused-tray : (tray : List ℕ) {o : Outcome (List ℕ)} → Refuses o → RefusesTray tray (in_tray tray o)
    refused-tray tray r = record { refuses = (r.0, r.1, ap (λ (o : Outcome (List ℕ)). (in_tray tray o).answer) r.2); unchanged = ap (λ (o : Outcome (List ℕ)). (in_tray tray o).tray) r.2 }

    pub unprovided-refused : AllRefuse (meaning_answers s t f i j)
    unprovided-refused = record {
      pushed_refused = λ k. refused-then _;
      raw_refused = λ k. refused-then _;
      to_raw_refused = λ tray k. refused-tray tray (refused-then _);
      to_pushed_refused = λ tray k. refused-tray tray (refused-then _);
    }

-- the sheets of case 3 of document 01 meet the provisos
pub case3-provided : Provided vendor operator vendor_to_operator run book
unfolding field bit tail_ok
case3-provided = accepted-provided vendor operator vendor_to_operator run book (_, refl)
