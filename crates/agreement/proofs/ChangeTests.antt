-- Each change of a run is decided by its tests (specs/CallTests.antt), 16 for either tray being the last; and what both trays are left as.
use Prim.Native.Nat.{ℕ}
use mathlib.Core.Path.{◌≡◌, refl, sym, ap}
use mathlib.Core.Bool.{Bool, true, false, cond, not, ◌&&◌}
use mathlib.Core.List.{List, ◌++◌}
use lib.ListN.{length, take, drop}
use lib.Dec.{leb, ltb}
use borrow.Author.Tests.{leb-true}
use Rattle.meaning.specs.Category.{listed_category}
use Rattle.meaning.specs.Formats.{Instance}
use Rattle.meaning.specs.Views.{count}
use Rattle.meaning.specs.Evenness.{even}
use Rattle.meaning.specs.Calls.{Outcome, refused, accepted, ◌>>=◌, at, ensure_fits}
use Rattle.meaning.specs.Rows.{added, judge_row, is_held, withdrawn}
use Rattle.meaning.specs.Changes.{Run, judge_run, addition, withdrawal, Sheets, sheets_of, addition_sheets, withdrawal_sheets, Trays, both_written, in_trays, add_row, withdraw_row}
use Rattle.meaning.proofs.Tabulate.{and_both}
use Rattle.agreement.specs.Tests.{Refusal, Tests, done, test, then, Decides, holds}
use Rattle.agreement.specs.SheetTests.{row_sheet_tests}
use Rattle.agreement.specs.CallTests.{fits_tests, run_tests, addition_tests, withdrawal_tests, change_tests, trays_tests, Results}
use Rattle.agreement.proofs.Tests.{refused-not-accepted, accepted-same, decides-then, decides-ensure, decides-as, decides-giving}
use Rattle.agreement.proofs.Refusals.{instance-decided, row-decided}
use Rattle.agreement.proofs.Outcomes.{migration-decided, fits-decided, is-written}

-- ---- the run, then the change itself

run-decided : (s t f i : List ℕ) → Decides (run_tests s t f i) (judge_run s t f i)
run-decided s t f i =
    decides-then (migration-decided s t f) (λ m.
    decides-then (instance-decided 4 m.S i) (λ I.
    decides-giving (decides-ensure (even (listed_category m.S) (listed_category m.T) m.F) 12) (λ _. record { m = m; tables = I })))

-- an addition, after 18
pub row-fits-decided : (x : Run) (c : ℕ) (row : List ℕ)
    → Decides (then (row_sheet_tests 0 x.m.S x.tables c row) (λ R. fits_tests (added x.m.S x.tables R)))
    (at 0 (judge_row x.m.S x.tables c row) >>= λ R. ensure_fits (added x.m.S x.tables R))
row-fits-decided x c row = decides-then (row-decided 0 x.m.S x.tables c row) (λ R. fits-decided (added x.m.S x.tables R))

addition-decided : (x : Run) (c : ℕ) (row : List ℕ) → Decides (addition_tests x c row) (addition x.m.S x.tables c row)
addition-decided x c row = decides-then (decides-ensure (ltb c x.m.S.graph.nodes) 18) (λ _. row-fits-decided x c row)

withdrawal-decided : (x : Run) (c r : ℕ) → Decides (withdrawal_tests x c r) (withdrawal x.m.S x.tables c r)
withdrawal-decided x c r =
    decides-then (decides-ensure (ltb c x.m.S.graph.nodes && ltb r (count x.tables c)) 18) (λ _.
    decides-giving (decides-ensure (not (is_held x.m.S x.tables c r)) 19) (λ _. withdrawn x.m.S x.tables c r))

-- whatever the change
change-decided : {rs : List Refusal} {tests : Run → Tests Instance rs} {change : Run → Outcome Instance} (s t f i : List ℕ) → ((x : Run) → Decides (tests x) (change x))
    → Decides (change_tests s t f i tests) (judge_run s t f i >>= λ x. change x >>= λ J. accepted (sheets_of x J))
change-decided s t f i T = decides-then (run-decided s t f i) (λ x. decides-giving (T x) (sheets_of x))

-- ---- both sheets in their trays: 16 last

module _ (run pushed : List ℕ) where
  -- both have room
  abbrev roomy : Sheets → Bool
  roomy x = leb (length x.run) (length run) && leb (length x.pushed) (length pushed)

  -- what is written, by this test
  abbrev lent : Sheets → Bool → Trays
  lent x b =
      cond b
      (record { answer = accepted (length x.run, length x.pushed); run = x.run ++ drop (length x.run) run; pushed = x.pushed ++ drop (length x.pushed) pushed })
      (record { answer = refused 16 0; run = run; pushed = pushed })

  both-decided : (x : Sheets) → Decides (test (16, 0) (holds (roomy x)) (λ _. done (length x.run, length x.pushed))) (both_written run pushed x).answer
  both-decided x = go (roomy x)
    where
      go : (b : Bool) → Decides (test (16, 0) (holds b) (λ _. done (length x.run, length x.pushed))) (lent x b).answer
      go true = record { so = refl }
      go false = record { so = refl }

  answer-bind : (o : Outcome Sheets) → (in_trays run pushed o).answer ≡ (o >>= λ x. (both_written run pushed x).answer)
  answer-bind (refused n p) = refl
  answer-bind (accepted x) = refl

  trays-decided : {rs : List Refusal} {t : Tests Sheets rs} {o : Outcome Sheets} → Decides t o → Decides (trays_tests run pushed t) (in_trays run pushed o).answer
  trays-decided {o = o} T = decides-as (sym (answer-bind o)) (decides-then T both-decided)

-- both calls
pub add_row-answer : (s t f run : List ℕ) (n c : ℕ) (row pushed : List ℕ)
    → Decides (trays_tests run pushed (change_tests s t f (take n run) (λ x. addition_tests x c row))) (add_row s t f run n c row pushed).answer
add_row-answer s t f run n c row pushed = trays-decided run pushed (change-decided s t f (take n run) (λ x. addition-decided x c row))

pub withdraw_row-answer : (s t f run : List ℕ) (n c r : ℕ) (pushed : List ℕ)
    → Decides (trays_tests run pushed (change_tests s t f (take n run) (λ x. withdrawal_tests x c r))) (withdraw_row s t f run n c r pushed).answer
withdraw_row-answer s t f run n c r pushed = trays-decided run pushed (change-decided s t f (take n run) (λ x. withdrawal-decided x c r))

-- ---- the lent bytes

module _ (run pushed : List ℕ) where
  -- a refused change leaves every byte of both trays
  pub refused-trays : (o : Outcome Sheets) {n place : ℕ} → (in_trays run pushed o).answer ≡ refused n place → ((in_trays run pushed o).run ≡ run) × ((in_trays run pushed o).pushed ≡ pushed)
  refused-trays (refused m q) e = (refl, refl)
  refused-trays (accepted x) {n} {place} e = go (roomy run pushed x) e
    where
      go : (b : Bool) → (lent run pushed x b).answer ≡ refused n place → ((lent run pushed x b).run ≡ run) × ((lent run pushed x b).pushed ≡ pushed)
      go true e = absurd (refused-not-accepted (sym e))
      go false e = (refl, refl)

  -- an accepted one has written both sheets
  pub accepted-trays : (o : Outcome Sheets) {n k : ℕ} → (in_trays run pushed o).answer ≡ accepted (n, k) → Results run pushed o n k
  accepted-trays (refused m q) e = absurd (refused-not-accepted e)
  accepted-trays (accepted x) {n} {k} e = go (roomy run pushed x) refl e
    where
      go : (b : Bool) → roomy run pushed x ≡ b → (lent run pushed x b).answer ≡ accepted (n, k) → Results run pushed (accepted x) n k
      go true d e =
          let l = accepted-same e in
          let r = and_both (leb (length x.run) (length run)) (leb (length x.pushed) (length pushed)) d in
          let w : in_trays run pushed (accepted x) ≡ lent run pushed x true = ap (lent run pushed x) d in
          record {
            sheets = x;
            result = refl;
            run_size = ap (λ (p : ℕ × ℕ). p.0) l;
            pushed_size = ap (λ (p : ℕ × ℕ). p.1) l;
            run_written = rw w (is-written run x.run (leb-true (length x.run) (length run) r.0));
            pushed_written = rw w (is-written pushed x.pushed (leb-true (length x.pushed) (length pushed) r.1));
          }
      go false d e = absurd (refused-not-accepted e)

-- of the pushed tray nothing but its length is read
pushed-unread : (run p q : List ℕ) (o : Outcome Sheets) → length p ≡ length q → ((in_trays run p o).answer ≡ (in_trays run q o).answer) × ((in_trays run p o).run ≡ (in_trays run q o).run)
pushed-unread run p q (refused n place) e = (refl, refl)
pushed-unread run p q (accepted x) e = rw e (go (roomy run q x))
  where
    go : (b : Bool) → ((lent run p x b).answer ≡ (lent run q x b).answer) × ((lent run p x b).run ≡ (lent run q x b).run)
    go true = (refl, refl)
    go false = (refl, refl)

pub add_row_unread : (s t f run : List ℕ) (n c : ℕ) (row p q : List ℕ) → length p ≡ length q
    → ((add_row s t f run n c row p).answer ≡ (add_row s t f run n c row q).answer) × ((add_row s t f run n c row p).run ≡ (add_row s t f run n c row q).run)
add_row_unread s t f run n c row p q = pushed-unread run p q (addition_sheets s t f (take n run) c row)

pub withdraw_row_unread : (s t f run : List ℕ) (n c r : ℕ) (p q : List ℕ) → length p ≡ length q
    → ((withdraw_row s t f run n c r p).answer ≡ (withdraw_row s t f run n c r q).answer) × ((withdraw_row s t f run n c r p).run ≡ (withdraw_row s t f run n c r q).run)
withdraw_row_unread s t f run n c r p q = pushed-unread run p q (withdrawal_sheets s t f (take n run) c r)
