-- The changes of a run: which refusal of the change itself is given when, and that an accepted change leaves an accepted run, its Sigma and demand 3 of both.
use Prim.Native.Nat.{ℕ, ◌<◌}
use mathlib.Core.Path.{◌≡◌, refl, sym, ap, ◌∙◌, subst}
use mathlib.Core.Bool.{Bool, true, false, not, ◌&&◌}
use mathlib.Core.List.{List, [], ◌∷◌, ◌++◌}
use mathlib.Core.Logic.Iff
use mathlib.Core.Logic.{◌↔◌}
use native.Mathlib.Omega.{arith}
use lib.Dec.{leb, ltb, eqb}
use borrow.Author.Tests.{leb-true, leb-false, le-leb, lt-leb, ltb-true, lt-ltb, not-true}
use Rattle.theory.specs.Instance as theory_instance
use Rattle.theory.specs.Mapping.{Even}
use Rattle.meaning.specs.Lists.{sum_of}
use Rattle.meaning.specs.Schema.{Schema}
use Rattle.meaning.specs.Category.{listed_category}
use Rattle.meaning.specs.Sheet.{sound, on_sheet}
use Rattle.meaning.specs.Formats.{Mapping, Instance, max_rows, kinds, instance_sheet}
use Rattle.meaning.specs.Views.{schema_of, mapping_of, count, instance_of}
use Rattle.meaning.specs.Judge as judge
use Rattle.meaning.specs.Judge.{links_in_range, values_in_range, obeys_equations}
use Rattle.meaning.specs.Evenness.{even}
use Rattle.meaning.specs.Sigma.{sigma}
use Rattle.meaning.specs.Calls.{Outcome, refused, accepted, ◌>>=◌, at, ensure, ensure_fits, sigma_tables}
use Rattle.meaning.specs.Rows.{read_row, added, row_links_in_range, row_obeys_equations, judge_row, withdrawn, is_held}
use Rattle.meaning.specs.Changes.{Run, judge_run, addition, withdrawal, Sheets, sheets_of, addition_sheets, withdrawal_sheets}
use Rattle.meaning.proofs.Lists.{no_bool, and_intro, test-false, all_of}
use Rattle.meaning.proofs.Tabulate.{and_both}
use Rattle.meaning.proofs.Readers.{bind-sound}
use Rattle.meaning.proofs.Facts.{schema-facts}
use Rattle.agreement.specs.Paths.{WellFormed}
use Rattle.agreement.specs.Tests.{Refusal}
use Rattle.agreement.specs.SheetTests.{placed, row_sheet_numbers}
use Rattle.agreement.specs.Valid.{ValidMapping, ValidInstance, LinksIn, ValuesIn, ObeysEquations}
use Rattle.agreement.specs.Agrees.{Lendable, Inputs}
use Rattle.agreement.specs.Changes.{RunAnswers, Adds, AdditionAnswers, Withdraws, Held, Absent, WithdrawalAnswers, ChangeAgrees}
use Rattle.agreement.proofs.Tests.{refused-in, refused-not-accepted, accepted-same, own-refusal, conditions, AllPass, conditions-iff, conditions-refused, conditions-first}
use Rattle.agreement.proofs.ChangeTests.{row-fits-decided}
use Rattle.agreement.proofs.Instances.{links-iff, values-iff, equations-iff, instance-iff}
use Rattle.agreement.proofs.Tables.{rows-sum}
use Rattle.agreement.proofs.Categories.{schema-well-formed}
use Rattle.agreement.proofs.Accepted.{bind-accepted, sheet-accepted, ensure-accepted, sigma_result, sigma-accepts, RunSound, run_accepted}
use Rattle.agreement.proofs.Valid.{mapping-valid, instance-valid, valid-lent-again}
use Rattle.agreement.proofs.Evenness.{even-iff}
use Rattle.agreement.proofs.Sigma.{sigma-valid}
use Rattle.agreement.proofs.AcceptedSheets.{true-iff, false-iff, outcome-by}
use Rattle.agreement.proofs.Rows.{row_read, row-tests-decide, adds-table}
use Rattle.agreement.proofs.Withdrawals.{held-iff, withdraws-table, withdrawn-valid}
use Rattle.agreement.proofs.Agrees.{lendable, inputs}
use Rattle.agreement.proofs.Demand3.{provided, demand3}

-- ---- an accepted run: a well-formed schema, a valid and even mapping, valid tables

module _ {s t f i : List ℕ} {x : Run} (h : RunSound s t f i x) where
  pub run-formed : WellFormed x.m.S
  run-formed = schema-well-formed (schema-facts s h.migration_sound.s_sound)

  pub run-mapped : ValidMapping (listed_category x.m.S) (listed_category x.m.T) x.m.F
  run-mapped = let m = h.migration_sound in mapping-valid s t f m.s_sound m.t_sound m.f_sound

  pub run-even : Even (mapping_of x.m.S x.m.T x.m.F)
  run-even = (even-iff run-mapped).0 h.is-even

  pub run-valid : ValidInstance x.m.S x.tables
  run-valid = instance-valid x.m.S i h.tables_sound

  -- valid tables in place of the run's
  module _ {J : Instance} (v : ValidInstance x.m.S J) where
    -- the pushed tables are valid, and never overfull
    pub pushed-valid : ValidInstance x.m.T (sigma (listed_category x.m.S) (listed_category x.m.T) x.m.F J)
    pushed-valid = sigma-valid run-mapped run-even v

    -- Sigma's call, lent their sheet, gives the tables whose sheet a change would write
    pub pushed_by_call : sigma_tables s t f (instance_sheet J) ≡ accepted (sigma_result x.m J)
    pushed_by_call = sigma-accepts s t f (instance_sheet J) (record {
      migration_sound = h.migration_sound;
      i_sound = valid-lent-again v;
      is-even = h.is-even;
      fits = pushed-valid.few_rows;
    })

    -- a change that leaves them agrees
    abbrev change_agrees : ChangeAgrees s t f i (sheets_of x J)
    change_agrees = record {
      S = x.m.S;
      T = x.m.T;
      F = x.m.F;
      before = x.tables;
      after = J;
      inputs = inputs h.migration_sound h.tables_sound;
      is-even = run-even;
      run_sheet = refl;
      lendable = lendable run-mapped.is.s_is v;
      pushed = sigma (listed_category x.m.S) (listed_category x.m.T) x.m.F J;
      pushed_by_call = pushed_by_call;
      pushed-sheet = refl;
      compared = λ j k fits.
          let p = provided (inputs h.migration_sound (valid-lent-again v)) run-even j k (omega arith) in
          (p, refl, refl, demand3 p);
    }

-- ---- on accepted sheets 12, or a run

module _ (s t f i : List ℕ) {S T : Schema} {F : Mapping} {I : Instance} (x : Inputs s t f i S T S F I) where
  abbrev evenly : Bool
  evenly = even (listed_category S) (listed_category T) F

  abbrev unchanged : Run
  unchanged = record { m = record { S = S; T = T; F = F }; tables = I }

  pub run_answers : RunAnswers s t f i S T F I
  run_answers =
      let evens = even-iff (mapping-valid s t f x.s_accepted x.t_accepted x.f_accepted) in
      let yields : judge_run s t f i ≡ conditions ((evenly, 12) ∷ []) unchanged = rw (x.s_accepted, x.t_accepted, x.f_accepted, x.i_accepted) in
      record {
        uneven = outcome-by yields (own-refusal evenly 12 (accepted unchanged) (λ _ e. refused-not-accepted (sym e)) (false-iff evenly evens));
        result = λ y. outcome-by yields (Iff.trans (conditions-iff unchanged ((evenly, 12) ∷ []) y) (λ h. (evens.0 h.1.0, h.0), λ h. (h.1, (evens.1 h.0, tt))));
      }

-- ---- an addition: 18, then 9, 10, 11, 15

-- no test after 18 has its number
pub table_absent : (x : Run) (c : ℕ) (row : List ℕ) → (addition x.m.S x.tables c row ≡ refused 18 0) ↔ (c < x.m.S.graph.nodes → ⊥)
table_absent x c row =
    let n = x.m.S.graph.nodes in
    own-refusal (ltb c n) 18 (at 0 (judge_row x.m.S x.tables c row) >>= λ R. ensure_fits (added x.m.S x.tables R))
    (λ _ e. no_bool (sym (all_of (λ (r : Refusal). not (eqb r.0 18)) (placed 0 row_sheet_numbers ++ (15, 0) ∷ []) refl (refused-in (row-fits-decided x c row) (18, 0) e))))
    (false-iff (ltb c n) (ltb-true c n, lt-ltb c n))

-- judged at place 0, then used; by tests that find the same
judged-next : {A B : Type 0} (a b c : Bool) {d e f : Bool} → d ≡ a → e ≡ b → f ≡ c → (r : A) (k : A → Outcome B)
    → (at 0 (judge.◌>>=◌ (judge.ensure a 9) (λ _. judge.◌>>=◌ (judge.ensure b 10) (λ _. judge.◌>>=◌ (judge.ensure c 11) (λ _. sound r)))) >>= k)
    ≡ (ensure d 9 >>= λ _. ensure e 10 >>= λ _. ensure f 11 >>= λ _. k r)
judged-next false b c p q s r k = rw p
judged-next true false c p q s r k = rw (p, q)
judged-next true true false p q s r k = rw (p, q, s)
judged-next true true true p q s r k = rw (p, q, s)

module _ (s t f i : List ℕ) {x : Run} (run : judge_run s t f i ≡ accepted x) (c : ℕ) (table : c < x.m.S.graph.nodes) (row : List ℕ) {R : Instance} (read : on_sheet (read_row x.m.S c) row ≡ sound R) where
  abbrev S : Schema
  S = x.m.S

  abbrev J : Instance
  J = added S x.tables R

  -- the changed tables are the run's with the row
  more : Adds S x.tables c R J
  more = let h = run_accepted s t f i run in adds-table (run-formed h) (run-valid h) table (row_read S c table row read)

  -- the tests after 11, after 10, after 9, and all
  abbrev after11 : List (Bool × ℕ)
  after11 = (leb (sum_of J.counts) max_rows, 15) ∷ []

  abbrev after10 : List (Bool × ℕ)
  after10 = (obeys_equations S J, 11) ∷ after11

  abbrev after9 : List (Bool × ℕ)
  after9 = (values_in_range kinds S J, 10) ∷ after10

  abbrev tests : List (Bool × ℕ)
  tests = (links_in_range S J, 9) ∷ after9

  -- what is left after the run, 18 and the row's 1 and 2
  addition-yields : addition x.m.S x.tables c row ≡ conditions tests J
  addition-yields =
      let h = run_accepted s t f i run in
      let d = row-tests-decide (run-formed h) (run-valid h) table (row_read S c table row read) in
      rw (lt-ltb c S.graph.nodes table, read)
      (judged-next (row_links_in_range S x.tables R) (values_in_range kinds S R) (row_obeys_equations S x.tables c R) d.test_9 d.test_10 d.test_11 R (λ R. ensure_fits (added S x.tables R)))

  -- what each of them decides
  links : (links_in_range S J ≡ true) ↔ LinksIn (schema_of S) (instance_of J)
  links = links-iff kinds S J more.shaped

  values : (values_in_range kinds S J ≡ true) ↔ ValuesIn kinds (schema_of S) (instance_of J)
  values = values-iff kinds S J more.shaped

  equations : (obeys_equations S J ≡ true) ↔ ObeysEquations (schema_of S) (instance_of J)
  equations = equations-iff kinds S J more.shaped

  overfull-iff : (leb (sum_of J.counts) max_rows ≡ false) ↔ (max_rows < theory_instance.rows (schema_of S) (instance_of J))
  overfull-iff =
      let n = sum_of J.counts in
      let e = rows-sum S J more.shaped.tables in
      (λ h. rw e (leb-false n max_rows h), λ h. lt-leb n max_rows (rw e at h))

  -- all pass exactly where the changed tables are an accepted instance
  passing-iff : AllPass tests ↔ ValidInstance S J
  passing-iff =
      let is = instance-iff kinds S J more.shaped in (
        λ p. record { shaped = more.shaped; is = is.0 (p.0, p.1.0, p.1.1.0); few_rows = leb-true (sum_of J.counts) max_rows p.1.1.1.0 },
        λ v. let k = is.1 v.is in (k.0, (k.1, (k.2, (le-leb (sum_of J.counts) max_rows v.few_rows, tt)))),
      )

  -- which refusal, or a result, an addition yields then
  pub addition_answers : AdditionAnswers x c row (added x.m.S x.tables R)
  addition_answers =
      let is = instance-iff kinds S J more.shaped in
      let no-links = false-iff (links_in_range S J) links in
      let no-values = false-iff (values_in_range kinds S J) values in
      let no-equations = false-iff (obeys_equations S J) equations in
      let refused-one = conditions-refused J tests in
      record {
        dangling = outcome-by addition-yields (Iff.trans (conditions-first J [] _ 9 after9 refl) (λ h. no-links.0 h.1, λ h. (tt, no-links.1 h)));
        off_scale = outcome-by addition-yields (Iff.trans (conditions-first J (_ ∷ []) _ 10 after10 refl) (
          λ h. (links.0 h.0.0, no-values.0 h.1),
          λ h. ((links.1 h.0, tt), no-values.1 h.1),
        ));
        bent = outcome-by addition-yields (Iff.trans (conditions-first J (_ ∷ _ ∷ []) _ 11 after11 refl) (
          λ h. (links.0 h.0.0, values.0 h.0.1.0, no-equations.0 h.1),
          λ h. ((links.1 h.0, (values.1 h.1, tt)), no-equations.1 h.2),
        ));
        overfull = outcome-by addition-yields (Iff.trans (conditions-first J (_ ∷ _ ∷ _ ∷ []) _ 15 [] refl) (
          λ h. (is.0 (h.0.0, h.0.1.0, h.0.1.1.0), overfull-iff.0 h.1),
          λ h. let k = is.1 h.0 in ((k.0, (k.1, (k.2, tt))), overfull-iff.1 h.1),
        ));
        refusal = (
          λ r v. refused-one.0 (r.0, r.1, sym addition-yields ∙ r.2) (passing-iff.1 v),
          λ none. let r = refused-one.1 (λ p. none (passing-iff.0 p)) in (r.0, r.1, addition-yields ∙ r.2),
        );
        result = λ K. outcome-by addition-yields (Iff.trans (conditions-iff J tests K) (
          λ h. (h.0, subst (Lendable S) (sym h.0) (lendable (run-mapped (run_accepted s t f i run)).is.s_is (passing-iff.0 h.1))),
          λ h. (h.0, passing-iff.1 (subst (Lendable S) h.0 h.1).valid),
        ));
      }

-- ---- a withdrawal: 18, 19

-- two tests of numbers, of which one fails
one-fails : (a b c d : ℕ) → ((ltb a b && ltb c d) ≡ false) ↔ (a < b → c < d → ⊥)
one-fails a b c d = (
  λ e h k. no_bool (sym (and_intro (lt-ltb a b h) (lt-ltb c d k)) ∙ e),
  λ n. test-false (ltb a b && ltb c d) (λ e. let t = and_both (ltb a b) (ltb c d) e in n (ltb-true a b t.0) (ltb-true c d t.1)),
)

-- a test that is true exactly where A holds, turned round
not_iff : {A : Type 0} (b : Bool) → (b ≡ true) ↔ A → (not b ≡ false) ↔ A
not_iff true h = (λ e. h.0 refl, λ a. refl)
not_iff false h = (λ e. absurd (no_bool e), λ a. absurd (no_bool (sym (h.1 a))))

module _ (s t f i : List ℕ) {x : Run} (run : judge_run s t f i ≡ accepted x) (c r : ℕ) where
  abbrev present : Bool
  present = ltb c x.m.S.graph.nodes && ltb r (count x.tables c)

  abbrev free : Bool
  free = not (is_held x.m.S x.tables c r)

  abbrev left : Instance
  left = withdrawn x.m.S x.tables c r

  -- which refusal, or a result, a withdrawal yields
  pub withdrawal_answers : WithdrawalAnswers x c r
  withdrawal_answers =
      let gone : (present ≡ false) ↔ Absent x c r = one-fails c x.m.S.graph.nodes r (count x.tables c) in
      let there = true-iff present gone in
      let taken = not_iff (is_held x.m.S x.tables c r) (held-iff (run-valid (run_accepted s t f i run)) c r) in
      let unheld = true-iff free taken in
      record {
        absent = Iff.trans (conditions-first left [] present 18 ((free, 19) ∷ []) refl) (λ h. gone.0 h.1, λ h. (tt, gone.1 h));
        held = Iff.trans (conditions-first left ((present, 18) ∷ []) free 19 [] refl) (λ h. (there.0 h.0.0, taken.0 h.1), λ h. ((there.1 h.0, tt), taken.1 h.1));
        result = λ J. Iff.trans (conditions-iff left ((present, 18) ∷ (free, 19) ∷ []) J) (
          λ h. (there.0 h.1.0, unheld.0 h.1.1.0, h.0),
          λ h. (h.2, (there.1 h.0, (unheld.1 h.1, tt))),
        );
      }

-- ---- accepted changes

-- what an accepted addition has passed
pub record AdditionSound (s t f i : List ℕ) (c : ℕ) (row : List ℕ) (x : Run) (R : Instance) : Type 0 where
  pub run_accepted : judge_run s t f i ≡ accepted x
  pub table_in : c < x.m.S.graph.nodes
  pub row_read : on_sheet (read_row x.m.S c) row ≡ sound R
  pub lendable : Lendable x.m.S (added x.m.S x.tables R)

-- and an accepted withdrawal
pub record WithdrawalSound (s t f i : List ℕ) (c r : ℕ) (x : Run) : Type 0 where
  pub run_accepted : judge_run s t f i ≡ accepted x
  pub table_in : c < x.m.S.graph.nodes
  pub row_in : r < count x.tables c
  pub free : is_held x.m.S x.tables c r ≡ false

module _ (s t f i : List ℕ) where
  pub addition-accepted : (c : ℕ) (row : List ℕ) {w : Sheets} → addition_sheets s t f i c row ≡ accepted w
      → (x : Run) × (R : Instance) × AdditionSound s t f i c row x R × (w ≡ sheets_of x (added x.m.S x.tables R))
  addition-accepted c row e =
      let a = bind-accepted (judge_run s t f i) _ e in
      let x = a.0 in
      let b = bind-accepted (addition x.m.S x.tables c row) _ a.2 in
      let k = ensure-accepted (ltb c x.m.S.graph.nodes) 18 _ b.1 in
      let h = ltb-true c x.m.S.graph.nodes k.0 in
      let j = sheet-accepted 0 (judge_row x.m.S x.tables c row) _ k.1 in
      let r = bind-sound (on_sheet (read_row x.m.S c) row) _ j.1 in
      let y = ((addition_answers s t f i a.1 c h row r.1).result b.0).0 b.1 in
      let l = subst (Lendable x.m.S) y.0 y.1 in (
        x,
        r.0,
        record { run_accepted = a.1; table_in = h; row_read = r.1; lendable = l },
        sym (accepted-same b.2) ∙ ap (sheets_of x) y.0,
      )

  -- an accepted addition agrees, and the changed run is the first with the row
  pub row_added : (c : ℕ) (row : List ℕ) {w : Sheets} → addition_sheets s t f i c row ≡ accepted w
      → (x : ChangeAgrees s t f i w) × (R : Instance) × (c < x.S.graph.nodes) × (on_sheet (read_row x.S c) row ≡ sound R) × Adds x.S x.before c R x.after
  row_added c row e =
      let a = addition-accepted c row e in
      let k = a.2 in
      subst (λ (w : Sheets). (x : ChangeAgrees s t f i w) × (R : Instance) × (c < x.S.graph.nodes) × (on_sheet (read_row x.S c) row ≡ sound R) × Adds x.S x.before c R x.after) (sym a.3)
      (change_agrees (run_accepted s t f i k.run_accepted) k.lendable.valid, a.1, k.table_in, k.row_read, more s t f i k.run_accepted c k.table_in row k.row_read)

  pub withdrawal-accepted : (c r : ℕ) {w : Sheets} → withdrawal_sheets s t f i c r ≡ accepted w
      → (x : Run) × WithdrawalSound s t f i c r x × (w ≡ sheets_of x (withdrawn x.m.S x.tables c r))
  withdrawal-accepted c r e =
      let a = bind-accepted (judge_run s t f i) _ e in
      let x = a.0 in
      let b = bind-accepted (withdrawal x.m.S x.tables c r) _ a.2 in
      let k = ensure-accepted (ltb c x.m.S.graph.nodes && ltb r (count x.tables c)) 18 _ b.1 in
      let l = ensure-accepted (not (is_held x.m.S x.tables c r)) 19 _ k.1 in
      let u = and_both (ltb c x.m.S.graph.nodes) (ltb r (count x.tables c)) k.0 in (
        x,
        record {
          run_accepted = a.1;
          table_in = ltb-true c x.m.S.graph.nodes u.0;
          row_in = ltb-true r (count x.tables c) u.1;
          free = not-true (is_held x.m.S x.tables c r) l.0;
        },
        sym (accepted-same b.2) ∙ ap (sheets_of x) (sym (accepted-same l.1)),
      )

  -- an accepted withdrawal agrees, and the changed run is the first without the row
  pub row_withdrawn : (c r : ℕ) {w : Sheets} → withdrawal_sheets s t f i c r ≡ accepted w
      → (x : ChangeAgrees s t f i w) × (c < x.S.graph.nodes) × (r < count x.before c) × (Held x.S x.before c r → ⊥) × Withdraws x.S x.before c r x.after
  row_withdrawn c r e =
      let a = withdrawal-accepted c r e in
      let k = a.1 in
      let h = run_accepted s t f i k.run_accepted in
      let unheld : Held a.0.m.S a.0.tables c r → ⊥ = λ y. no_bool (sym ((held-iff (run-valid h) c r).1 y) ∙ k.free) in
      subst (λ (w : Sheets). (x : ChangeAgrees s t f i w) × (c < x.S.graph.nodes) × (r < count x.before c) × (Held x.S x.before c r → ⊥) × Withdraws x.S x.before c r x.after)
      (sym a.2) (
        change_agrees h (withdrawn-valid (run-formed h) (run-valid h) k.table_in k.row_in k.free),
        k.table_in,
        k.row_in,
        unheld,
        withdraws-table (run-formed h) (run-valid h) c r k.table_in k.row_in unheld,
      )
