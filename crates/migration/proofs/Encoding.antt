-- The number that an export gives, taken apart, is the call's outcome: refusals are numbered below 256, and results are below 2^32.
use Prim.Native.Nat.{ℕ, ◌+◌, ◌*◌, ◌/◌, ◌%◌, ◌<◌, ◌≤◌}
use mathlib.Core.Path.{◌≡◌, refl, sym, ap, ◌∙◌, Σ_path}
use mathlib.Core.Bool.{Bool, true, ◌&&◌}
use mathlib.Core.List.{List, []}
use native.Mathlib.Omega.{arith}
use native.Mathlib.Decide.{dec_lt}
use lib.ListN.{length, take}
use lib.Dec.{ltb}
use borrow.Author.Tests.{ltb-true, lt-ltb, le-ltb}
use Rattle.theory.specs.Matching.{partner, partners}
use Rattle.theory.specs.Transposition.{raw, pushed}
use Rattle.theory.proofs.Matching.{partners-length}
use Rattle.meaning.specs.Lists.{all}
use Rattle.meaning.specs.Schema.{Path, Schema}
use Rattle.meaning.specs.Formats.{Instance, max_instance_bytes, max_mapping_bytes, matching_sheet}
use Rattle.meaning.specs.Views.{schema_of, mapping_of, instance_of}
use Rattle.meaning.specs.Judge.{judge_path, judge_schema}
use Rattle.meaning.specs.Calls.{Outcome, refused, accepted, ◌>>=◌, path_question, path_chain, delta_tables, sigma_tables, pi_tables, sheet_of, Sides, sides, judge_pushed, judge_raw, pushed_to_raw, raw_to_pushed, in_tray, raw_sheet, pushed_sheet}
use Rattle.meaning.specs.Query.{query_tables}
use Rattle.meaning.specs.Changes.{Sheets, addition_sheets, withdrawal_sheets, in_trays}
use Rattle.meaning.specs.Composition.{compose}
use Rattle.meaning.proofs.Lists.{all_of}
use Rattle.meaning.proofs.Tabulate.{and_both}
use Rattle.meaning.proofs.Facts.{schema-facts}
use Rattle.meaning.proofs.Written.{path-sheet-length, matching-sheet-length, chain-sheet-length}
use Rattle.agreement.specs.Paths.{EqualPaths}
use Rattle.agreement.specs.PathChains.{ChainAnswers}
use Rattle.agreement.specs.Tests.{Refusal, Tests, Decides}
use Rattle.agreement.specs.Changes.{ChangeAgrees}
use Rattle.agreement.proofs.Tests.{accepted-same, decides-giving, refused-in}
use Rattle.agreement.proofs.Paths.{path-short}
use Rattle.agreement.proofs.Categories.{schema-well-formed}
use Rattle.agreement.proofs.Outcomes.{check_schema-decided, check_mapping-decided, check_instance-decided, check_pushed-decided, check_raw-decided, path_question-answer, path_chain-answer, delta-answer, sigma-answer, pi-answer, query-answer, pushed_to_raw-answer, raw_to_pushed-answer, accepted-tray}
use Rattle.agreement.proofs.Accepted.{bind-accepted, sheet-accepted, SidesSound, sides-accepted}
use Rattle.agreement.proofs.AcceptedSheets.{path_answer, chain_answers}
use Rattle.agreement.proofs.Tables.{rows-sum}
use Rattle.agreement.specs.Valid.{ValidInstance}
use Rattle.agreement.proofs.Valid.{mapping-valid, instance-valid}
use Rattle.agreement.proofs.Evenness.{even-iff}
use Rattle.agreement.proofs.Sigma.{sigma-valid}
use Rattle.agreement.proofs.Agrees.{lendable-within, sheet-within, delta_agrees, sigma_agrees, pi_agrees}
use Rattle.agreement.proofs.Query.{query_agrees}
use Rattle.agreement.proofs.ChangeTests.{add_row-answer, withdraw_row-answer, accepted-trays}
use Rattle.agreement.proofs.Changes.{row_added, row_withdrawn}
use Rattle.agreement.proofs.ComposeCall.{compose-answer, compose-within}
use Rattle.migration.specs.Answers.{checked}
use Rattle.migration.specs.Encoding.{Says, SaysLengths, ExportsSay, max_path_bytes, max_matching_bytes, max_chain_bytes, Within, BothWithin, ResultsWithin}

-- ---- byte lengths

partners-within : {S : Schema} {A : Instance} → ValidInstance S A → (m : ℕ → ℕ → ℕ) → length (matching_sheet (partners (schema_of S) (instance_of A) m)) ≤ max_matching_bytes
partners-within {S} {A} v m =
    let l = partners (schema_of S) (instance_of A) m in
    bound (length l) (length (matching_sheet l)) (matching-sheet-length l) (omega (arith, partners-length (schema_of S) (instance_of A) m, rows-sum S A v.shaped.tables, v.few_rows))
  where
    bound : (n b : ℕ) → b ≡ (9 * n + 7) / 8 → n ≤ 512 → b ≤ 576
    bound n b e h = omega arith

run-valid : {s t f i j : List ℕ} {x : Sides} → SidesSound s t f i j x → ValidInstance x.m.S x.run
run-valid {i = i} {x = x} h = instance-valid x.m.S i h.run_sound

pushed-valid : {s t f i j : List ℕ} {x : Sides} → SidesSound s t f i j x → ValidInstance x.m.T x.pushed
pushed-valid {s} {t} {f} h =
    let a = h.migration_sound in
    let v = mapping-valid s t f a.s_sound a.t_sound a.f_sound in
    rw h.pushed_is (sigma-valid v ((even-iff v).0 h.is-even) (run-valid h))

-- the turned lists' sheets
module _ {s t f i j : List ℕ} {x : Sides} (h : SidesSound s t f i j x) (l : List ℕ) where
  raw-within : length (raw_sheet x l) ≤ max_matching_bytes
  raw-within = partners-within (run-valid h) (raw (mapping_of x.m.S x.m.T x.m.F) (instance_of x.run) (partner (instance_of x.pushed) l))

  pushed-within : length (pushed_sheet x l) ≤ max_matching_bytes
  pushed-within = partners-within (pushed-valid h) (pushed (mapping_of x.m.S x.m.T x.m.F) (instance_of x.run) (partner (instance_of x.run) l))

module _ (s t f i j : List ℕ) where
  turned-within : (list : Sides → Outcome (List ℕ)) (sheet : Sides → List ℕ → List ℕ)
      → ((x : Sides) → SidesSound s t f i j x → (l : List ℕ) → length (sheet x l) ≤ max_matching_bytes)
      → Within max_matching_bytes (sides s t f i j >>= λ x. list x >>= λ l. accepted (sheet x l))
  turned-within list sheet h bytes e =
      let a = bind-accepted (sides s t f i j) (λ x. list x >>= λ l. accepted (sheet x l)) e in
      let b = bind-accepted (list a.0) (λ l. accepted (sheet a.0 l)) a.2 in
      let k : sheet a.0 b.0 ≡ bytes = accepted-same b.2 in
      rw k at (h a.0 (sides-accepted s t f i j a.1) b.0)

-- the sheet of a path
path-within : (s p : List ℕ) → Within max_path_bytes (path_question s p)
path-within s p bytes e =
    let a = sheet-accepted 1 (judge_schema s) _ e in
    let b = sheet-accepted 2 (judge_path a.0.graph p) _ a.2 in
    let x = path_answer s p a.1 b.1 in
    let f = schema-facts s a.1 in
    let l = path-short a.0 (schema-well-formed f) x.first.start x.first.edges x.is-path in
    bound (length x.first.edges) (length bytes) (ap length (accepted-same (sym e ∙ x.answer)) ∙ path-sheet-length x.first) (omega (arith, f.nodes))
  where
    bound : (n b : ℕ) → b ≡ (8 + 5 * n + 7) / 8 → n ≤ 15 → b ≤ 11
    bound n b e h = omega arith

-- the sheet of a chain
module _ {s p q : List ℕ} {S : Schema} {P Q : Path} (x : ChainAnswers s p q S P Q) where
  answer-within : Within max_chain_bytes (path_chain s p q)
  answer-within bytes e = go (dec_lt max_chain_bytes (length bytes))
    where
      bound : (n b : ℕ) → b ≡ (8 + 10 * n + 7) / 8 → n ≤ 255 → b ≤ 320
      bound n b e h = omega arith

      short : EqualPaths S P Q → length bytes ≤ max_chain_bytes
      short r = let c = x.chain r in bound (length c.0) (length bytes) (ap length (accepted-same (sym e ∙ c.1)) ∙ chain-sheet-length c.0) c.2.few

      go : Dec (max_chain_bytes < length bytes) → length bytes ≤ max_chain_bytes
      go (yes h) =
          let none : bytes ≡ [] = accepted-same (sym e ∙ x.none.1 (λ r. let l = short r in omega arith)) in
          let l = ap length none in
          omega arith
      go (no h) = omega arith

chain-within : (s p q : List ℕ) → Within max_chain_bytes (path_chain s p q)
chain-within s p q bytes e =
    let a = sheet-accepted 1 (judge_schema s) _ e in
    let b = sheet-accepted 2 (judge_path a.0.graph p) _ a.2 in
    let c = sheet-accepted 3 (judge_path a.0.graph q) _ b.2 in
    answer-within (chain_answers s p q a.1 b.1 c.1) bytes e

sigma-within : (s t f i : List ℕ) → Within max_instance_bytes (sheet_of (sigma_tables s t f i))
sigma-within s t f i = sheet-within (sigma_tables s t f i) max_instance_bytes (λ M e. let a = sigma_agrees s t f i e in lendable-within t a.inputs.t_accepted a.lendable)

-- both sheets of a changed run
change-within : {s t f i : List ℕ} {w : Sheets} → ChangeAgrees s t f i w → (length w.run ≤ max_instance_bytes) × (length w.pushed ≤ max_instance_bytes)
change-within {s} {t} {f} {w = w} x = (
  rw x.run_sheet (lendable-within s x.inputs.s_accepted x.lendable),
  sigma-within s t f w.run w.pushed (ap sheet_of x.pushed_by_call ∙ ap accepted (sym x.pushed-sheet)),
)

pub results_within : ResultsWithin
results_within = record {
  first-path = path-within;
  path-chain = chain-within;
  delta = λ s t f j. sheet-within (delta_tables s t f j) max_instance_bytes (λ M e. let a = delta_agrees s t f j e in lendable-within s a.inputs.s_accepted a.lendable);
  sigma = sigma-within;
  pi = λ s t f i. sheet-within (pi_tables s t f i) max_instance_bytes (λ M e. let a = pi_agrees s t f i e in lendable-within t a.inputs.t_accepted a.lendable);
  query = λ s1 s2 s3 s4 f g h i. sheet-within (query_tables s1 s2 s3 s4 f g h i) max_instance_bytes (λ M e.
      let a = query_agrees s1 s2 s3 s4 f g h i e in
      lendable-within s4 a.inputs.s4_accepted a.lendable);
  row_added = λ s t f i c row w e. change-within (row_added s t f i c row e).0;
  row_withdrawn = λ s t f i c r w e. change-within (row_withdrawn s t f i c r e).0;
  compose = compose-within;
  pushed-to-raw = λ s t f i j k. turned-within s t f i j (λ x. judge_pushed x k) raw_sheet (λ x h l. raw-within h l);
  raw-to-pushed = λ s t f i j k. turned-within s t f i j (λ x. judge_raw x k) pushed_sheet (λ x h l. pushed-within h l);
}

-- ---- answers

say-result : (n : ℕ) → n < 4294967296 → Says (accepted n)
say-result n h = rw (lt-ltb n 4294967296 h)

say-refusal : (n p : ℕ) → n < 256 → p < 256 → Says (refused n p)
say-refusal n p h k =
    let a : (4294967296 + 256 * n + p) / 256 % 256 ≡ n = omega arith in
    let b : (4294967296 + 256 * n + p) % 256 ≡ p = omega arith in
    rw (le-ltb (4294967296 + 256 * n + p) 4294967296 (omega arith), a, b)

abbrev low : Refusal → Bool
low r = ltb r.0 256 && ltb r.1 256

says : {rs : List Refusal} {t : Tests ℕ rs} (o : Outcome ℕ) → Decides t o → all low rs ≡ true → ((n : ℕ) → o ≡ accepted n → n < 4294967296) → Says o
says {rs} (refused n p) D l h =
    let b = and_both (ltb n 256) (ltb p 256) (all_of low rs l (refused-in D (n, p) refl)) in
    say-refusal n p (ltb-true n 256 b.0) (ltb-true p 256 b.1)
says (accepted n) D l h = say-result n (h n refl)

-- an accepted check is 0
module _ {rs : List Refusal} {t : Tests (Unit {0}) rs} {o : Outcome (Unit {0})} where
  says-check : Decides t o → all low rs ≡ true → Says (checked o)
  says-check D l = says (checked o) (decides-giving D (λ _. 0)) l (λ n e.
      let a = bind-accepted o (λ _. accepted 0) e in
      let k : 0 ≡ n = accepted-same a.2 in
      omega arith)

-- a result in a tray
module _ {rs : List Refusal} {t : Tests ℕ rs} (tray : List ℕ) (o : Outcome (List ℕ)) (m : ℕ) where
  says-bytes : Decides t (in_tray tray o).answer → all low rs ≡ true → Within m o → m < 4294967296 → Says (in_tray tray o).answer
  says-bytes D l w k = says (in_tray tray o).answer D l (λ n e.
      let r = accepted-tray tray o e in
      omega (arith, w r.bytes r.result, r.size))

-- two byte lengths
lengths-apart : (n k : ℕ) → k < 65536 → ◌≡◌ {A = ℕ × ℕ} ((65536 * n + k) / 65536, (65536 * n + k) % 65536) (n, k)
lengths-apart n k h = Σ_path (omega arith) (omega arith)

says-lengths : {rs : List Refusal} {t : Tests (ℕ × ℕ) rs} (o : Outcome (ℕ × ℕ)) → Decides t o → all low rs ≡ true
    → ((n k : ℕ) → o ≡ accepted (n, k) → (n ≤ max_instance_bytes) × (k ≤ max_instance_bytes)) → SaysLengths o
says-lengths {rs} (refused n p) D l h =
    let b = and_both (ltb n 256) (ltb p 256) (all_of low rs l (refused-in D (n, p) refl)) in
    ap (λ (o : Outcome ℕ). o >>= λ k. accepted (k / 65536, k % 65536)) (say-refusal n p (ltb-true n 256 b.0) (ltb-true p 256 b.1))
says-lengths (accepted (n, k)) D l h =
    let b = h n k refl in
    ap (λ (o : Outcome ℕ). o >>= λ k. accepted (k / 65536, k % 65536)) (say-result (65536 * n + k) (omega (arith, b.0, b.1)))
    ∙ ap accepted (lengths-apart n k (omega (arith, b.1)))

-- two results in their trays
module _ {rs : List Refusal} {t : Tests (ℕ × ℕ) rs} (run pushed : List ℕ) (o : Outcome Sheets) where
  says-sheets : Decides t (in_trays run pushed o).answer → all low rs ≡ true → BothWithin max_instance_bytes o → SaysLengths (in_trays run pushed o).answer
  says-sheets D l w = says-lengths (in_trays run pushed o).answer D l (λ n k e.
      let r = accepted-trays run pushed o e in
      let b = w r.sheets r.result in
      (omega (arith, b.0, r.run_size), omega (arith, b.1, r.pushed_size)))

pub exports_say : ExportsSay
exports_say = record {
  check-schema = λ s. says-check (check_schema-decided s) refl;
  check-mapping = λ s t f. says-check (check_mapping-decided s t f) refl;
  check-instance = λ s i. says-check (check_instance-decided s i) refl;
  first-path = λ s p tray. says-bytes tray (path_question s p) max_path_bytes (path_question-answer tray s p) refl (results_within.first-path s p) (omega arith);
  path-chain = λ s p q tray. says-bytes tray (path_chain s p q) max_chain_bytes (path_chain-answer tray s p q) refl (results_within.path-chain s p q) (omega arith);
  delta = λ s t f j tray. says-bytes tray (sheet_of (delta_tables s t f j)) max_instance_bytes (delta-answer tray s t f j) refl (results_within.delta s t f j) (omega arith);
  sigma = λ s t f i tray. says-bytes tray (sheet_of (sigma_tables s t f i)) max_instance_bytes (sigma-answer tray s t f i) refl (results_within.sigma s t f i) (omega arith);
  pi = λ s t f i tray. says-bytes tray (sheet_of (pi_tables s t f i)) max_instance_bytes (pi-answer tray s t f i) refl (results_within.pi s t f i) (omega arith);
  query = λ s1 s2 s3 s4 f g h i tray. says-bytes tray (sheet_of (query_tables s1 s2 s3 s4 f g h i)) max_instance_bytes (query-answer tray s1 s2 s3 s4 f g h i) refl (results_within.query s1 s2 s3 s4 f g h i) (omega arith);
  add-row = λ s t f run n c row pushed. says-sheets run pushed (addition_sheets s t f (take n run) c row) (add_row-answer s t f run n c row pushed) refl (results_within.row_added s t f (take n run) c row);
  withdraw-row = λ s t f run n c r pushed. says-sheets run pushed (withdrawal_sheets s t f (take n run) c r) (withdraw_row-answer s t f run n c r pushed) refl (results_within.row_withdrawn s t f (take n run) c r);
  compose = λ s t u f g tray. says-bytes tray (compose s t u f g) max_mapping_bytes (compose-answer s t u f g tray) refl (results_within.compose s t u f g) (omega arith);
  check-pushed = λ s t f i j k. says-check (check_pushed-decided s t f i j k) refl;
  check-raw = λ s t f i j k. says-check (check_raw-decided s t f i j k) refl;
  pushed-to-raw = λ s t f i j k tray. says-bytes tray (pushed_to_raw s t f i j k) max_matching_bytes (pushed_to_raw-answer tray s t f i j k) refl (results_within.pushed-to-raw s t f i j k) (omega arith);
  raw-to-pushed = λ s t f i j k tray. says-bytes tray (raw_to_pushed s t f i j k) max_matching_bytes (raw_to_pushed-answer tray s t f i j k) refl (results_within.raw-to-pushed s t f i j k) (omega arith);
}
