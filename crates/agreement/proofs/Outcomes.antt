-- Each call is decided by its tests (specs/CallTests.antt): its outcome is the refusal of the first test that fails, or its result where all pass.
use Prim.Native.Nat.{ℕ, ◌+◌, ◌-◌, ◌≤◌}
use mathlib.Core.Path.{◌≡◌, refl, sym, ◌∙◌}
use mathlib.Core.Bool.{Bool, true, false, cond}
use mathlib.Core.List.{List, ◌++◌}
use native.Mathlib.Omega.{arith}
use lib.ListN.{length, drop, length-append, length-drop}
use lib.Seq.{take_at, get_or-append-add, get_or-drop}
use lib.Dec.{leb}
use borrow.Author.Tests.{leb-true}
use Rattle.meaning.specs.Lists.{sum_of}
use Rattle.meaning.specs.PathChain.{first_chain}
use Rattle.meaning.specs.PathEquality.{first_path}
use Rattle.meaning.specs.Category.{listed_category}
use Rattle.meaning.specs.Formats.{Instance, max_rows, path_sheet, instance_sheet}
use Rattle.meaning.specs.Delta.{delta}
use Rattle.meaning.specs.Evenness.{even}
use Rattle.meaning.specs.Sigma.{sigma}
use Rattle.meaning.specs.Pi.{is_bijective, has_few_components, pi}
use Rattle.meaning.specs.Calls.{Outcome, refused, accepted, ◌>>=◌, ensure, ensure_fits, check_schema, migration, check_mapping, check_instance, path_question, explanation, path_chain, Migrated, delta_tables, sigma_tables, pi_tables, sheet_of, Sides, sides, judge_pushed, judge_raw, check_pushed, check_raw, pushed_to_raw, raw_to_pushed, Lent, written, in_tray, pushed_sheet, raw_sheet}
use Rattle.meaning.specs.Query.{Query, judge_query, ensure_mappings, migrate_query, query_tables}
use Rattle.agreement.specs.Tests.{Refusal, Tests, done, test, Decides, holds}
use Rattle.agreement.proofs.Tests.{refused-not-accepted, accepted-same, bind-same, bind_assoc, decides-then, decides-ensure, decides-as, decides-giving}
use Rattle.agreement.proofs.Refusals.{schema-decided, path-decided, mapping-decided, instance-decided, matching-decided}
use Rattle.agreement.specs.CallTests.{Result, Written, sheet_tests, tray_tests, raw_tests, pushed_tests, sides_tests, judge_query_tests, query_tests, pi_tests, sigma_tests, delta_tests, fits_tests, path_chain_tests, path_question_tests, check_instance_tests, check_mapping_tests, migration_tests, check_schema_tests}

-- ---- checks, the path question and the chain between two paths

pub check_schema-decided : (s : List ℕ) → Decides (check_schema_tests s) (check_schema s)
check_schema-decided s = decides-giving (schema-decided 1 s) (λ S. tt)

pub migration-decided : (s t f : List ℕ) → Decides (migration_tests s t f) (migration s t f)
migration-decided s t f =
    decides-then (schema-decided 1 s) (λ S.
    decides-then (schema-decided 2 t) (λ T.
    decides-giving (mapping-decided 3 (listed_category S) (listed_category T) f) (λ F. record { S = S; T = T; F = F })))

pub check_mapping-decided : (s t f : List ℕ) → Decides (check_mapping_tests s t f) (check_mapping s t f)
check_mapping-decided s t f = decides-giving (migration-decided s t f) (λ m. tt)

pub check_instance-decided : (s i : List ℕ) → Decides (check_instance_tests s i) (check_instance s i)
check_instance-decided s i = decides-then (schema-decided 1 s) (λ S. decides-giving (instance-decided 2 S i) (λ I. tt))

pub path_question-decided : (s p : List ℕ) → Decides (path_question_tests s p) (path_question s p)
path_question-decided s p = decides-then (schema-decided 1 s) (λ S. decides-giving (path-decided 2 S.graph p) (λ P. path_sheet (first_path S P)))

pub path_chain-decided : (s p q : List ℕ) → Decides (path_chain_tests s p q) (path_chain s p q)
path_chain-decided s p q =
    decides-then (schema-decided 1 s) (λ S.
    decides-then (path-decided 2 S.graph p) (λ P.
    decides-giving (path-decided 3 S.graph q) (λ Q. explanation (first_chain S P Q))))

-- ---- migrations

pub fits-decided : (J : Instance) → Decides (fits_tests J) (ensure_fits J)
fits-decided J = decides-giving (decides-ensure (leb (sum_of J.counts) max_rows) 15) (λ _. J)

pub delta-decided : (s t f j : List ℕ) → Decides (delta_tests s t f j) (delta_tables s t f j)
delta-decided s t f j =
    decides-then (migration-decided s t f) (λ m.
    decides-then (instance-decided 4 m.T j) (λ J.
    decides-giving (fits-decided (delta m.S m.F J)) (λ D. record { schema = m.S; tables = D })))

pub sigma-decided : (s t f i : List ℕ) → Decides (sigma_tests s t f i) (sigma_tables s t f i)
sigma-decided s t f i =
    decides-then (migration-decided s t f) (λ m.
    decides-then (instance-decided 4 m.S i) (λ I.
    decides-then (decides-ensure (even (listed_category m.S) (listed_category m.T) m.F) 12) (λ _.
    decides-giving (fits-decided (sigma (listed_category m.S) (listed_category m.T) m.F I)) (λ P. record { schema = m.T; tables = P }))))

pub pi-decided : (s t f i : List ℕ) → Decides (pi_tests s t f i) (pi_tables s t f i)
pi-decided s t f i =
    decides-then (migration-decided s t f) (λ m.
    decides-then (instance-decided 4 m.S i) (λ I.
    decides-then (decides-ensure (is_bijective m.T m.F) 13) (λ _.
    decides-then (decides-ensure (has_few_components (listed_category m.S) (listed_category m.T) m.F) 14) (λ _.
    decides-giving (fits-decided (pi (listed_category m.S) (listed_category m.T) m.F I)) (λ P. record { schema = m.T; tables = P })))))

-- ---- the query

judge_query-decided : (s1 s2 s3 s4 f g h : List ℕ) → Decides (judge_query_tests s1 s2 s3 s4 f g h) (judge_query s1 s2 s3 s4 f g h)
judge_query-decided s1 s2 s3 s4 f g h =
    decides-then (schema-decided 1 s1) (λ S1.
    decides-then (schema-decided 2 s2) (λ S2.
    decides-then (schema-decided 3 s3) (λ S3.
    decides-then (schema-decided 4 s4) (λ S4.
    decides-then (mapping-decided 5 (listed_category S2) (listed_category S1) f) (λ F.
    decides-then (mapping-decided 6 (listed_category S2) (listed_category S3) g) (λ G.
    decides-giving (mapping-decided 7 (listed_category S3) (listed_category S4) h) (λ H. record { S1 = S1; S2 = S2; S3 = S3; S4 = S4; F = F; G = G; H = H })))))))

-- its tables, one after the other
abbrev pub pulled : Query → Instance → Instance
pulled q I = delta q.S2 q.F I

abbrev pub joined : Query → Instance → Instance
joined q I = pi (listed_category q.S2) (listed_category q.S3) q.G (pulled q I)

abbrev pub pushed : Query → Instance → Instance
pushed q I = sigma (listed_category q.S3) (listed_category q.S4) q.H (joined q I)

abbrev pub query_result : Query → Instance → Migrated
query_result q I = record { schema = q.S4; tables = pushed q I }

-- its tests after the sheets
abbrev pub paired : Query → Bool
paired q = is_bijective q.S3 q.G

abbrev pub narrow : Query → Bool
narrow q = has_few_components (listed_category q.S2) (listed_category q.S3) q.G

abbrev pub evenly : Query → Bool
evenly q = even (listed_category q.S3) (listed_category q.S4) q.H

abbrev pub few : Instance → Bool
few J = leb (sum_of J.counts) max_rows

-- each test after the one before
abbrev pub in_turn : Query → Instance → Outcome Migrated
in_turn q I = do
  _ ← ensure (paired q) 13
  _ ← ensure (narrow q) 14
  _ ← ensure (evenly q) 12
  _ ← ensure (few (pulled q I)) 15
  _ ← ensure (few (joined q I)) 15
  _ ← ensure (few (pushed q I)) 15
  accepted (query_result q I)

-- a migration, and what is made of its tables
fits_next : {B : Type 0} (J : Instance) (f : Instance → Outcome B) → (ensure_fits J >>= f) ≡ (ensure (few J) 15 >>= λ _. f J)
fits_next J f = bind_assoc (ensure (few J) 15) (λ _. accepted J) f

pub in-turn : (q : Query) (I : Instance) → (ensure_mappings q >>= λ _. migrate_query q I) ≡ in_turn q I
in-turn q I =
    bind_assoc (ensure (paired q) 13) (λ _. ensure (narrow q) 14 >>= λ _. ensure (evenly q) 12) (λ _. migrate_query q I)
    ∙ bind-same (ensure (paired q) 13) (λ _. bind_assoc (ensure (narrow q) 14) (λ _. ensure (evenly q) 12) (λ _. migrate_query q I)
    ∙ bind-same (ensure (narrow q) 14) (λ _. bind-same (ensure (evenly q) 12) (λ _.
    fits_next (pulled q I) (λ D. ensure_fits (pi (listed_category q.S2) (listed_category q.S3) q.G D) >>= last)
    ∙ bind-same (ensure (few (pulled q I)) 15) (λ _. fits_next (joined q I) last
    ∙ bind-same (ensure (few (joined q I)) 15) (λ _. fits_next (pushed q I) result)))))
  where
    result : Instance → Outcome Migrated
    result Q = accepted (record { schema = q.S4; tables = Q })

    last : Instance → Outcome Migrated
    last P = ensure_fits (sigma (listed_category q.S3) (listed_category q.S4) q.H P) >>= result

pub query-decided : (s1 s2 s3 s4 f g h i : List ℕ) → Decides (query_tests s1 s2 s3 s4 f g h i) (query_tables s1 s2 s3 s4 f g h i)
query-decided s1 s2 s3 s4 f g h i =
    decides-then (judge_query-decided s1 s2 s3 s4 f g h) (λ q.
    decides-then (instance-decided 8 q.S1 i) (λ I.
    decides-as (sym (in-turn q I)) (
    decides-then (decides-ensure (paired q) 13) (λ _.
    decides-then (decides-ensure (narrow q) 14) (λ _.
    decides-then (decides-ensure (evenly q) 12) (λ _.
    decides-then (decides-ensure (few (pulled q I)) 15) (λ _.
    decides-then (decides-ensure (few (joined q I)) 15) (λ _.
    decides-giving (decides-ensure (few (pushed q I)) 15) (λ _. query_result q I)))))))))

-- ---- checkers and turnings

sides-decided : (s t f i j : List ℕ) → Decides (sides_tests s t f i j) (sides s t f i j)
sides-decided s t f i j =
    decides-then (migration-decided s t f) (λ m.
    decides-then (instance-decided 4 m.S i) (λ I.
    decides-then (instance-decided 5 m.T j) (λ J.
    decides-then (decides-ensure (even (listed_category m.S) (listed_category m.T) m.F) 12) (λ _.
    decides-then (fits-decided (sigma (listed_category m.S) (listed_category m.T) m.F I)) (λ P.
    decides-giving (fits-decided (delta m.S m.F J)) (λ D. record { m = m; run = I; book = J; pushed = P; pulled = D }))))))

module _ (s t f i j k : List ℕ) where
  pushed-decided : {A : Type 0} (g : Sides → List ℕ → A) → Decides (pushed_tests s t f i j k g) (sides s t f i j >>= λ x. judge_pushed x k >>= λ l. accepted (g x l))
  pushed-decided g = decides-then (sides-decided s t f i j) (λ x. decides-giving (matching-decided 6 x.m.T x.pushed x.book k) (g x))

  raw-decided : {A : Type 0} (g : Sides → List ℕ → A) → Decides (raw_tests s t f i j k g) (sides s t f i j >>= λ x. judge_raw x k >>= λ l. accepted (g x l))
  raw-decided g = decides-then (sides-decided s t f i j) (λ x. decides-giving (matching-decided 6 x.m.S x.run x.pulled k) (g x))

  pub check_pushed-decided : Decides (pushed_tests s t f i j k (λ x l. tt)) (check_pushed s t f i j k)
  check_pushed-decided = pushed-decided (λ x l. tt)

  pub check_raw-decided : Decides (raw_tests s t f i j k (λ x l. tt)) (check_raw s t f i j k)
  check_raw-decided = raw-decided (λ x l. tt)

  pub pushed_to_raw-decided : Decides (pushed_tests s t f i j k raw_sheet) (pushed_to_raw s t f i j k)
  pushed_to_raw-decided = pushed-decided raw_sheet

  pub raw_to_pushed-decided : Decides (raw_tests s t f i j k pushed_sheet) (raw_to_pushed s t f i j k)
  raw_to_pushed-decided = raw-decided pushed_sheet

-- ---- results in a tray: 16 last

module _ (tray : List ℕ) where
  -- what is written, by the test of the room
  abbrev lent : List ℕ → Bool → Lent
  lent bytes b = cond b (record { answer = accepted (length bytes); tray = bytes ++ drop (length bytes) tray }) (record { answer = refused 16 0; tray = tray })

  written-decided : (bytes : List ℕ) → Decides (test (16, 0) (holds (leb (length bytes) (length tray))) (λ _. done (length bytes))) (written tray bytes).answer
  written-decided bytes = go (leb (length bytes) (length tray))
    where
      go : (b : Bool) → Decides (test (16, 0) (holds b) (λ _. done (length bytes))) (lent bytes b).answer
      go true = record { so = refl }
      go false = record { so = refl }

  answer-bind : (o : Outcome (List ℕ)) → (in_tray tray o).answer ≡ (o >>= λ bytes. (written tray bytes).answer)
  answer-bind (refused n p) = refl
  answer-bind (accepted bytes) = refl

  pub tray-decided : {rs : List Refusal} {t : Tests (List ℕ) rs} {o : Outcome (List ℕ)} → Decides t o → Decides (tray_tests tray t) (in_tray tray o).answer
  tray-decided {o = o} T = decides-as (sym (answer-bind o)) (decides-then T written-decided)

  sheet-decided : {rs : List Refusal} {t : Tests Migrated rs} {o : Outcome Migrated} → Decides t o → Decides (sheet_tests tray t) (in_tray tray (sheet_of o)).answer
  sheet-decided T = tray-decided (decides-giving T (λ m. instance_sheet m.tables))

  pub delta-answer : (s t f j : List ℕ) → Decides (sheet_tests tray (delta_tests s t f j)) (in_tray tray (sheet_of (delta_tables s t f j))).answer
  delta-answer s t f j = sheet-decided (delta-decided s t f j)

  pub sigma-answer : (s t f i : List ℕ) → Decides (sheet_tests tray (sigma_tests s t f i)) (in_tray tray (sheet_of (sigma_tables s t f i))).answer
  sigma-answer s t f i = sheet-decided (sigma-decided s t f i)

  pub pi-answer : (s t f i : List ℕ) → Decides (sheet_tests tray (pi_tests s t f i)) (in_tray tray (sheet_of (pi_tables s t f i))).answer
  pi-answer s t f i = sheet-decided (pi-decided s t f i)

  pub query-answer : (s1 s2 s3 s4 f g h i : List ℕ) → Decides (sheet_tests tray (query_tests s1 s2 s3 s4 f g h i)) (in_tray tray (sheet_of (query_tables s1 s2 s3 s4 f g h i))).answer
  query-answer s1 s2 s3 s4 f g h i = sheet-decided (query-decided s1 s2 s3 s4 f g h i)

  pub path_question-answer : (s p : List ℕ) → Decides (tray_tests tray (path_question_tests s p)) (in_tray tray (path_question s p)).answer
  path_question-answer s p = tray-decided (path_question-decided s p)

  pub path_chain-answer : (s p q : List ℕ) → Decides (tray_tests tray (path_chain_tests s p q)) (in_tray tray (path_chain s p q)).answer
  path_chain-answer s p q = tray-decided (path_chain-decided s p q)

  pub pushed_to_raw-answer : (s t f i j k : List ℕ) → Decides (tray_tests tray (pushed_tests s t f i j k raw_sheet)) (in_tray tray (pushed_to_raw s t f i j k)).answer
  pushed_to_raw-answer s t f i j k = tray-decided (pushed_to_raw-decided s t f i j k)

  pub raw_to_pushed-answer : (s t f i j k : List ℕ) → Decides (tray_tests tray (raw_tests s t f i j k pushed_sheet)) (in_tray tray (raw_to_pushed s t f i j k)).answer
  raw_to_pushed-answer s t f i j k = tray-decided (raw_to_pushed-decided s t f i j k)

-- ---- the lent bytes

-- a result in front of what was lent
pub is-written : (lent bytes : List ℕ) → length bytes ≤ length lent → Written lent bytes (bytes ++ drop (length bytes) lent)
is-written lent bytes l = record {
  room = l;
  front = take_at bytes (drop (length bytes) lent) (length bytes) refl;
  beyond = λ i h. let z : length bytes + (i - length bytes) ≡ i = omega arith in
      rw z at (get_or-append-add bytes (drop (length bytes) lent) (i - length bytes) 0 ∙ get_or-drop (length bytes) lent (i - length bytes) 0);
  whole = length-append bytes (drop (length bytes) lent) ∙ omega (arith, length-drop (length bytes) lent);
}

module _ (tray : List ℕ) where
  -- a refused call leaves every lent byte
  pub refused-tray : (o : Outcome (List ℕ)) {n p : ℕ} → (in_tray tray o).answer ≡ refused n p → (in_tray tray o).tray ≡ tray
  refused-tray (refused m q) e = refl
  refused-tray (accepted bytes) {n} {p} e = go (leb (length bytes) (length tray)) e
    where
      go : (b : Bool) → (lent tray bytes b).answer ≡ refused n p → (lent tray bytes b).tray ≡ tray
      go true e = absurd (refused-not-accepted (sym e))
      go false e = refl

  pub accepted-tray : (o : Outcome (List ℕ)) {n : ℕ} → (in_tray tray o).answer ≡ accepted n → Result tray o n
  accepted-tray (refused m q) e = absurd (refused-not-accepted e)
  accepted-tray (accepted bytes) {n} e = go (leb (length bytes) (length tray)) refl e
    where
      go : (b : Bool) → leb (length bytes) (length tray) ≡ b → (lent tray bytes b).answer ≡ accepted n → Result tray (accepted bytes) n
      go true d e = record { bytes = bytes; result = refl; size = accepted-same e; written = rw d (is-written tray bytes (leb-true (length bytes) (length tray) d)) }
      go false d e = absurd (refused-not-accepted e)
