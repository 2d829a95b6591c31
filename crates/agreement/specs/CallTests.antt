-- The tests of each call, in the order of document 01: sheets by place, then 12, 13, 14, 15 at place 0, then the matching sheet, last 16; those of the
-- query in that of document 02, C-15, those of the changes in that of C-16, those of composing in that of C-17; and what results leave in their trays.
use Rattle.std.specs.Prelude.{ℕ, ◌≤◌, ◌≡◌, Bool, not, ◌&&◌, List, [], ◌∷◌, ◌++◌, length, get_or, take, leb, ltb}
use Rattle.meaning.specs.Lists.{sum_of}
use Rattle.meaning.specs.Category.{listed_category}
use Rattle.meaning.specs.PathChain.{first_chain}
use Rattle.meaning.specs.PathEquality.{first_path}
use Rattle.meaning.specs.Formats.{Instance, max_rows, path_sheet, instance_sheet}
use Rattle.meaning.specs.Views.{count}
use Rattle.meaning.specs.Delta.{delta}
use Rattle.meaning.specs.Evenness.{even}
use Rattle.meaning.specs.Sigma.{sigma}
use Rattle.meaning.specs.Pi.{is_bijective, has_few_components, pi}
use Rattle.meaning.specs.Calls.{Outcome, accepted, explanation, Migration, Migrated, Sides, in_tray}
use Rattle.meaning.specs.Query.{Query}
use Rattle.meaning.specs.Rows.{added, is_held, withdrawn}
use Rattle.meaning.specs.Changes.{Run, Sheets, sheets_of, in_trays}
use Rattle.meaning.specs.Composition.{Composable, composed_sheet}
use Rattle.agreement.specs.Tests.{Refusal, Tests, done, test, then, giving, holds}
use Rattle.agreement.specs.SheetTests.{placed, schema_numbers, schema_tests, path_numbers, path_tests, mapping_numbers, mapping_tests, instance_numbers, instance_tests, matching_numbers, matching_tests, row_sheet_numbers, row_sheet_tests}

-- ---- checks, the path question and the chain between two paths

abbrev pub check_schema_tests : List ℕ → Tests (Unit {0}) (placed 1 schema_numbers)
check_schema_tests s = giving (schema_tests 1 s) (λ S. tt)

abbrev pub migration_refusals : List Refusal
migration_refusals = placed 1 schema_numbers ++ placed 2 schema_numbers ++ placed 3 mapping_numbers

abbrev pub migration_tests : List ℕ → List ℕ → List ℕ → Tests Migration migration_refusals
migration_tests s t f =
    then (schema_tests 1 s) (λ S.
    then (schema_tests 2 t) (λ T.
    giving (mapping_tests 3 (listed_category S) (listed_category T) f) (λ F. record { S = S; T = T; F = F })))

abbrev pub check_mapping_tests : List ℕ → List ℕ → List ℕ → Tests (Unit {0}) migration_refusals
check_mapping_tests s t f = giving (migration_tests s t f) (λ m. tt)

abbrev pub check_instance_tests : List ℕ → List ℕ → Tests (Unit {0}) (placed 1 schema_numbers ++ placed 2 instance_numbers)
check_instance_tests s i = then (schema_tests 1 s) (λ S. giving (instance_tests 2 S i) (λ I. tt))

abbrev pub path_refusals : List Refusal
path_refusals = placed 1 schema_numbers ++ placed 2 path_numbers

abbrev pub path_question_tests : List ℕ → List ℕ → Tests (List ℕ) path_refusals
path_question_tests s p = then (schema_tests 1 s) (λ S. giving (path_tests 2 S.graph p) (λ P. path_sheet (first_path S P)))

abbrev pub chain_refusals : List Refusal
chain_refusals = placed 1 schema_numbers ++ placed 2 path_numbers ++ placed 3 path_numbers

abbrev pub path_chain_tests : List ℕ → List ℕ → List ℕ → Tests (List ℕ) chain_refusals
path_chain_tests s p q =
    then (schema_tests 1 s) (λ S.
    then (path_tests 2 S.graph p) (λ P.
    giving (path_tests 3 S.graph q) (λ Q. explanation (first_chain S P Q))))

-- ---- migrations

-- a condition of all sheets together
abbrev pub together : (n : ℕ) → Bool → Tests (Unit {0}) ((n, 0) ∷ [])
together n b = test (n, 0) (holds b) done

abbrev pub fits_tests : Instance → Tests Instance ((15, 0) ∷ [])
fits_tests J = giving (together 15 (leb (sum_of J.counts) max_rows)) (λ _. J)

abbrev pub delta_refusals : List Refusal
delta_refusals = migration_refusals ++ placed 4 instance_numbers ++ (15, 0) ∷ []

abbrev pub delta_tests : List ℕ → List ℕ → List ℕ → List ℕ → Tests Migrated delta_refusals
delta_tests s t f j =
    then (migration_tests s t f) (λ m.
    then (instance_tests 4 m.T j) (λ J.
    giving (fits_tests (delta m.S m.F J)) (λ D. record { schema = m.S; tables = D })))

abbrev pub sigma_refusals : List Refusal
sigma_refusals = migration_refusals ++ placed 4 instance_numbers ++ (12, 0) ∷ (15, 0) ∷ []

abbrev pub sigma_tests : List ℕ → List ℕ → List ℕ → List ℕ → Tests Migrated sigma_refusals
sigma_tests s t f i =
    then (migration_tests s t f) (λ m.
    then (instance_tests 4 m.S i) (λ I.
    then (together 12 (even (listed_category m.S) (listed_category m.T) m.F)) (λ _.
    giving (fits_tests (sigma (listed_category m.S) (listed_category m.T) m.F I)) (λ P. record { schema = m.T; tables = P }))))

abbrev pub pi_refusals : List Refusal
pi_refusals = migration_refusals ++ placed 4 instance_numbers ++ (13, 0) ∷ (14, 0) ∷ (15, 0) ∷ []

abbrev pub pi_tests : List ℕ → List ℕ → List ℕ → List ℕ → Tests Migrated pi_refusals
pi_tests s t f i =
    then (migration_tests s t f) (λ m.
    then (instance_tests 4 m.S i) (λ I.
    then (together 13 (is_bijective m.T m.F)) (λ _.
    then (together 14 (has_few_components (listed_category m.S) (listed_category m.T) m.F)) (λ _.
    giving (fits_tests (pi (listed_category m.S) (listed_category m.T) m.F I)) (λ P. record { schema = m.T; tables = P })))))

-- ---- the query (document 02, C-15): schemas, then F, G, H, then the run; then 13 and 14 for G, 12 for H, and 15 after each migration in turn

abbrev pub judge_query_refusals : List Refusal
judge_query_refusals =
    placed 1 schema_numbers ++ placed 2 schema_numbers ++ placed 3 schema_numbers ++ placed 4 schema_numbers ++
    placed 5 mapping_numbers ++ placed 6 mapping_numbers ++ placed 7 mapping_numbers

abbrev pub judge_query_tests : (s1 s2 s3 s4 f g h : List ℕ) → Tests Query judge_query_refusals
judge_query_tests s1 s2 s3 s4 f g h =
    then (schema_tests 1 s1) (λ S1.
    then (schema_tests 2 s2) (λ S2.
    then (schema_tests 3 s3) (λ S3.
    then (schema_tests 4 s4) (λ S4.
    then (mapping_tests 5 (listed_category S2) (listed_category S1) f) (λ F.
    then (mapping_tests 6 (listed_category S2) (listed_category S3) g) (λ G.
    giving (mapping_tests 7 (listed_category S3) (listed_category S4) h) (λ H. record { S1 = S1; S2 = S2; S3 = S3; S4 = S4; F = F; G = G; H = H })))))))

abbrev pub query_refusals : List Refusal
query_refusals = judge_query_refusals ++ placed 8 instance_numbers ++ (13, 0) ∷ (14, 0) ∷ (12, 0) ∷ (15, 0) ∷ (15, 0) ∷ (15, 0) ∷ []

abbrev pub query_tests : (s1 s2 s3 s4 f g h i : List ℕ) → Tests Migrated query_refusals
query_tests s1 s2 s3 s4 f g h i =
    then (judge_query_tests s1 s2 s3 s4 f g h) (λ q.
    then (instance_tests 8 q.S1 i) (λ I.
    then (together 13 (is_bijective q.S3 q.G)) (λ _.
    then (together 14 (has_few_components (listed_category q.S2) (listed_category q.S3) q.G)) (λ _.
    then (together 12 (even (listed_category q.S3) (listed_category q.S4) q.H)) (λ _.
    then (fits_tests (delta q.S2 q.F I)) (λ D.
    then (fits_tests (pi (listed_category q.S2) (listed_category q.S3) q.G D)) (λ P.
    giving (fits_tests (sigma (listed_category q.S3) (listed_category q.S4) q.H P)) (λ Q. record { schema = q.S4; tables = Q }))))))))

-- ---- changes of a run (document 02, C-16): S, T, mapping and run, then 12, then the change itself

abbrev pub run_refusals : List Refusal
run_refusals = migration_refusals ++ placed 4 instance_numbers ++ (12, 0) ∷ []

abbrev pub run_tests : (s t f i : List ℕ) → Tests Run run_refusals
run_tests s t f i =
    then (migration_tests s t f) (λ m.
    then (instance_tests 4 m.S i) (λ I.
    giving (together 12 (even (listed_category m.S) (listed_category m.T) m.F)) (λ _. record { m = m; tables = I })))

abbrev pub addition_refusals : List Refusal
addition_refusals = (18, 0) ∷ placed 0 row_sheet_numbers ++ (15, 0) ∷ []

abbrev pub addition_tests : Run → ℕ → List ℕ → Tests Instance addition_refusals
addition_tests x c row =
    then (together 18 (ltb c x.m.S.graph.nodes)) (λ _.
    then (row_sheet_tests 0 x.m.S x.tables c row) (λ R.
    fits_tests (added x.m.S x.tables R)))

abbrev pub withdrawal_tests : Run → ℕ → ℕ → Tests Instance ((18, 0) ∷ (19, 0) ∷ [])
withdrawal_tests x c r =
    then (together 18 (ltb c x.m.S.graph.nodes && ltb r (count x.tables c))) (λ _.
    giving (together 19 (not (is_held x.m.S x.tables c r))) (λ _. withdrawn x.m.S x.tables c r))

-- both sheets, of the run after the tests of a change
abbrev pub change_tests : {rs : List Refusal} → (s t f i : List ℕ) → (Run → Tests Instance rs) → Tests Sheets (run_refusals ++ rs)
change_tests s t f i change = then (run_tests s t f i) (λ x. giving (change x) (sheets_of x))

-- ---- composing (document 02, C-17): "lent S, T, U, F, G, judged in that order"

abbrev pub composable_refusals : List Refusal
composable_refusals = placed 1 schema_numbers ++ placed 2 schema_numbers ++ placed 3 schema_numbers ++ placed 4 mapping_numbers ++ placed 5 mapping_numbers

abbrev pub composable_tests : (s t u f g : List ℕ) → Tests Composable composable_refusals
composable_tests s t u f g =
    then (schema_tests 1 s) (λ S.
    then (schema_tests 2 t) (λ T.
    then (schema_tests 3 u) (λ U.
    then (mapping_tests 4 (listed_category S) (listed_category T) f) (λ F.
    giving (mapping_tests 5 (listed_category T) (listed_category U) g) (λ G. record { S = S; T = T; U = U; F = F; G = G })))))

abbrev pub compose_tests : (s t u f g : List ℕ) → Tests (List ℕ) composable_refusals
compose_tests s t u f g = giving (composable_tests s t u f g) composed_sheet

-- ---- checkers and turnings

abbrev pub sides_refusals : List Refusal
sides_refusals = migration_refusals ++ placed 4 instance_numbers ++ placed 5 instance_numbers ++ (12, 0) ∷ (15, 0) ∷ (15, 0) ∷ []

abbrev pub sides_tests : List ℕ → List ℕ → List ℕ → List ℕ → List ℕ → Tests Sides sides_refusals
sides_tests s t f i j =
    then (migration_tests s t f) (λ m.
    then (instance_tests 4 m.S i) (λ I.
    then (instance_tests 5 m.T j) (λ J.
    then (together 12 (even (listed_category m.S) (listed_category m.T) m.F)) (λ _.
    then (fits_tests (sigma (listed_category m.S) (listed_category m.T) m.F I)) (λ P.
    giving (fits_tests (delta m.S m.F J)) (λ D. record { m = m; run = I; book = J; pushed = P; pulled = D }))))))

abbrev pub matching_refusals : List Refusal
matching_refusals = sides_refusals ++ placed 6 matching_numbers

module _ (s t f i j k : List ℕ) where
  -- what is made of the two sides and the pushed list, and of the two sides and the raw list
  abbrev pub pushed_tests : {A : Type 0} → (Sides → List ℕ → A) → Tests A matching_refusals
  pushed_tests g = then (sides_tests s t f i j) (λ x. giving (matching_tests 6 x.m.T x.pushed x.book k) (g x))

  abbrev pub raw_tests : {A : Type 0} → (Sides → List ℕ → A) → Tests A matching_refusals
  raw_tests g = then (sides_tests s t f i j) (λ x. giving (matching_tests 6 x.m.S x.run x.pulled k) (g x))

-- ---- results in a tray: 16 last

abbrev pub tray_tests : {rs : List Refusal} → List ℕ → Tests (List ℕ) rs → Tests ℕ (rs ++ (16, 0) ∷ [])
tray_tests tray t = then t (λ bytes. test (16, 0) (holds (leb (length bytes) (length tray))) (λ _. done (length bytes)))

-- the sheet of a migrated instance
abbrev pub sheet_tests : {rs : List Refusal} → List ℕ → Tests Migrated rs → Tests ℕ (rs ++ (16, 0) ∷ [])
sheet_tests tray t = tray_tests tray (giving t (λ m. instance_sheet m.tables))

-- two results in their trays: 16 for either
abbrev pub trays_tests : {rs : List Refusal} → (run pushed : List ℕ) → Tests Sheets rs → Tests (ℕ × ℕ) (rs ++ (16, 0) ∷ [])
trays_tests run pushed t =
    then t (λ x. test (16, 0) (holds (leb (length x.run) (length run) && leb (length x.pushed) (length pushed))) (λ _. done (length x.run, length x.pushed)))

-- ---- the lent bytes

-- a tray with a result in front, and the lent bytes behind it
pub record Written (lent bytes tray : List ℕ) : Type 0 where
  pub room : length bytes ≤ length lent
  pub front : take (length bytes) tray ≡ bytes
  pub beyond : (i : ℕ) → length bytes ≤ i → get_or tray i 0 ≡ get_or lent i 0
  pub whole : length tray ≡ length lent

-- an accepted result: its byte length, and its tray
pub record Result (tray : List ℕ) (o : Outcome (List ℕ)) (n : ℕ) : Type 0 where
  pub bytes : List ℕ
  pub result : o ≡ accepted bytes
  pub size : length bytes ≡ n
  pub written : Written tray bytes (in_tray tray o).tray

-- two accepted results: their byte lengths, and their trays
pub record Results (run pushed : List ℕ) (o : Outcome Sheets) (n k : ℕ) : Type 0 where
  pub sheets : Sheets
  pub result : o ≡ accepted sheets
  pub run_size : length sheets.run ≡ n
  pub pushed_size : length sheets.pushed ≡ k
  pub run_written : Written run sheets.run (in_trays run pushed o).run
  pub pushed_written : Written pushed sheets.pushed (in_trays run pushed o).pushed
