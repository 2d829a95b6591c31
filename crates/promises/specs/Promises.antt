-- The promises of the three demands, of the requests of document 02, of the programs and of the C header, by demand and sentence; proofs/Promises.antt
-- proves each under its name.
-- A call is said by its meaning, a function of lists of numbers (`meaning` specs/Calls.antt, Query.antt, Changes.antt, Composition.antt). That the code answers as the meaning does is each public
-- call's contract, one equation with no `requires` (`migration` src/checks.rt, first.rt, explain.rt, migrate.rt, joins.rt, turnings.rt, printing.rt and exports.rt;
-- `query` src/answer.rt, printing.rt and exports.rt; `changes` src/calls.rt and exports.rt; `compose` src/call.rt and exports.rt). The other terms stand in the specs/ of `theory`
-- (source document 000), `meaning` (documents 01 and 02), `agreement` and `migration`.
-- By definition alone, in `meaning` specs/: the fields of sheets, refusals 1, 2 and 3, the text of push and dig. The runs to check against: `meaning` proofs/Cases.antt.
use Rattle.std.specs.Prelude.{ℕ, ◌<◌, ◌≤◌, ◌≡◌, true, false, ◌↔◌, length, get_or, take}
use mathlib.Core.List.{List, Memᴰ}
use Rattle.bits.specs.Field.{Bytes}
use Rattle.theory.specs.Schema.{IsSchema, IsPath, Chain}
use Rattle.theory.specs.Instance as theory
use Rattle.theory.specs.Instance.{Alike}
use Rattle.theory.specs.Mapping as theory_mapping
use Rattle.theory.specs.Mapping.{IsMapping, Even, Bijective}
use Rattle.theory.specs.Sigma.{IsSigma}
use Rattle.theory.specs.Pi.{IsComponent, IsPi}
use Rattle.theory.specs.Query.{IsQuery}
use Rattle.theory.specs.Composition as theory_composition
use Rattle.theory.specs.Composition.{SameImages, SigmaIsomorphic}
use Rattle.theory.specs.Matching.{IsMatching}
use Rattle.meaning.specs.Lists.{sum_of}
use Rattle.meaning.specs.Schema.{Path, path, Schema, is_path, all_paths, has_loop, height}
use Rattle.meaning.specs.PathChain.{Step}
use Rattle.meaning.specs.Category.{Category, equal, listed_category}
use Rattle.meaning.specs.Sheet.{faulty, sound, on_sheet}
use Rattle.meaning.specs.Formats.{Mapping, Instance, read_mapping, read_instance, max_paths, max_rows, max_instance_bytes, max_mapping_bytes, kinds, mapping_sheet, instance_sheet, matching_sheet}
use Rattle.meaning.specs.Views.{Shaped, schema_of, node_image, edge_image, mapping_of, count, instance_of}
use Rattle.meaning.specs.Judge.{is_well_formed, has_few_paths, images_fit, keeps_equations, links_in_range, values_in_range, obeys_equations, judge_path, judge_schema, judge_mapping, judge_instance}
use Rattle.meaning.specs.Delta.{delta}
use Rattle.meaning.specs.Evenness.{even}
use Rattle.meaning.specs.Sigma.{sigma}
use Rattle.meaning.specs.Pi.{is_bijective, pi}
use Rattle.meaning.specs.Matching.{judge_matching}
use Rattle.meaning.specs.Calls.{Outcome, refused, accepted, ◌>>=◌, ensure_fits, check_schema, check_mapping, check_instance, path_question, path_chain, Migrated, delta_tables, sigma_tables, pi_tables, sheet_of, sides, raw_sheet, pushed_sheet, check_pushed, check_raw, pushed_to_raw, raw_to_pushed, in_tray}
use Rattle.meaning.specs.Query.{Query, migrate_query, query_tables}
use Rattle.meaning.specs.Rows.{read_row, added, withdrawn}
use Rattle.meaning.specs.Changes.{Run, judge_run, addition, Sheets, addition_sheets, withdrawal_sheets, in_trays, add_row, withdraw_row}
use Rattle.meaning.specs.Composition.{identity, Composable, compose}
use Rattle.meaning.specs.Program.{frames, push, dig}
use Rattle.agreement.specs.Paths.{WellFormed, SameStarts, Loop, IsHeight, EqualPaths, ListsPaths, Crowded}
use Rattle.agreement.specs.Categories.{IsCategory}
use Rattle.agreement.specs.PathChains.{StepsAgree, ChainsAgree, IsFirstChain, ChainAnswers}
use Rattle.agreement.specs.Tests.{Refusal, Tests, FailsAt, Pass, Decides}
use Rattle.agreement.specs.CallTests.{check_schema_tests, check_mapping_tests, check_instance_tests, path_question_tests, path_chain_tests, delta_tests, sigma_tests, pi_tests, query_tests, pushed_tests, raw_tests, addition_tests, withdrawal_tests, change_tests, compose_tests, tray_tests, sheet_tests, trays_tests, Result, Results}
use Rattle.agreement.specs.Valid.{ValidMapping, ValidInstance, InRange, ImagesFit, KeepsEquations, LinksIn, ValuesIn, OffScale, ObeysEquations}
use Rattle.agreement.specs.Agrees.{SchemaAgrees, PathAnswer, PathAnswers, Inputs, DeltaAgrees, DeltaAnswers, SigmaAgrees, SigmaAnswers, PiAgrees, PiAnswers}
use Rattle.agreement.specs.Query.{QueryInputs, QueryAgrees, QueryAnswers, cut_to_length, chained, SameResult}
use Rattle.agreement.specs.Changes.{RunAnswers, IsRow, row_sheet, Adds, RowTestsDecide, AdditionAnswers, Held, Withdraws, WithdrawalAnswers, ChangeAgrees, GivesBack}
use Rattle.agreement.specs.Composition.{mapping_f, mapping_g, ComposeInputs, ComposeAgrees}
use Rattle.agreement.specs.Demand3.{Accepts, meaning_answers, Provided, Clauses, AllRefuse}
use Rattle.migration.specs.Demand3.{Calls, MeetsContracts, answers, meaning_calls}
use Rattle.migration.specs.Encoding.{ExportsSay, ResultsWithin}

-- ---- Demand 1

pub record Demand1 : Type 1 where
  -- "the call ends with one result, or with one numbered refusal and the sheet's place, the number being the first that applies in a fixed order":
  -- where tests decide an outcome, it is refused exactly with the number and the place of the first test that fails, and accepted exactly where
  -- all pass; no other refusal occurs
  pub first-refusal : {A : Type 0} {rs : List Refusal} {t : Tests A rs} {o : Outcome A} → Decides t o
      → (r : Refusal) → (o ≡ refused r.0 r.1) ↔ ((i : ℕ) × FailsAt t i × (get_or rs i (0, 0) ≡ r))
  pub no_refusal : {A : Type 0} {rs : List Refusal} {t : Tests A rs} {o : Outcome A} → Decides t o → (a : A) → (o ≡ accepted a) ↔ Pass t a
  pub listed_refusals : {A : Type 0} {rs : List Refusal} {t : Tests A rs} {o : Outcome A} → Decides t o → (r : Refusal) → o ≡ refused r.0 r.1 → Memᴰ r rs
  -- and each call is decided by its tests, which stand in the order of document 01 (`agreement` specs/CallTests.antt)
  pub check-schema : (s : List ℕ) → Decides (check_schema_tests s) (check_schema s)
  pub check-mapping : (s t f : List ℕ) → Decides (check_mapping_tests s t f) (check_mapping s t f)
  pub check-instance : (s i : List ℕ) → Decides (check_instance_tests s i) (check_instance s i)
  pub delta : (s t f j tray : List ℕ) → Decides (sheet_tests tray (delta_tests s t f j)) (in_tray tray (sheet_of (delta_tables s t f j))).answer
  pub sigma : (s t f i tray : List ℕ) → Decides (sheet_tests tray (sigma_tests s t f i)) (in_tray tray (sheet_of (sigma_tables s t f i))).answer
  pub pi : (s t f i tray : List ℕ) → Decides (sheet_tests tray (pi_tests s t f i)) (in_tray tray (sheet_of (pi_tables s t f i))).answer
  pub check-pushed : (s t f i j k : List ℕ) → Decides (pushed_tests s t f i j k (λ x l. tt)) (check_pushed s t f i j k)
  pub check-raw : (s t f i j k : List ℕ) → Decides (raw_tests s t f i j k (λ x l. tt)) (check_raw s t f i j k)
  pub pushed-to-raw : (s t f i j k tray : List ℕ) → Decides (tray_tests tray (pushed_tests s t f i j k raw_sheet)) (in_tray tray (pushed_to_raw s t f i j k)).answer
  pub raw-to-pushed : (s t f i j k tray : List ℕ) → Decides (tray_tests tray (raw_tests s t f i j k pushed_sheet)) (in_tray tray (raw_to_pushed s t f i j k)).answer
  -- "a refused call changes no lent byte": no byte of the tray; sheets are lent to be read only
  pub tray_kept : (tray : List ℕ) (o : Outcome (List ℕ)) {n place : ℕ} → (in_tray tray o).answer ≡ refused n place → (in_tray tray o).tray ≡ tray
  -- "An accepted result gives its byte length; bytes beyond it keep their values"
  pub tray_result : (tray : List ℕ) (o : Outcome (List ℕ)) {n : ℕ} → (in_tray tray o).answer ≡ accepted n → Result tray o n

-- ---- Demand 2

pub record Demand2 : Type 1 where
  -- "Path equality": of an accepted schema, with first paths and heights; the answers of the path question are those of C-14
  pub schema_agrees : (s : List ℕ) {S : Schema} → judge_schema s ≡ sound S → SchemaAgrees S
  -- "the check of schemas": 4 is passed exactly by the theory's schemas whose equations have one start on both sides, and by the theory's paths
  pub test_4 : (S : Schema) → (is_well_formed S ≡ true) ↔ (IsSchema (schema_of S) × SameStarts S)
  pub test_4_path : (S : Schema) → is_well_formed S ≡ true → (n : ℕ) (p : List ℕ) → (is_path S.graph (path n p) ≡ true) ↔ IsPath (schema_of S) n p
  -- 5 is given exactly for a loop; exactly without one there are heights, and no others than `height`
  pub test_5 : (S : Schema) → is_well_formed S ≡ true → (has_loop S.graph ≡ true) ↔ Loop (schema_of S)
  pub heights_exist : (S : Schema) → is_well_formed S ≡ true → (has_loop S.graph ≡ false) ↔ ((h : ℕ → ℕ) × IsHeight S.graph h)
  pub heights_one : (S : Schema) → is_well_formed S ≡ true → {h : ℕ → ℕ} → IsHeight S.graph h → has_loop S.graph ≡ false → (n : ℕ) → n < S.graph.nodes → h n ≡ height S.graph n
  -- 6: of a well-formed schema without a loop the list of all paths is complete, and 6 is given exactly where it is longer than 256
  pub test_6 : (S : Schema) → WellFormed S → ListsPaths S × ((has_few_paths S.graph ≡ true) ↔ (length (all_paths S.graph) ≤ max_paths))
  pub refusal_6 : (s : List ℕ) → (judge_schema s ≡ faulty 6) ↔ ((S : Schema) × Crowded s S)
  -- the check of "mappings": 7, then 8, of a sheet that reads as F; one that passes respects all path equalities, and not the equations alone.
  -- This and what follows from it holds in any category; that each well-formed schema without a loop presents one is `presented` of C-14
  pub test_7 : (S T : Category) → IsCategory S → IsCategory T → (f : List ℕ) {F : Mapping} → on_sheet (read_mapping S.schema) f ≡ sound F
      → (images_fit S.schema T.schema F ≡ true) ↔ ImagesFit (mapping_of S.schema T.schema F)
  pub test_8 : (S T : Category) → IsCategory S → IsCategory T → (f : List ℕ) {F : Mapping} → on_sheet (read_mapping S.schema) f ≡ sound F
      → images_fit S.schema T.schema F ≡ true → (keeps_equations S T F ≡ true) ↔ KeepsEquations (mapping_of S.schema T.schema F)
  pub mapping_accepted : (s t f : List ℕ) {S T : Schema} {F : Mapping} → judge_schema s ≡ sound S → judge_schema t ≡ sound T → judge_mapping (listed_category S) (listed_category T) f ≡ sound F
      → ValidMapping (listed_category S) (listed_category T) F
  pub equal_images : {S T : Category} {F : Mapping} → ValidMapping S T F → (n : ℕ) {p q : List ℕ} → Chain (schema_of S.schema) n p q → IsPath (schema_of S.schema) n p
      → Chain (schema_of T.schema) (node_image F n) (theory_mapping.image (edge_image F) p) (theory_mapping.image (edge_image F) q)
  -- the check of "tables": 9, 10 and 11, of a sheet that reads as I; accepted are exactly the whole sheets of valid instances
  pub test_9 : (S : Schema) (i : List ℕ) {I : Instance} → on_sheet (read_instance S) i ≡ sound I → (links_in_range S I ≡ true) ↔ LinksIn (schema_of S) (instance_of I)
  pub test_10 : (S : Schema) (i : List ℕ) {I : Instance} → on_sheet (read_instance S) i ≡ sound I → (values_in_range kinds S I ≡ true) ↔ ValuesIn kinds (schema_of S) (instance_of I)
  pub test_11 : (S : Schema) (i : List ℕ) {I : Instance} → on_sheet (read_instance S) i ≡ sound I → (obeys_equations S I ≡ true) ↔ ObeysEquations (schema_of S) (instance_of I)
  pub instance_accepted : (S : Schema) (i : List ℕ) → Bytes i → ((I : Instance) × (judge_instance S i ≡ sound I)) ↔ ((I : Instance) × ValidInstance S I × (i ≡ instance_sheet I))
  -- "the migrated tables of Delta, Sigma and Pi" are the theory's, valid, and are read back from their own sheets; "every migrated table obeys all
  -- path equations of its schema"
  pub delta_agrees : (s t f j : List ℕ) {M : Migrated} → delta_tables s t f j ≡ accepted M → DeltaAgrees s t f j M
  pub sigma_agrees : (s t f i : List ℕ) {M : Migrated} → sigma_tables s t f i ≡ accepted M → SigmaAgrees s t f i M
  pub pi_agrees : (s t f i : List ℕ) {M : Migrated} → pi_tables s t f i ≡ accepted M → PiAgrees s t f i M
  -- no other tables are Sigma's or Pi's
  pub sigma_one : {F : theory_mapping.Mapping} → IsMapping F → Even F → {I P Q : theory.Instance ℕ} → IsSigma F I P → IsSigma F I Q → Alike F.T P Q
  pub pi_one : {F : theory_mapping.Mapping} {I P Q : theory.Instance ℕ} → IsMapping F → Bijective F → IsPi F I P → IsPi F I Q → Alike F.T P Q
  pub pi-tables : {S T : Category} {F : Mapping} → ValidMapping S T F → (I : Instance) → Bijective (mapping_of S.schema T.schema F)
      → (J : Instance) → Shaped T.schema J → IsPi (mapping_of S.schema T.schema F) (instance_of I) (instance_of J) → J ≡ pi S T F I
  -- "Without components there is exactly 1 row"
  pub pi_single : {S T : Category} {F : Mapping} → ValidMapping S T F → (I : Instance) (d : ℕ) → d < T.schema.graph.nodes
      → ((k : ℕ × List ℕ) → IsComponent (mapping_of S.schema T.schema F) d k → ⊥) → count (pi S T F I) d ≡ 1
  -- "nothing is refused outside the listed conditions": on accepted sheets, 15 of Delta, 12 of Sigma, 13, 14 and 15 of Pi
  pub delta_answers : (s t f j : List ℕ) {S T : Schema} {F : Mapping} {J : Instance} → Inputs s t f j S T T F J → DeltaAnswers s t f j (mapping_of S T F) (instance_of J)
  pub sigma_answers : (s t f i : List ℕ) {S T : Schema} {F : Mapping} {I : Instance} → Inputs s t f i S T S F I → SigmaAnswers s t f i (mapping_of S T F)
  pub pi_answers : (s t f i : List ℕ) {S T : Schema} {F : Mapping} {I : Instance} → Inputs s t f i S T S F I → PiAnswers s t f i (mapping_of S T F) (instance_of I)
  -- the tests 12 and 13 by themselves, and that Sigma is never overfull, in the matching calls too
  pub test_12 : {S T : Category} {F : Mapping} → ValidMapping S T F → (even S T F ≡ true) ↔ Even (mapping_of S.schema T.schema F)
  pub test_13 : {S T : Category} {F : Mapping} → ValidMapping S T F → (is_bijective T.schema F ≡ true) ↔ Bijective (mapping_of S.schema T.schema F)
  pub sigma_fits : {S T : Category} {F : Mapping} → ValidMapping S T F → Even (mapping_of S.schema T.schema F) → {I : Instance} → ValidInstance S.schema I
      → ensure_fits (sigma S T F I) ≡ accepted (sigma S T F I)
  -- 17: "a list is a matching if it is the whole sheet of one"
  pub test_17 : (S : Schema) (A B : Instance) → Shaped S A → sum_of B.counts ≤ max_rows → (k : List ℕ) → Bytes k
      → ((l : List ℕ) × (judge_matching S A B k ≡ sound l)) ↔ ((l : List ℕ) × IsMatching (schema_of S) (instance_of A) (instance_of B) l × (k ≡ matching_sheet l))

-- ---- Demand 3

pub record Demand-3 : Type 1 where
  -- "each checker accepts a list exactly when it is a matching of its side; each turning takes exactly the matchings of the side it starts from and
  -- turns each into one matching of the other side; each matching there comes from exactly one here; turning the result back gives the first list
  -- again, byte for byte; and each raw row meets the same book row on both sides": one clause each (`agreement` specs/Demand3.antt), under the provisos
  pub of_meanings : {s t f i j : List ℕ} (x : Provided s t f i j) → Clauses x (meaning_answers s t f i j)
  -- the provisos hold exactly where the tests before the matching sheet are passed; they can be met; where one fails all four calls refuse
  pub provisos : (s t f i j : List ℕ) → Provided s t f i j ↔ Accepts (sides s t f i j)
  pub provisos_met : (s : List ℕ) × (t : List ℕ) × (f : List ℕ) × (i : List ℕ) × (j : List ℕ) × Provided s t f i j
  pub otherwise_refused : (s t f i j : List ℕ) → (Provided s t f i j → ⊥) → AllRefuse (meaning_answers s t f i j)
  -- the same of the public calls: of whatever meets their contracts, asked of all lists of numbers; of those that are no bytes, which nobody can
  -- lend, take the answers of the meanings, which meet the contracts too
  pub of_calls : {c : Calls} → MeetsContracts c → {s t f i j : List ℕ} (x : Provided s t f i j) → Clauses x (answers c s t f i j)
  pub calls_refuse : {c : Calls} → MeetsContracts c → (s t f i j : List ℕ) → (Provided s t f i j → ⊥) → AllRefuse (answers c s t f i j)
  pub meanings_meet : MeetsContracts meaning_calls

-- ---- Document 02, C-11: which rules made these paths equal

pub record C11 : Type 0 where
  -- the order of refusals: the schema, the first path, the second path, last 16; what a tray is left as is Demand-1's
  pub path-chain : (s p q tray : List ℕ) → Decides (tray_tests tray (path_chain_tests s p q)) (in_tray tray (path_chain s p q)).answer
  -- "each step names the equation, the direction (0 left side to right, 1 back) and the number of edges before the replaced part": numbers make one
  -- path of another exactly where they name a step of the theory between them
  pub steps_agree : (s : List ℕ) {S : Schema} → judge_schema s ≡ sound S → StepsAgree S
  -- "the order of its numbers": all chains of so many steps, in the order of all their numbers in a row
  pub chains_agree : (S : Schema) → ChainsAgree S
  -- "For two equal paths they want the chain from the first lent path to the second"; "The chain has the fewest steps possible, at most 255, and among
  -- those is the first in the order of its numbers. Unequal paths give "none", and that is given in no other case": none is the answer 0, in whatever
  -- tray; how a chain "is written" is `meaning` specs/Formats.antt, from which it is read back
  pub chain_answers : (s p q : List ℕ) {S : Schema} {P Q : Path} → judge_schema s ≡ sound S → judge_path S.graph p ≡ sound P → judge_path S.graph q ≡ sound Q
      → ChainAnswers s p q S P Q
  -- no other chain is the first
  pub chain_one : (s : List ℕ) {S : Schema} → judge_schema s ≡ sound S → {p q : Path} {c d : List Step} → IsFirstChain S p q c → IsFirstChain S p q d → c ≡ d

-- ---- Document 02, C-12: twelve o'clock is 720

pub record C12 : Type 0 where
  -- "Kind 2 therefore runs from 1 to 720"; every other kind has 0, as before
  pub clock : (v : ℕ) → InRange kinds 2 v ↔ ((1 ≤ v) × (v ≤ 720))
  pub others_have_zero : (k : ℕ) → (k ≡ 2 → ⊥) → InRange kinds k 0
  -- "A kind now has a smallest value as well as a largest, and 10 is given below the one or above the other": exactly then, of a sheet that reads as
  -- an instance and passes 9
  pub refusal_10 : (S : Schema) (i : List ℕ) → (judge_instance S i ≡ faulty 10) ↔ ((I : Instance) × OffScale S i I)

-- ---- Document 02, C-14: the first path of a class

pub record C14 : Type 0 where
  -- the order of refusals: the schema, the path, last 16; what a tray is left as is Demand-1's
  pub first-path : (s p tray : List ℕ) → Decides (tray_tests tray (path_question_tests s p)) (in_tray tray (path_question s p)).answer
  -- "The path question now takes one path and yields, as a path sheet, the first path equal to it in document 01's order"
  pub path_answer : (s p : List ℕ) {S : Schema} {P : Path} → judge_schema s ≡ sound S → judge_path S.graph p ≡ sound P → PathAnswer s p S P
  -- "two paths are equal by document 01's chains exactly when these answers are the same"; and "none" of C-11 is given exactly when they are not
  pub path_answers : (s p q : List ℕ) {S : Schema} {P Q : Path} → judge_schema s ≡ sound S → judge_path S.graph p ≡ sound P → judge_path S.graph q ≡ sound Q
      → PathAnswers s p q S P Q
  -- "Everything that relied on the yes or no (mapping check, evenness, components) uses the new answer": these take a category, which tells of equality
  -- the first paths alone (`meaning` specs/Category.antt); by them two paths are found equal exactly where a chain joins them
  pub presented : (S : Schema) → WellFormed S → IsCategory (listed_category S)
  pub equality : {C : Category} → IsCategory C → (p q : Path) → IsPath (schema_of C.schema) p.start p.edges → IsPath (schema_of C.schema) q.start q.edges
      → (equal C p q ≡ true) ↔ EqualPaths C.schema p q

-- ---- Document 02, C-15: the dig sheet

pub record C15 : Type 1 where
  -- "Sheets are judged schemas first, then F, G, H, then the run; then 13 and 14 for G, 12 for H, and 15 after each migration in turn": places 1 to 4 the
  -- schemas, 5 F, 6 G, 7 H, 8 the run; then at place 0; last 16; what a tray is left as is Demand-1's
  pub query : (s1 s2 s3 s4 f g h i tray : List ℕ)
      → Decides (sheet_tests tray (query_tests s1 s2 s3 s4 f g h i)) (in_tray tray (sheet_of (query_tables s1 s2 s3 s4 f g h i))).answer
  -- it "gives Sigma along H of Pi along G of Delta along F, as in definition 2 of source document 000"; each intermediate table is an accepted instance
  -- of its schema
  pub query_agrees : (s1 s2 s3 s4 f g h i : List ℕ) {M : Migrated} → query_tables s1 s2 s3 s4 f g h i ≡ accepted M → QueryAgrees s1 s2 s3 s4 f g h i M
  -- no other tables are this query's: "F goes from the second schema to the first, G from the second to the third, H from the third to the fourth"
  pub query_one : {F G H : theory_mapping.Mapping} {I D P Q D' P' R : theory.Instance ℕ} → IsMapping G → IsMapping H → G.S ≡ F.S → H.S ≡ G.T → Bijective G → Even H
      → IsQuery F G H I D P Q → IsQuery F G H I D' P' R → Alike H.T Q R
  -- "13 and 14 for G, 12 for H, and 15 after each migration in turn": which of them, or a result, on accepted sheets, by what the theory has
  pub query_answers : (s1 s2 s3 s4 f g h i : List ℕ) {q : Query} {I : Instance} → QueryInputs s1 s2 s3 s4 f g h i q I
      → QueryAnswers s1 s2 s3 s4 f g h i q (instance_of I)
  -- 15 of Sigma's never arises: with its test left out the migrations give the same
  pub sigma_fits : {s1 s2 s3 s4 f g h i : List ℕ} {q : Query} {I : Instance} → QueryInputs s1 s2 s3 s4 f g h i q I
      → is_bijective q.S3 q.G ≡ true → even (listed_category q.S3) (listed_category q.S4) q.H ≡ true
      → migrate_query q I ≡ (do
        D ← ensure_fits (delta q.S2 q.F I)
        P ← ensure_fits (pi (listed_category q.S2) (listed_category q.S3) q.G D)
        accepted (record { schema = q.S4; tables = sigma (listed_category q.S3) (listed_category q.S4) q.H P }))
  -- "What it prints is the three definitions applied one after the other": lent the same tray as the last, the call accepts exactly where the three public
  -- calls do, chained through results cut to their length (the first two trays of the header's instance bytes), and writes the same bytes; which refusal
  -- is given may differ
  pub chained : (s1 s2 s3 s4 f g h i first second tray : List ℕ) → max_instance_bytes ≤ length first → max_instance_bytes ≤ length second
      → SameResult (in_tray tray (sheet_of (query_tables s1 s2 s3 s4 f g h i))) (chained s1 s2 s3 s4 f g h i first second tray)

-- ---- Document 02, C-16: rows that come and go

pub record C16 : Type 0 where
  -- "S, T, mapping, run and 12 are judged first. The tests on an added row are 1, 2, 9, 10, 11, 15 in that order ..; 16, for either tray, comes last in both
  -- changes"; "18, absent, .. before all other tests of the change; 19, still held, .. after 18; the tests of the change itself have place 0": places 1 to 4,
  -- then at place 0; "the run in a tray with its byte length (one beyond the tray means the whole tray)" is `take n run`
  pub add-row : (s t f run : List ℕ) (n c : ℕ) (row pushed : List ℕ)
      → Decides (trays_tests run pushed (change_tests s t f (take n run) (λ x. addition_tests x c row))) (add_row s t f run n c row pushed).answer
  pub withdraw-row : (s t f run : List ℕ) (n c r : ℕ) (pushed : List ℕ)
      → Decides (trays_tests run pushed (change_tests s t f (take n run) (λ x. withdrawal_tests x c r))) (withdraw_row s t f run n c r pushed).answer
  -- "a refused change leaves run and pushed sheet unchanged": no byte of either tray, of whatever is put into them, as both calls put their sheets
  pub trays_kept : (run pushed : List ℕ) (o : Outcome Sheets) {n place : ℕ} → (in_trays run pushed o).answer ≡ refused n place
      → ((in_trays run pushed o).run ≡ run) × ((in_trays run pushed o).pushed ≡ pushed)
  -- an accepted change gives both byte lengths; bytes beyond each result keep their values
  pub trays_result : (run pushed : List ℕ) (o : Outcome Sheets) {n k : ℕ} → (in_trays run pushed o).answer ≡ accepted (n, k) → Results run pushed o n k
  -- "the pushed tray, whose old bytes are not read": the answer and the run's tray depend on its length alone
  pub add_row_unread : (s t f run : List ℕ) (n c : ℕ) (row p q : List ℕ) → length p ≡ length q
      → ((add_row s t f run n c row p).answer ≡ (add_row s t f run n c row q).answer) × ((add_row s t f run n c row p).run ≡ (add_row s t f run n c row q).run)
  pub withdraw_row_unread : (s t f run : List ℕ) (n c r : ℕ) (p q : List ℕ) → length p ≡ length q
      → ((withdraw_row s t f run n c r p).answer ≡ (withdraw_row s t f run n c r q).answer) × ((withdraw_row s t f run n c r p).run ≡ (withdraw_row s t f run n c r q).run)
  -- on accepted sheets 12 is given exactly where the mapping is not even
  pub run_answers : (s t f i : List ℕ) {S T : Schema} {F : Mapping} {I : Instance} → Inputs s t f i S T S F I → RunAnswers s t f i S T F I
  -- "18, absent, the named table or row does not exist"
  pub table_absent : (x : Run) (c : ℕ) (row : List ℕ) → (addition x.m.S x.tables c row ≡ refused 18 0) ↔ (c < x.m.S.graph.nodes → ⊥)
  -- "an added row as a sheet (links 9 bits, then values)"
  pub row-sheet : (S : Schema) → WellFormed S → (c : ℕ) → c < S.graph.nodes → (row : List ℕ) → Bytes row → (R : Instance)
      → (on_sheet (read_row S c) row ≡ sound R) ↔ (IsRow S c R × (row ≡ row_sheet S c R))
  -- "Adding puts a row at its table's end with its links and values"; no other tables are I with the row added
  pub adds : (s i : List ℕ) {S : Schema} {I : Instance} → judge_schema s ≡ sound S → judge_instance S i ≡ sound I → (c : ℕ) → c < S.graph.nodes
      → {R : Instance} → IsRow S c R → Adds S I c R (added S I R)
  pub adds_one : {S : Schema} → WellFormed S → (I : Instance) (c : ℕ) (R : Instance) {J K : Instance} → Adds S I c R J → Adds S I c R K → J ≡ K
  -- the tests 9, 10 and 11 are those of the new row, and no other row can fail them; with 15 they are given exactly where the changed tables would be no
  -- accepted instance of S
  pub row_tests : (s i : List ℕ) {S : Schema} {I : Instance} → judge_schema s ≡ sound S → judge_instance S i ≡ sound I → (c : ℕ) → c < S.graph.nodes
      → {R : Instance} → IsRow S c R → RowTestsDecide S I c R
  pub addition_answers : (s t f i : List ℕ) {x : Run} → judge_run s t f i ≡ accepted x → (c : ℕ) → c < x.m.S.graph.nodes
      → (row : List ℕ) {R : Instance} → on_sheet (read_row x.m.S c) row ≡ sound R → AdditionAnswers x c row (added x.m.S x.tables R)
  -- "withdrawing takes a row out and moves later rows of that table down by one, links included"; no other tables are I without the row
  pub withdraws : (s i : List ℕ) {S : Schema} {I : Instance} → judge_schema s ≡ sound S → judge_instance S i ≡ sound I → (c x : ℕ) → c < S.graph.nodes → x < count I c
      → (Held S I c x → ⊥) → Withdraws S I c x (withdrawn S I c x)
  pub withdraws_one : {S : Schema} → WellFormed S → (I : Instance) (c x : ℕ) {J K : Instance} → Withdraws S I c x J → Withdraws S I c x K → J ≡ K
  -- "the named table or row does not exist"; "a row to be withdrawn that another row links to"; and no withdrawal is refused beyond these and 16
  pub withdrawal_answers : (s t f i : List ℕ) {x : Run} → judge_run s t f i ≡ accepted x → (c r : ℕ) → WithdrawalAnswers x c r
  -- "After each accepted change the pushed sheet equals a fresh Sigma of the changed run, and matchings are compared for the run as it then is"
  pub row_added : (s t f i : List ℕ) (c : ℕ) (row : List ℕ) {w : Sheets} → addition_sheets s t f i c row ≡ accepted w
      → (x : ChangeAgrees s t f i w) × (R : Instance) × (c < x.S.graph.nodes) × (on_sheet (read_row x.S c) row ≡ sound R) × Adds x.S x.before c R x.after
  pub row_withdrawn : (s t f i : List ℕ) (c r : ℕ) {w : Sheets} → withdrawal_sheets s t f i c r ≡ accepted w
      → (x : ChangeAgrees s t f i w) × (c < x.S.graph.nodes) × (r < count x.before c) × (Held x.S x.before c r → ⊥) × Withdraws x.S x.before c r x.after
  -- withdrawing the row just added gives the first run's sheet and length back, byte for byte
  pub gives_back : (s t f run : List ℕ) (n c : ℕ) (row pushed : List ℕ) → Bytes run → {a b : ℕ} → (add_row s t f run n c row pushed).answer ≡ accepted (a, b)
      → GivesBack s t f run n c row pushed a

-- ---- Document 02, C-17: two hops or one

pub record C17 : Type 0 where
  -- "The composing call is lent S, T, U, F, G, judged in that order": places 1 to 5, last 16; what a tray is left as is Demand-1's
  pub compose_decided : (s t u f g tray : List ℕ) → Decides (tray_tests tray (compose_tests s t u f g)) (in_tray tray (compose s t u f g)).answer
  -- accepted sheets are composed: no other refusal
  pub composed : (s t u f g : List ℕ) {x : Composable} → ComposeInputs s t u f g x → (h : List ℕ) × (compose s t u f g ≡ accepted h)
  -- "For mappings F from S to T and G from T to U, provide the composed mapping, each edge going to its image path's images joined": an accepted mapping
  -- from S to U, even where F and G are; Delta along it is Delta along G and then F
  pub compose_agrees : (s t u f g : List ℕ) {h : List ℕ} → compose s t u f g ≡ accepted h → ComposeAgrees s t u f g h
  -- no other sheet has these images; and the header's bytes hold every mapping sheet
  pub mapping_one : {S T : Schema} {F G : Mapping} (f g : List ℕ) → Bytes f → Bytes g → judge_mapping (listed_category S) (listed_category T) f ≡ sound F
      → judge_mapping (listed_category S) (listed_category T) g ≡ sound G → SameImages (mapping_of S T F) (mapping_of S T G) → f ≡ g
  pub mapping_within : (s t f : List ℕ) {S T : Schema} {F : Mapping} → Bytes f → judge_schema s ≡ sound S → judge_schema t ≡ sound T
      → judge_mapping (listed_category S) (listed_category T) f ≡ sound F → length f ≤ max_mapping_bytes
  -- "Where all three Delta results are accepted, pulling a book back along the composition and pulling it back along G and then F give the same sheet bytes":
  -- where composing and Delta along G are accepted, with results cut to their length, Delta along the first's result and Delta along F of the second's give the
  -- same answer and leave the same tray
  pub delta_composite : (s t u f g j : List ℕ) {h d : List ℕ} (first second tray : List ℕ) → cut_to_length (in_tray first (compose s t u f g)) ≡ accepted h
      → cut_to_length (in_tray second (sheet_of (delta_tables t u g j))) ≡ accepted d → in_tray tray (sheet_of (delta_tables s u h j)) ≡ in_tray tray (sheet_of (delta_tables s t f d))
  -- three hops in either grouping, byte for byte
  pub associative : (s t u v f g k : List ℕ) {h l : List ℕ} → compose s t u f g ≡ accepted h → compose t u v g k ≡ accepted l → compose s u v h k ≡ compose s t v f l
  -- the identity mapping is accepted, and composing with it on either side gives a mapping sheet back, byte for byte
  pub identity_accepted : (s : List ℕ) {S : Schema} → judge_schema s ≡ sound S → (judge_mapping (listed_category S) (listed_category S) (mapping_sheet (identity S)) ≡ sound (identity S))
      × SameImages (theory_composition.identity (schema_of S)) (mapping_of S S (identity S))
  pub identity_first : (s t f : List ℕ) {S T : Schema} {F : Mapping} → Bytes f → judge_schema s ≡ sound S → judge_schema t ≡ sound T
      → judge_mapping (listed_category S) (listed_category T) f ≡ sound F → compose s s t (mapping_sheet (identity S)) f ≡ accepted f
  pub identity_last : (s t f : List ℕ) {S T : Schema} {F : Mapping} → Bytes f → judge_schema s ≡ sound S → judge_schema t ≡ sound T
      → judge_mapping (listed_category S) (listed_category T) f ≡ sound F → compose s t t f (mapping_sheet (identity T)) ≡ accepted f
  -- beyond the request: where Sigma along F and then G is accepted, so is Sigma along the composition, and the two are isomorphic: they have the same rows, in
  -- another order, and those that come from one row of the run correspond
  pub sigma_isomorphic : (s t u f g i : List ℕ) {x : Composable} {I : Instance} {h : List ℕ} {P R : Migrated} → ComposeInputs s t u f g x → judge_instance x.S i ≡ sound I
      → compose s t u f g ≡ accepted h → sigma_tables s t f i ≡ accepted P → sigma_tables t u g (instance_sheet P.tables) ≡ accepted R
      → (Q : Migrated) × (sigma_tables s u h i ≡ accepted Q) × SigmaIsomorphic (mapping_f x) (mapping_g x) (instance_of I) (instance_of P.tables) (instance_of Q.tables) (instance_of R.tables)

-- ---- The programs push and dig

pub record Program : Type 0 where
  -- "bytes after the fourth sheet are not read": what is printed depends on the first four sheets alone; that no other byte is taken from the input is
  -- the contract of `input` `read_sheets`, from the bytes read to the text printed that of `migration` `push`, and of `query` `dig`
  pub push_frames : (input : List ℕ) → push (frames 4 input) ≡ push input
  -- dig "reads its eight sheets as the push program does": what it prints depends on the first eight alone
  pub dig_frames : (input : List ℕ) → dig (frames 8 input) ≡ dig input

-- ---- The C header

pub record Header : Type 0 where
  -- the number that an export gives by its contract, taken apart as include/migration.h does, is the call's outcome
  pub exports_say : ExportsSay
  -- a tray of the header's byte lengths holds every result
  pub results_within : ResultsWithin
