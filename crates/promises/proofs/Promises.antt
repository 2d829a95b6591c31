-- Each promise of specs/Promises.antt, by the law that proves it.
use lib.ListN.{length}
use borrow.Author.Tests.{leb-true, le-leb}
use Rattle.theory.proofs.Mapping.{image-chain}
use Rattle.theory.proofs.Sigma.{sigma_one}
use Rattle.theory.proofs.Pi.{pi_one}
use Rattle.theory.proofs.Query.{query_one}
use Rattle.meaning.specs.Schema.{all_paths}
use Rattle.meaning.specs.Formats.{max_paths, kinds}
use Rattle.meaning.proofs.Facts.{schema-facts, mapping-sized, instance-shaped}
use Rattle.meaning.proofs.Examples.{vendor, operator, vendor_to_operator, run, book}
use Rattle.agreement.proofs.Paths.{schema-iff, path-iff, paths-listed}
use Rattle.agreement.proofs.Loops.{loop-iff, height-iff, height-one}
use Rattle.agreement.proofs.Steps.{steps_agree}
use Rattle.agreement.proofs.FirstChains.{chains_agree, first-chain-one}
use Rattle.agreement.proofs.Categories.{equal-paths-iff, schema-well-formed, listed-category}
use Rattle.agreement.proofs.Mappings.{images-iff, keeps-iff}
use Rattle.agreement.proofs.Ranges.{zero_in}
use Rattle.agreement.proofs.Instances.{links-iff, values-iff, equations-iff}
use Rattle.agreement.proofs.Tests.{refused-iff, accepted-iff, refused-in}
use Rattle.agreement.proofs.Refusals.{crowd-iff, off-scale-iff}
use Rattle.agreement.proofs.Outcomes.{check_schema-decided, check_mapping-decided, check_instance-decided, path_question-answer, path_chain-answer, delta-answer, sigma-answer, pi-answer, query-answer, check_pushed-decided, check_raw-decided, pushed_to_raw-answer, raw_to_pushed-answer, refused-tray, accepted-tray}
use Rattle.agreement.proofs.ChangeTests.{add_row-answer, withdraw_row-answer, refused-trays, accepted-trays, add_row_unread, withdraw_row_unread}
use Rattle.agreement.proofs.Valid.{mapping-valid, instance-valid, instance-accepted-iff}
use Rattle.agreement.proofs.Evenness.{even-iff}
use Rattle.agreement.proofs.Sigma.{sigma-never-overfull}
use Rattle.agreement.proofs.Bijections.{bijective-iff}
use Rattle.agreement.proofs.Pi.{pi-tables, pi_single}
use Rattle.agreement.proofs.AcceptedSheets.{path_answer, path_answers, chain_answers, delta_answers, sigma_answers, pi_answers}
use Rattle.agreement.proofs.Matchings.{judge_matching-iff}
use Rattle.agreement.proofs.Agrees.{schema_agrees, delta_agrees, sigma_agrees, pi_agrees}
use Rattle.agreement.proofs.Query.{query_agrees, query-sigma-fits, query_answers}
use Rattle.agreement.proofs.Chained.{query-chained}
use Rattle.agreement.proofs.Rows.{row-tests-decide, adds-table, adds_one}
use Rattle.agreement.proofs.RowSheets.{row-sheet-iff}
use Rattle.agreement.proofs.Withdrawals.{withdraws-table, withdraws_one}
use Rattle.agreement.proofs.Demand3.{demand3, provided-iff, unprovided-refused, case3-provided}
use Rattle.agreement.proofs.Changes.{run_answers, table_absent, addition_answers, withdrawal_answers, row_added, row_withdrawn}
use Rattle.agreement.proofs.GivesBack.{gives_back}
use Rattle.agreement.proofs.Composition.{mapping_one, mapping_within}
use Rattle.agreement.proofs.ComposeCall.{compose-answer, composed, compose_agrees, compose-delta, compose-associative, identity_accepted, compose-identity-first, compose-identity-last, sigma_isomorphic}
use Rattle.agreement.proofs.Framing.{push_frames, dig_frames}
use Rattle.migration.proofs.Demand3.{calls-demand3, calls_refuse, meanings_meet}
use Rattle.migration.proofs.Encoding.{exports_say, results_within}
use Rattle.promises.specs.Promises.{Demand1, Demand2, Demand-3, C11, C12, C14, C15, C16, C17, Program, Header}

pub demand-1 : Demand1
demand-1 = record {
  first-refusal = refused-iff;
  no_refusal = accepted-iff;
  listed_refusals = refused-in;
  check-schema = check_schema-decided;
  check-mapping = check_mapping-decided;
  check-instance = check_instance-decided;
  delta = λ s t f j tray. delta-answer tray s t f j;
  sigma = λ s t f i tray. sigma-answer tray s t f i;
  pi = λ s t f i tray. pi-answer tray s t f i;
  check-pushed = check_pushed-decided;
  check-raw = check_raw-decided;
  pushed-to-raw = λ s t f i j k tray. pushed_to_raw-answer tray s t f i j k;
  raw-to-pushed = λ s t f i j k tray. raw_to_pushed-answer tray s t f i j k;
  tray_kept = refused-tray;
  tray_result = accepted-tray;
}

pub demand-2 : Demand2
demand-2 = record {
  schema_agrees = schema_agrees;
  test_4 = schema-iff;
  test_4_path = path-iff;
  test_5 = loop-iff;
  heights_exist = height-iff;
  heights_one = height-one;
  test_6 = λ S wf. (paths-listed S wf, (leb-true (length (all_paths S.graph)) max_paths, le-leb (length (all_paths S.graph)) max_paths));
  refusal_6 = crowd-iff;
  test_7 = λ S T s t f {F} e. images-iff S T F s t (mapping-sized S.schema f e);
  test_8 = λ S T s t f {F} e. keeps-iff S T F s t (mapping-sized S.schema f e);
  mapping_accepted = mapping-valid;
  equal_images = λ v. image-chain v.is;
  test_9 = λ S i {I} e. links-iff kinds S I (instance-shaped S i e);
  test_10 = λ S i {I} e. values-iff kinds S I (instance-shaped S i e);
  test_11 = λ S i {I} e. equations-iff kinds S I (instance-shaped S i e);
  instance_accepted = instance-accepted-iff;
  delta_agrees = delta_agrees;
  sigma_agrees = sigma_agrees;
  pi_agrees = pi_agrees;
  sigma_one = sigma_one;
  pi_one = pi_one;
  pi-tables = λ v I paired. pi-tables v I paired;
  pi_single = pi_single;
  delta_answers = delta_answers;
  sigma_answers = sigma_answers;
  pi_answers = pi_answers;
  test_12 = even-iff;
  test_13 = bijective-iff;
  sigma_fits = λ v even w. sigma-never-overfull v even w;
  test_17 = judge_matching-iff;
}

pub demand-3 : Demand-3
demand-3 = record {
  of_meanings = demand3;
  provisos = provided-iff;
  provisos_met = (vendor, operator, vendor_to_operator, run, book, case3-provided);
  otherwise_refused = unprovided-refused;
  of_calls = calls-demand3;
  calls_refuse = calls_refuse;
  meanings_meet = meanings_meet;
}

pub c-11 : C11
c-11 = record {
  path-chain = λ s p q tray. path_chain-answer tray s p q;
  steps_agree = λ s {S} e. steps_agree S (schema-well-formed (schema-facts s e));
  chains_agree = chains_agree;
  chain_answers = chain_answers;
  chain_one = λ s {S} e. first-chain-one S (schema-well-formed (schema-facts s e));
}

pub c-12 : C12
c-12 = record { clock = λ v. (λ is. is, λ is. is); others_have_zero = zero_in; refusal_10 = off-scale-iff }

pub c-14 : C14
c-14 = record {
  first-path = λ s p tray. path_question-answer tray s p;
  path_answer = path_answer;
  path_answers = path_answers;
  presented = listed-category;
  equality = equal-paths-iff;
}

pub c-15 : C15
c-15 = record {
  query = λ s1 s2 s3 s4 f g h i tray. query-answer tray s1 s2 s3 s4 f g h i;
  query_agrees = query_agrees;
  query_one = query_one;
  query_answers = query_answers;
  sigma_fits = query-sigma-fits;
  chained = query-chained;
}

pub c-16 : C16
c-16 = record {
  add-row = add_row-answer;
  withdraw-row = withdraw_row-answer;
  trays_kept = refused-trays;
  trays_result = accepted-trays;
  add_row_unread = add_row_unread;
  withdraw_row_unread = withdraw_row_unread;
  run_answers = run_answers;
  table_absent = table_absent;
  row-sheet = row-sheet-iff;
  adds = λ s i {S} a b c. adds-table (schema-well-formed (schema-facts s a)) (instance-valid S i b);
  adds_one = adds_one;
  row_tests = λ s i {S} a b c. row-tests-decide (schema-well-formed (schema-facts s a)) (instance-valid S i b);
  addition_answers = addition_answers;
  withdraws = λ s i {S} a b. withdraws-table (schema-well-formed (schema-facts s a)) (instance-valid S i b);
  withdraws_one = withdraws_one;
  withdrawal_answers = withdrawal_answers;
  row_added = row_added;
  row_withdrawn = row_withdrawn;
  gives_back = gives_back;
}

pub c-17 : C17
c-17 = record {
  compose_decided = compose-answer;
  composed = composed;
  compose_agrees = compose_agrees;
  mapping_one = mapping_one;
  mapping_within = mapping_within;
  delta_composite = compose-delta;
  associative = compose-associative;
  identity_accepted = identity_accepted;
  identity_first = compose-identity-first;
  identity_last = compose-identity-last;
  sigma_isomorphic = λ s t u f g i k e. sigma_isomorphic s t u f g i k e;
}

pub program : Program
program = record { push_frames = push_frames; dig_frames = dig_frames }

pub header : Header
header = record { exports_say = exports_say; results_within = results_within }
