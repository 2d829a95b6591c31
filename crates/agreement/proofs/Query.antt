-- The query: what an accepted one has passed, that its tables are source document 000's, and which refusal of all sheets together is given when.
use Prim.Native.Nat.{ℕ, ◌≤◌}
use mathlib.Core.Path.{◌≡◌, refl, sym, ap, ◌∙◌, subst}
use mathlib.Core.Bool.{Bool, true, false}
use mathlib.Core.List.{List}
use mathlib.Core.Logic.Iff
use mathlib.Core.Logic.{inr, ◌↔◌}
use native.Mathlib.Omega.{arith}
use borrow.Author.Tests.{leb-true, le-leb}
use Rattle.theory.specs.Mapping as theory_mapping
use Rattle.theory.specs.Mapping.{Even, Bijective}
use Rattle.theory.proofs.Instance.{alike-sym}
use Rattle.theory.proofs.Query.{pi-alike}
use Rattle.meaning.specs.Lists.{sum_of}
use Rattle.meaning.specs.Category.{listed_category}
use Rattle.meaning.specs.Sheet.{sound}
use Rattle.meaning.specs.Formats.{Instance, max_rows, instance_sheet}
use Rattle.meaning.specs.Views.{instance_of}
use Rattle.meaning.specs.Judge.{judge_schema, judge_mapping, judge_instance}
use Rattle.meaning.specs.Delta.{delta}
use Rattle.meaning.specs.Sigma.{sigma}
use Rattle.meaning.specs.Pi.{pi}
use Rattle.meaning.specs.Calls.{Outcome, refused, accepted, ◌>>=◌, ensure, ensure_fits, Migrated, delta_tables, sigma_tables, pi_tables}
use Rattle.meaning.specs.Query.{Query, judge_query, ensure_mappings, migrate_query, query_tables}
use Rattle.agreement.specs.Valid.{ValidMapping, ValidInstance}
use Rattle.agreement.specs.Agrees.{Wide, PiOverfull}
use Rattle.agreement.specs.Query.{mapping_f, mapping_g, mapping_h, QueryInputs, QueryAgrees, QueryOverfull, QueryAnswers}
use Rattle.agreement.proofs.Tests.{refused-not-accepted, accepted-same, own-refusal, later-refusal, either-refusal, later-result, not-refused, Settled, settled-next, settled-apart, settled-result}
use Rattle.agreement.proofs.Outcomes.{pulled, joined, pushed, query_result, paired, narrow, evenly, few, in_turn, in-turn}
use Rattle.agreement.proofs.Accepted.{bind-accepted, sheet-accepted, ensure-accepted, delta-accepts, sigma-accepts, pi-accepts}
use Rattle.agreement.proofs.Valid.{mapping-valid, instance-valid, valid-lent-again}
use Rattle.agreement.proofs.Evenness.{even-iff}
use Rattle.agreement.proofs.Delta.{delta-alike, delta-valid}
use Rattle.agreement.proofs.Sigma.{sigma-is-sigma, sigma-valid, sigma-never-overfull}
use Rattle.agreement.proofs.Bijections.{bijective-iff}
use Rattle.agreement.proofs.Pi.{pi-is-pi, pi-valid}
use Rattle.agreement.proofs.AcceptedSheets.{true-iff, false-iff, wide-iff, overfull-iff, delta-overfull-iff, row-3, row-4, outcome-by, result_by}
use Rattle.agreement.proofs.Agrees.{lendable}

-- ---- accepted sheets: valid mappings, and valid tables as far as they fit

module _ {s1 s2 s3 s4 f g h i : List ℕ} {q : Query} {I : Instance} (x : QueryInputs s1 s2 s3 s4 f g h i q I) where
  F-valid : ValidMapping (listed_category q.S2) (listed_category q.S1) q.F
  F-valid = mapping-valid s2 s1 f x.s2_accepted x.s1_accepted x.f_accepted

  G-valid : ValidMapping (listed_category q.S2) (listed_category q.S3) q.G
  G-valid = mapping-valid s2 s3 g x.s2_accepted x.s3_accepted x.g_accepted

  H-valid : ValidMapping (listed_category q.S3) (listed_category q.S4) q.H
  H-valid = mapping-valid s3 s4 h x.s3_accepted x.s4_accepted x.h_accepted

  run-valid : ValidInstance q.S1 I
  run-valid = instance-valid q.S1 i x.run_accepted

  pulled-valid : sum_of (pulled q I).counts ≤ max_rows → ValidInstance q.S2 (pulled q I)
  pulled-valid = delta-valid F-valid I run-valid

  joined-valid : paired q ≡ true → sum_of (pulled q I).counts ≤ max_rows → sum_of (joined q I).counts ≤ max_rows → ValidInstance q.S3 (joined q I)
  joined-valid p a b = pi-valid G-valid (pulled q I) ((bijective-iff G-valid).0 p) (pulled-valid a) b

  pushed-valid : paired q ≡ true → evenly q ≡ true → sum_of (pulled q I).counts ≤ max_rows → sum_of (joined q I).counts ≤ max_rows → ValidInstance q.S4 (pushed q I)
  pushed-valid p e a b = sigma-valid H-valid ((even-iff H-valid).0 e) (joined-valid p a b)

-- ---- what an accepted query has passed, and the other way

pub record QuerySound (s1 s2 s3 s4 f g h i : List ℕ) (q : Query) (I : Instance) : Type 0 where
  pub inputs : QueryInputs s1 s2 s3 s4 f g h i q I
  pub is-bijective : paired q ≡ true
  pub few_components : narrow q ≡ true
  pub is-even : evenly q ≡ true
  pub pulled_fits : sum_of (pulled q I).counts ≤ max_rows
  pub joined_fits : sum_of (joined q I).counts ≤ max_rows

module _ (s1 s2 s3 s4 f g h i : List ℕ) where
  query-sheets : {q : Query} {I : Instance} → judge_query s1 s2 s3 s4 f g h ≡ accepted q → judge_instance q.S1 i ≡ sound I → QueryInputs s1 s2 s3 s4 f g h i q I
  query-sheets {q} {I} e r =
      let a = sheet-accepted 1 (judge_schema s1) _ e in
      let b = sheet-accepted 2 (judge_schema s2) _ a.2 in
      let c = sheet-accepted 3 (judge_schema s3) _ b.2 in
      let d = sheet-accepted 4 (judge_schema s4) _ c.2 in
      let u = sheet-accepted 5 (judge_mapping (listed_category b.0) (listed_category a.0) f) _ d.2 in
      let v = sheet-accepted 6 (judge_mapping (listed_category b.0) (listed_category c.0) g) _ u.2 in
      let w = sheet-accepted 7 (judge_mapping (listed_category c.0) (listed_category d.0) h) _ v.2 in
      subst (λ (q : Query). judge_instance q.S1 i ≡ sound I → QueryInputs s1 s2 s3 s4 f g h i q I) (accepted-same w.2) (λ k. record {
        s1_accepted = a.1;
        s2_accepted = b.1;
        s3_accepted = c.1;
        s4_accepted = d.1;
        f_accepted = u.1;
        g_accepted = v.1;
        h_accepted = w.1;
        run_accepted = k;
      }) r

  query-accepted : {M : Migrated} → query_tables s1 s2 s3 s4 f g h i ≡ accepted M → (q : Query) × (I : Instance) × QuerySound s1 s2 s3 s4 f g h i q I × (M ≡ query_result q I)
  query-accepted e =
      let a = bind-accepted (judge_query s1 s2 s3 s4 f g h) _ e in
      let q = a.0 in
      let b = sheet-accepted 8 (judge_instance q.S1 i) _ a.2 in
      let I = b.0 in
      let r = passed q I b.2 in
      (q, I, record { inputs = query-sheets a.1 b.1; is-bijective = r.0; few_components = r.1; is-even = r.2; pulled_fits = r.3; joined_fits = r.4 }, r.5)
    where
      passed : {M : Migrated} (q : Query) (I : Instance) → (ensure_mappings q >>= λ _. migrate_query q I) ≡ accepted M
          → (paired q ≡ true) × (narrow q ≡ true) × (evenly q ≡ true) × (sum_of (pulled q I).counts ≤ max_rows) × (sum_of (joined q I).counts ≤ max_rows) × (M ≡ query_result q I)
      passed q I e =
          let t = ensure-accepted (paired q) 13 _ (sym (in-turn q I) ∙ e) in
          let u = ensure-accepted (narrow q) 14 _ t.1 in
          let v = ensure-accepted (evenly q) 12 _ u.1 in
          let a = ensure-accepted (few (pulled q I)) 15 _ v.1 in
          let b = ensure-accepted (few (joined q I)) 15 _ a.1 in
          let c = ensure-accepted (few (pushed q I)) 15 _ b.1 in
          (t.0, u.0, v.0, leb-true (sum_of (pulled q I).counts) max_rows a.0, leb-true (sum_of (joined q I).counts) max_rows b.0, sym (accepted-same c.1))

  -- the tests after accepted sheets
  query-yields : {q : Query} {I : Instance} → QueryInputs s1 s2 s3 s4 f g h i q I → query_tables s1 s2 s3 s4 f g h i ≡ in_turn q I
  query-yields {q} {I} x =
      let e : query_tables s1 s2 s3 s4 f g h i ≡ (ensure_mappings q >>= λ _. migrate_query q I) =
      rw (x.s1_accepted, x.s2_accepted, x.s3_accepted, x.s4_accepted, x.f_accepted, x.g_accepted, x.h_accepted, x.run_accepted) in
      e ∙ in-turn q I

  pub query-accepts : {q : Query} {I : Instance} → QuerySound s1 s2 s3 s4 f g h i q I → query_tables s1 s2 s3 s4 f g h i ≡ accepted (query_result q I)
  query-accepts {q} {I} k =
      let v = pushed-valid k.inputs k.is-bijective k.is-even k.pulled_fits k.joined_fits in
      query-yields k.inputs ∙ rw (
        k.is-bijective,
        k.few_components,
        k.is-even,
        le-leb (sum_of (pulled q I).counts) max_rows k.pulled_fits,
        le-leb (sum_of (joined q I).counts) max_rows k.joined_fits,
        le-leb (sum_of (pushed q I).counts) max_rows v.few_rows,
      )

  -- ---- the tables are the theory's, and those of the public calls

  module _ {q : Query} {I : Instance} (k : QuerySound s1 s2 s3 s4 f g h i q I) where
    pulled_by_call : delta_tables s2 s1 f i ≡ accepted (record { schema = q.S2; tables = pulled q I })
    pulled_by_call =
        let x = k.inputs in
        delta-accepts s2 s1 f i (record {
          migration_sound = record { s_sound = x.s2_accepted; t_sound = x.s1_accepted; f_sound = x.f_accepted };
          j_sound = x.run_accepted;
          fits = k.pulled_fits;
        })

    joined_by_call : pi_tables s2 s3 g (instance_sheet (pulled q I)) ≡ accepted (record { schema = q.S3; tables = joined q I })
    joined_by_call =
        let x = k.inputs in
        pi-accepts s2 s3 g (instance_sheet (pulled q I)) (record {
          migration_sound = record { s_sound = x.s2_accepted; t_sound = x.s3_accepted; f_sound = x.g_accepted };
          i_sound = valid-lent-again (pulled-valid x k.pulled_fits);
          is-bijective = k.is-bijective;
          few_components = k.few_components;
          fits = k.joined_fits;
        })

    pushed_by_call : sigma_tables s3 s4 h (instance_sheet (joined q I)) ≡ accepted (query_result q I)
    pushed_by_call =
        let x = k.inputs in
        sigma-accepts s3 s4 h (instance_sheet (joined q I)) (record {
          migration_sound = record { s_sound = x.s3_accepted; t_sound = x.s4_accepted; f_sound = x.h_accepted };
          i_sound = valid-lent-again (joined-valid x k.is-bijective k.pulled_fits k.joined_fits);
          is-even = k.is-even;
          fits = (pushed-valid x k.is-bijective k.is-even k.pulled_fits k.joined_fits).few_rows;
        })

  pub query_agrees : {M : Migrated} → query_tables s1 s2 s3 s4 f g h i ≡ accepted M → QueryAgrees s1 s2 s3 s4 f g h i M
  query_agrees e = let r = query-accepted e in subst (QueryAgrees s1 s2 s3 s4 f g h i) (sym r.3) (of r.0 r.1 r.2)
    where
      of : (q : Query) (I : Instance) → QuerySound s1 s2 s3 s4 f g h i q I → QueryAgrees s1 s2 s3 s4 f g h i (query_result q I)
      of q I k =
          let x = k.inputs in
          let bijective = (bijective-iff (G-valid x)).0 k.is-bijective in
          let even = (even-iff (H-valid x)).0 k.is-even in
          let P-valid = joined-valid x k.is-bijective k.pulled_fits k.joined_fits in
          record {
            q = q;
            run = I;
            inputs = x;
            pulled = pulled q I;
            joined = joined q I;
            schema_is = refl;
            is-bijective = bijective;
            is-even = even;
            is_query = record { is_delta = delta-alike (F-valid x) I; is_pi = pi-is-pi (G-valid x) (pulled q I) bijective; is_sigma = sigma-is-sigma (H-valid x) even P-valid };
            pulled_lendable = lendable (F-valid x).is.s_is (pulled-valid x k.pulled_fits);
            joined_lendable = lendable (G-valid x).is.t_is P-valid;
            lendable = lendable (H-valid x).is.t_is (sigma-valid (H-valid x) even P-valid);
            pulled_by_call = pulled_by_call k;
            joined_by_call = joined_by_call k;
            pushed_by_call = pushed_by_call k;
          }

-- ---- 15 of Sigma's table never arises

fits-same : {B : Type 0} (J : Instance) (k l : Instance → Outcome B) → (sum_of J.counts ≤ max_rows → k J ≡ l J) → (ensure_fits J >>= k) ≡ (ensure_fits J >>= l)
fits-same J k l h = go (few J) refl
  where
    go : (t : Bool) → few J ≡ t → ((ensure t 15 >>= λ _. accepted J) >>= k) ≡ ((ensure t 15 >>= λ _. accepted J) >>= l)
    go true e = h (leb-true (sum_of J.counts) max_rows e)
    go false e = refl

module _ {s1 s2 s3 s4 f g h i : List ℕ} {q : Query} {I : Instance} (x : QueryInputs s1 s2 s3 s4 f g h i q I) (p : paired q ≡ true) (e : evenly q ≡ true) where
  pub query-sigma-fits : migrate_query q I ≡ (do
    D ← ensure_fits (delta q.S2 q.F I)
    P ← ensure_fits (pi (listed_category q.S2) (listed_category q.S3) q.G D)
    accepted (record { schema = q.S4; tables = sigma (listed_category q.S3) (listed_category q.S4) q.H P }))
  query-sigma-fits =
      fits-same (pulled q I) (λ D. ensure_fits (next D) >>= fitted) (λ D. ensure_fits (next D) >>= given) (λ a.
      fits-same (joined q I) fitted given (λ b.
      ap (λ (o : Outcome Instance). o >>= result) (sigma-never-overfull (H-valid x) ((even-iff (H-valid x)).0 e) (joined-valid x p a b))))
    where
      next : Instance → Instance
      next D = pi (listed_category q.S2) (listed_category q.S3) q.G D

      result : Instance → Outcome Migrated
      result Q = accepted (record { schema = q.S4; tables = Q })

      given : Instance → Outcome Migrated
      given P = result (sigma (listed_category q.S3) (listed_category q.S4) q.H P)

      fitted : Instance → Outcome Migrated
      fitted P = ensure_fits (sigma (listed_category q.S3) (listed_category q.S4) q.H P) >>= result

-- ---- the call: 13, then 14, then 12, then 15

module _ (s1 s2 s3 s4 f g h i : List ℕ) {q : Query} {I : Instance} (x : QueryInputs s1 s2 s3 s4 f g h i q I) where
  -- what follows Pi's table, Delta's, and the test 12, 14 and 13
  abbrev after_pi : Outcome Migrated
  after_pi = ensure (few (pushed q I)) 15 >>= λ _. accepted (query_result q I)

  abbrev after_delta : Outcome Migrated
  after_delta = ensure (few (joined q I)) 15 >>= λ _. after_pi

  abbrev after12 : Outcome Migrated
  after12 = ensure (few (pulled q I)) 15 >>= λ _. after_delta

  abbrev after14 : Outcome Migrated
  after14 = ensure (evenly q) 12 >>= λ _. after12

  abbrev after13 : Outcome Migrated
  after13 = ensure (narrow q) 14 >>= λ _. after14

  pairs : (paired q ≡ true) ↔ Bijective (mapping_g q)
  pairs = bijective-iff (G-valid x)

  narrows : (narrow q ≡ true) ↔ (Wide (mapping_g q) → ⊥)
  narrows = true-iff (narrow q) (wide-iff (G-valid x))

  evens : (evenly q ≡ true) ↔ Even (mapping_h q)
  evens = even-iff (H-valid x)

  -- Delta's tables are those of the theory, and so Pi's
  pi-full : Bijective (mapping_g q) → (few (joined q I) ≡ false) ↔ PiOverfull (mapping_g q) (theory_mapping.delta (mapping_f q) (instance_of I))
  pi-full b =
      let d = delta-alike (F-valid x) I in
      let G-is = (G-valid x).is in
      let o = overfull-iff (G-valid x) (pulled q I) b in (
        λ e. let h = o.0 e in (h.0, pi-alike G-is d h.1, h.2),
        λ h. o.1 (h.0, pi-alike G-is (alike-sym G-is.s_is d) h.1, h.2),
      )

  settled : Settled 15 after12
  settled =
      settled-next (few (pulled q I)) 15 after_delta (
      settled-next (few (joined q I)) 15 after_pi (
      settled-next (few (pushed q I)) 15 (accepted (query_result q I)) (inr (query_result q I, refl))))

  not-13 : after13 ≡ refused 13 0 → ⊥
  not-13 =
      not-refused (narrow q) 14 13 after14 (λ k. omega arith) (
      not-refused (evenly q) 12 13 after12 (λ k. omega arith) (settled-apart 15 13 after12 (λ k. omega arith) settled))

  not-14 : after14 ≡ refused 14 0 → ⊥
  not-14 = not-refused (evenly q) 12 14 after12 (λ k. omega arith) (settled-apart 15 14 after12 (λ k. omega arith) settled)

  not-12 : after12 ≡ refused 12 0 → ⊥
  not-12 = settled-apart 15 12 after12 (λ k. omega arith) settled

  -- 15 is given for Delta's or for Pi's tables
  full : Bijective (mapping_g q) → Even (mapping_h q) → (after12 ≡ refused 15 0) ↔ QueryOverfull (mapping_f q) (mapping_g q) (instance_of I)
  full b e =
      either-refusal (few (pulled q I)) 15 after_delta (delta-overfull-iff (F-valid x) I (run-valid x).shaped) (λ t.
      own-refusal (few (joined q I)) 15 after_pi (λ u r. refused-not-accepted (sym r ∙ pushed_fits t u)) (pi-full b))
    where
      pushed_fits : few (pulled q I) ≡ true → few (joined q I) ≡ true → after_pi ≡ accepted (query_result q I)
      pushed_fits t u =
          let v = pushed-valid x (pairs.1 b) (evens.1 e) (leb-true (sum_of (pulled q I).counts) max_rows t) (leb-true (sum_of (joined q I).counts) max_rows u) in
          rw (le-leb (sum_of (pushed q I).counts) max_rows v.few_rows)

  -- which refusal of all sheets together, or a result, the query yields
  pub query_answers : QueryAnswers s1 s2 s3 s4 f g h i q (instance_of I)
  query_answers =
      let y = query-yields s1 s2 s3 s4 f g h i x in
      record {
        unpaired = outcome-by y (own-refusal (paired q) 13 after13 (λ _. not-13) (false-iff (paired q) pairs));
        wide = outcome-by y (later-refusal (paired q) 13 14 after13 (λ k. omega arith) pairs (λ _.
            own-refusal (narrow q) 14 after14 (λ _. not-14) (wide-iff (G-valid x))));
        uneven = Iff.trans (outcome-by y (later-refusal (paired q) 13 12 after13 (λ k. omega arith) pairs (λ _.
            later-refusal (narrow q) 14 12 after14 (λ k. omega arith) narrows (λ _.
            own-refusal (evenly q) 12 after12 (λ _. not-12) (false-iff (evenly q) evens))))) row-3;
        overfull = Iff.trans (outcome-by y (later-refusal (paired q) 13 15 after13 (λ k. omega arith) pairs (λ b.
            later-refusal (narrow q) 14 15 after14 (λ k. omega arith) narrows (λ _.
            later-refusal (evenly q) 12 15 after12 (λ k. omega arith) evens (full b))))) row-4;
        result = Iff.trans (result_by y (later-result (paired q) 13 after13 pairs (λ b.
            later-result (narrow q) 14 after14 narrows (λ _.
            later-result (evenly q) 12 after12 evens (λ e. settled-result 15 after12 settled (full b e)))))) row-4;
      }
