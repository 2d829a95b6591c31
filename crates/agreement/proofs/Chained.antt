-- The three public calls, one after the other through trays that hold any instance sheet, accept exactly where the query does and write the same bytes.
use Prim.Native.Nat.{ℕ, ◌≤◌}
use mathlib.Core.Path.{◌≡◌, refl, sym, ap, ◌∙◌, subst}
use mathlib.Core.List.{List}
use mathlib.Core.Logic.Iff
use mathlib.Core.Logic.{◌↔◌}
use native.Mathlib.Omega.{arith}
use lib.ListN.{length, take, drop}
use lib.Seq.{take_at}
use borrow.Author.Tests.{le-leb}
use Rattle.meaning.specs.Schema.{Schema}
use Rattle.meaning.specs.Sheet.{sound}
use Rattle.meaning.specs.Category.{listed_category}
use Rattle.meaning.specs.Formats.{Mapping, Instance, max_instance_bytes, instance_sheet}
use Rattle.meaning.specs.Judge.{judge_schema, judge_instance}
use Rattle.meaning.specs.Delta.{delta}
use Rattle.meaning.specs.Pi.{pi}
use Rattle.meaning.specs.Calls.{Outcome, refused, accepted, ◌>>=◌, Migration, Migrated, delta_tables, sigma_tables, pi_tables, sheet_of, Lent, in_tray}
use Rattle.meaning.specs.Query.{Query, query_tables}
use Rattle.meaning.proofs.Readers.{sound-same}
use Rattle.agreement.specs.Query.{cut_to_length, QueryAgrees, chained, SameResult}
use Rattle.agreement.proofs.Tests.{refused-not-accepted, accepted-same, bind-same, bind_assoc}
use Rattle.agreement.proofs.Outcomes.{query_result, accepted-tray}
use Rattle.agreement.proofs.Accepted.{bind-accepted, DeltaSound, delta-accepted, SigmaSound, sigma_result, sigma-accepted, PiSound, pi_result, pi-accepted}
use Rattle.agreement.proofs.Valid.{mapping-valid, instance-valid, valid-lent-again}
use Rattle.agreement.proofs.Delta.{delta-valid}
use Rattle.agreement.proofs.Bijections.{bijective-iff}
use Rattle.agreement.proofs.Pi.{pi-valid}
use Rattle.agreement.proofs.Agrees.{sheet-within, lendable-within, delta_agrees, pi_agrees}
use Rattle.agreement.proofs.Query.{QuerySound, query-accepts, query_agrees}

-- ---- results cut to their length, and outcomes in a tray

-- a tray that holds the result loses nothing of it
cut-whole : (tray : List ℕ) (o : Outcome (List ℕ)) → ((bytes : List ℕ) → o ≡ accepted bytes → length bytes ≤ length tray) → cut_to_length (in_tray tray o) ≡ o
cut-whole tray (refused n p) h = refl
cut-whole tray (accepted bytes) h = rw (le-leb (length bytes) (length tray) (h bytes refl)) (ap accepted (take_at bytes (drop (length bytes) tray) (length bytes) refl))

-- a result in a tray, cut to its length, is the call's
pub cut-accepted : (tray : List ℕ) (o : Outcome (List ℕ)) {bytes : List ℕ} → cut_to_length (in_tray tray o) ≡ accepted bytes → o ≡ accepted bytes
cut-accepted tray o e =
    let a = bind-accepted (in_tray tray o).answer _ e in
    let r = accepted-tray tray o a.1 in
    r.result ∙ ap accepted (sym r.written.front ∙ ap (λ (n : ℕ). take n (in_tray tray o).tray) r.size ∙ accepted-same a.2)

-- of tables, the sheet is lent to the next call
abbrev sheet : Migrated → Outcome (List ℕ)
sheet m = accepted (instance_sheet m.tables)

sheet-next : {A : Type 0} (o : Outcome Migrated) (f : List ℕ → Outcome A) → (sheet_of o >>= f) ≡ (o >>= λ m. f (instance_sheet m.tables))
sheet-next o f = bind_assoc o sheet f

-- outcomes with the same results have the same in one tray
same-result : (tray : List ℕ) (o p : Outcome Migrated) → ((M : Migrated) → (o ≡ accepted M) ↔ (p ≡ accepted M)) → SameResult (in_tray tray (sheet_of o)) (in_tray tray (sheet_of p))
same-result tray (refused n a) (refused m b) h = record { accepts = λ l. (λ e. absurd (refused-not-accepted e), λ e. absurd (refused-not-accepted e)); tray = refl }
same-result tray (refused n a) (accepted M) h = absurd (refused-not-accepted ((h M).1 refl))
same-result tray (accepted M) p h = rw ((h M).0 refl) (record { accepts = λ l. Iff.rfl; tray = refl })

-- ---- a call of which the source and its instance are known

module _ (s i : List ℕ) where
  known : (X : Migration → Instance → Type 0) {m : Migration} {J : Instance} {S : Schema} {I : Instance} → judge_schema s ≡ sound m.S → judge_instance m.S i ≡ sound J → X m J
      → judge_schema s ≡ sound S → judge_instance S i ≡ sound I → X (record { S = S; T = m.T; F = m.F }) I
  known X {m} {I = I} a b k c =
      subst (λ (S : Schema). judge_instance S i ≡ sound I → X (record { S = S; T = m.T; F = m.F }) I) (sound-same (sym a ∙ c)) (λ d.
      subst (X m) (sound-same (sym b ∙ d)) k)

-- ---- the three calls as one outcome

module _ (s1 s2 s3 s4 f g h i : List ℕ) where
  abbrev chain_tables : Outcome Migrated
  chain_tables = do
    D ← delta_tables s2 s1 f i
    P ← pi_tables s2 s3 g (instance_sheet D.tables)
    sigma_tables s3 s4 h (instance_sheet P.tables)

  chain-sheet : (sheet_of (delta_tables s2 s1 f i) >>= λ d. sheet_of (pi_tables s2 s3 g d) >>= λ p. sheet_of (sigma_tables s3 s4 h p)) ≡ sheet_of chain_tables
  chain-sheet =
      sheet-next (delta_tables s2 s1 f i) (λ d. sheet_of (pi_tables s2 s3 g d) >>= λ p. sheet_of (sigma_tables s3 s4 h p))
      ∙ bind-same (delta_tables s2 s1 f i) (λ D.
      let d = instance_sheet D.tables in
      sheet-next (pi_tables s2 s3 g d) (λ p. sheet_of (sigma_tables s3 s4 h p))
      ∙ sym (bind_assoc (pi_tables s2 s3 g d) (λ P. sigma_tables s3 s4 h (instance_sheet P.tables)) sheet))
      ∙ sym (bind_assoc (delta_tables s2 s1 f i) (λ D. pi_tables s2 s3 g (instance_sheet D.tables) >>= λ P. sigma_tables s3 s4 h (instance_sheet P.tables)) sheet)

  chained-is : (first second tray : List ℕ) → max_instance_bytes ≤ length first → max_instance_bytes ≤ length second
      → chained s1 s2 s3 s4 f g h i first second tray ≡ in_tray tray (sheet_of chain_tables)
  chained-is first second tray long long' = ap (in_tray tray) (
      ap (λ (o : Outcome (List ℕ)). o >>= λ d. cut_to_length (in_tray second (sheet_of (pi_tables s2 s3 g d))) >>= last)
      (cut-whole first (sheet_of (delta_tables s2 s1 f i)) (sheet-within (delta_tables s2 s1 f i) (length first) (λ M e.
      let a = delta_agrees s2 s1 f i e in
      let l = lendable-within s2 a.inputs.s_accepted a.lendable in
      omega arith)))
      ∙ bind-same (sheet_of (delta_tables s2 s1 f i)) (λ d.
      ap (λ (o : Outcome (List ℕ)). o >>= last) (cut-whole second (sheet_of (pi_tables s2 s3 g d)) (sheet-within (pi_tables s2 s3 g d) (length second) (λ M e.
      let a = pi_agrees s2 s3 g d e in
      let l = lendable-within s3 a.inputs.t_accepted a.lendable in
      omega arith))))
      ∙ chain-sheet)
    where
      last : List ℕ → Outcome (List ℕ)
      last p = sheet_of (sigma_tables s3 s4 h p)

  -- ---- it has the query's results

  chain-accepts : {M : Migrated} → QueryAgrees s1 s2 s3 s4 f g h i M → chain_tables ≡ accepted M
  chain-accepts a =
      ap (λ (o : Outcome Migrated). o >>= λ D. pi_tables s2 s3 g (instance_sheet D.tables) >>= λ P. sigma_tables s3 s4 h (instance_sheet P.tables)) a.pulled_by_call
      ∙ ap (λ (o : Outcome Migrated). o >>= λ P. sigma_tables s3 s4 h (instance_sheet P.tables)) a.joined_by_call
      ∙ a.pushed_by_call

  -- Delta's and Pi's calls accepted, Sigma's is left
  chain-last : {M : Migrated} (m : Migration) (I : Instance) → DeltaSound s2 s1 f i m I
      → (T : Schema) (G : Mapping) → PiSound s2 s3 g (instance_sheet (delta m.S m.F I)) (record { S = m.S; T = T; F = G }) (delta m.S m.F I)
      → sigma_tables s3 s4 h (instance_sheet (pi (listed_category m.S) (listed_category T) G (delta m.S m.F I))) ≡ accepted M
      → (q : Query) × (I : Instance) × QuerySound s1 s2 s3 s4 f g h i q I × (M ≡ query_result q I)
  chain-last {M} m I k T G l e =
      let a = k.migration_sound in
      let b = l.migration_sound in
      let v = mapping-valid s2 s3 g b.s_sound b.t_sound b.f_sound in
      let D = delta m.S m.F I in
      let P = pi (listed_category m.S) (listed_category T) G D in
      let P-valid = pi-valid v D ((bijective-iff v).0 l.is-bijective) (instance-valid m.S (instance_sheet D) l.i_sound) l.fits in
      let r = sigma-accepted s3 s4 h (instance_sheet P) e in
      let u = known s3 (instance_sheet P) (λ n J. SigmaSound s3 s4 h (instance_sheet P) n J × (M ≡ sigma_result n J))
      r.2.migration_sound.s_sound r.2.i_sound (r.2, r.3) b.t_sound (valid-lent-again P-valid) in
      let c = u.0.migration_sound in (
        record { S1 = m.T; S2 = m.S; S3 = T; S4 = r.0.T; F = m.F; G = G; H = r.0.F },
        I,
        record {
          inputs = record {
            s1_accepted = a.t_sound;
            s2_accepted = a.s_sound;
            s3_accepted = b.t_sound;
            s4_accepted = c.t_sound;
            f_accepted = a.f_sound;
            g_accepted = b.f_sound;
            h_accepted = c.f_sound;
            run_accepted = k.j_sound;
          };
          is-bijective = l.is-bijective;
          few_components = l.few_components;
          is-even = u.0.is-even;
          pulled_fits = k.fits;
          joined_fits = l.fits;
        },
        u.1,
      )

  -- Delta's call accepted, Pi's and Sigma's are left
  chain-later : {P M : Migrated} (m : Migration) (I : Instance) → DeltaSound s2 s1 f i m I → pi_tables s2 s3 g (instance_sheet (delta m.S m.F I)) ≡ accepted P
      → sigma_tables s3 s4 h (instance_sheet P.tables) ≡ accepted M → (q : Query) × (I : Instance) × QuerySound s1 s2 s3 s4 f g h i q I × (M ≡ query_result q I)
  chain-later {P} {M} m I k e l =
      let a = k.migration_sound in
      let d = instance_sheet (delta m.S m.F I) in
      let D-valid = delta-valid (mapping-valid s2 s1 f a.s_sound a.t_sound a.f_sound) I (instance-valid m.T i k.j_sound) k.fits in
      let r = pi-accepted s2 s3 g d e in
      let u = known s2 d (λ n J. PiSound s2 s3 g d n J × (P ≡ pi_result n J)) r.2.migration_sound.s_sound r.2.i_sound (r.2, r.3) a.s_sound (valid-lent-again D-valid) in
      chain-last m I k r.0.T r.0.F u.0 (subst (λ (X : Migrated). sigma_tables s3 s4 h (instance_sheet X.tables) ≡ accepted M) u.1 l)

  chain-accepted : {M : Migrated} → chain_tables ≡ accepted M → (q : Query) × (I : Instance) × QuerySound s1 s2 s3 s4 f g h i q I × (M ≡ query_result q I)
  chain-accepted e =
      let a = bind-accepted (delta_tables s2 s1 f i) _ e in
      let b = bind-accepted (pi_tables s2 s3 g (instance_sheet a.0.tables)) _ a.2 in
      let d = delta-accepted s2 s1 f i a.1 in
      chain-later d.0 d.1 d.2 (subst (λ (X : Migrated). pi_tables s2 s3 g (instance_sheet X.tables) ≡ accepted b.0) d.3 b.1) b.2

  chained-iff : (M : Migrated) → (query_tables s1 s2 s3 s4 f g h i ≡ accepted M) ↔ (chain_tables ≡ accepted M)
  chained-iff M = (
    λ e. chain-accepts (query_agrees s1 s2 s3 s4 f g h i e),
    λ e. let r = chain-accepted e in query-accepts s1 s2 s3 s4 f g h i r.2 ∙ ap accepted (sym r.3),
  )

  pub query-chained : (first second tray : List ℕ) → max_instance_bytes ≤ length first → max_instance_bytes ≤ length second
      → SameResult (in_tray tray (sheet_of (query_tables s1 s2 s3 s4 f g h i))) (chained s1 s2 s3 s4 f g h i first second tray)
  query-chained first second tray long long' =
      subst (λ (l : Lent). SameResult (in_tray tray (sheet_of (query_tables s1 s2 s3 s4 f g h i))) l) (sym (chained-is first second tray long long'))
      (same-result tray (query_tables s1 s2 s3 s4 f g h i) chain_tables chained-iff)
