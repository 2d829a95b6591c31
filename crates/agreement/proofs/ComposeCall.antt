-- The call that composes: its tests, that it accepts what it is lent, and that its result is accepted and agrees with the theory; then several calls: Delta along the
-- composition, three mappings in either grouping, the identity before and behind a mapping, and Sigma along the composition.
use Prim.Native.Nat.{ℕ, ◌≤◌}
use mathlib.Core.Path.{◌≡◌, refl, sym, ap, ◌∙◌, subst}
use mathlib.Core.Bool.{true}
use mathlib.Core.List.{List}
use lib.ListN.{length}
use Rattle.bits.specs.Field.{Bytes}
use Rattle.theory.specs.Mapping.{Even}
use Rattle.theory.specs.Sigma.{IsSigma}
use Rattle.theory.specs.Composition as theory_composition
use Rattle.theory.specs.Composition.{SameImages, SigmaIsomorphic}
use Rattle.theory.proofs.SigmaComposite as theory_sigma
use Rattle.theory.proofs.SigmaComposite.{sigma-same}
use Rattle.meaning.specs.Schema.{Schema}
use Rattle.meaning.specs.Category.{listed_category}
use Rattle.meaning.specs.Sheet.{Judged, faulty, sound}
use Rattle.meaning.specs.Formats.{Mapping, Instance, max_mapping_bytes, mapping_sheet, instance_sheet}
use Rattle.meaning.specs.Views.{schema_of, mapping_of, instance_of}
use Rattle.meaning.specs.Judge.{judge_schema, judge_mapping, judge_instance}
use Rattle.meaning.specs.Delta.{delta}
use Rattle.meaning.specs.Evenness.{even}
use Rattle.meaning.specs.Calls.{Outcome, accepted, ◌>>=◌, at, ensure_fits, Migration, Migrated, delta_tables, sigma_tables, sheet_of, in_tray}
use Rattle.meaning.specs.Composition.{composite, identity, Composable, judge_composable, composed_sheet, compose}
use Rattle.meaning.proofs.Readers.{sound-same}
use Rattle.meaning.proofs.Facts.{schema-facts}
use Rattle.meaning.proofs.MappingSheets.{mapping-judged-sheet, mapping-sheet-within}
use Rattle.agreement.specs.Tests.{Decides}
use Rattle.agreement.specs.CallTests.{composable_tests, compose_tests, tray_tests}
use Rattle.agreement.specs.Valid.{ValidInstance}
use Rattle.agreement.specs.Query.{cut_to_length}
use Rattle.agreement.specs.Composition.{mapping_f, mapping_g, ComposeInputs, ComposeAgrees}
use Rattle.agreement.proofs.Tests.{refused-not-accepted, accepted-same, decides-then, decides-giving}
use Rattle.agreement.proofs.Refusals.{schema-decided, mapping-decided}
use Rattle.agreement.proofs.Outcomes.{tray-decided}
use Rattle.agreement.proofs.Categories.{schema-well-formed}
use Rattle.agreement.proofs.Accepted.{bind-accepted, sheet-accepted, MigrationSound, migration-accepts, DeltaSound, delta_result, delta-accepted, SigmaSound, sigma_result, sigma-accepted}
use Rattle.agreement.proofs.Valid.{mapping-valid, instance-valid, valid-lent-again}
use Rattle.agreement.proofs.Evenness.{even-iff}
use Rattle.agreement.proofs.Delta.{delta-valid}
use Rattle.agreement.proofs.Sigma.{sigma-is-sigma, sigma-valid}
use Rattle.agreement.proofs.AcceptedSheets.{sigma_answers}
use Rattle.agreement.proofs.Chained.{cut-accepted}
use Rattle.agreement.proofs.Composition.{LendableMapping, mapping-lendable, mapping-lent-again, image-few, composite-images, even-composite, composite-lendable, identity-images, identity-lendable, delta-along-composite, composites-same, first-unit, last-unit}

-- ---- the call: its tests, and what it accepts

composable-decided : (s t u f g : List ℕ) → Decides (composable_tests s t u f g) (judge_composable s t u f g)
composable-decided s t u f g =
    decides-then (schema-decided 1 s) (λ S.
    decides-then (schema-decided 2 t) (λ T.
    decides-then (schema-decided 3 u) (λ U.
    decides-then (mapping-decided 4 (listed_category S) (listed_category T) f) (λ F.
    decides-giving (mapping-decided 5 (listed_category T) (listed_category U) g) (λ G. record { S = S; T = T; U = U; F = F; G = G })))))

pub compose-answer : (s t u f g tray : List ℕ) → Decides (tray_tests tray (compose_tests s t u f g)) (in_tray tray (compose s t u f g)).answer
compose-answer s t u f g tray = tray-decided tray (decides-giving (composable-decided s t u f g) composed_sheet)

module _ (s t u f g : List ℕ) where
  composable-accepted : {x : Composable} → judge_composable s t u f g ≡ accepted x → ComposeInputs s t u f g x
  composable-accepted e =
      let a = sheet-accepted 1 (judge_schema s) _ e in
      let b = sheet-accepted 2 (judge_schema t) _ a.2 in
      let c = sheet-accepted 3 (judge_schema u) _ b.2 in
      let d = sheet-accepted 4 (judge_mapping (listed_category a.0) (listed_category b.0) f) _ c.2 in
      let k = sheet-accepted 5 (judge_mapping (listed_category b.0) (listed_category c.0) g) _ d.2 in
      subst (ComposeInputs s t u f g) (accepted-same k.2) (record { s_accepted = a.1; t_accepted = b.1; u_accepted = c.1; f_accepted = d.1; g_accepted = k.1 })

  pub compose-accepts : {x : Composable} → ComposeInputs s t u f g x → compose s t u f g ≡ accepted (composed_sheet x)
  compose-accepts h = rw (h.s_accepted, h.t_accepted, h.u_accepted, h.f_accepted, h.g_accepted)

  pub compose-accepted : {h : List ℕ} → compose s t u f g ≡ accepted h → (x : Composable) × ComposeInputs s t u f g x × (composed_sheet x ≡ h)
  compose-accepted e = let a = bind-accepted (judge_composable s t u f g) _ e in (a.0, composable-accepted a.1, accepted-same a.2)

  pub composed : {x : Composable} → ComposeInputs s t u f g x → (h : List ℕ) × (compose s t u f g ≡ accepted h)
  composed {x} h = (composed_sheet x, compose-accepts h)

  module _ {x : Composable} (k : ComposeInputs s t u f g x) where
    first-lendable : LendableMapping x.S x.T x.F
    first-lendable = mapping-lendable s t f k.s_accepted k.t_accepted k.f_accepted

    second-lendable : LendableMapping x.T x.U x.G
    second-lendable = mapping-lendable t u g k.t_accepted k.u_accepted k.g_accepted

    pub composed-lendable : LendableMapping x.S x.U (composite x.F x.G)
    composed-lendable = composite-lendable first-lendable second-lendable (schema-facts u k.u_accepted)

    composed-agrees : ComposeAgrees s t u f g (composed_sheet x)
    composed-agrees = record {
      x = x;
      inputs = k;
      H = composite x.F x.G;
      sheet_is = refl;
      h_accepted = mapping-lent-again composed-lendable;
      is_composite = composite-images first-lendable second-lendable;
      few_edges = let u = schema-facts u k.u_accepted in image-few first-lendable.valid second-lendable.valid (schema-well-formed u) u.nodes;
      is-even = even-composite first-lendable second-lendable;
      pulls_back = λ j e. delta-along-composite first-lendable second-lendable (instance-valid x.U j e);
    }

  pub compose_agrees : {h : List ℕ} → compose s t u f g ≡ accepted h → ComposeAgrees s t u f g h
  compose_agrees e = let a = compose-accepted e in subst (ComposeAgrees s t u f g) a.2 (composed-agrees a.1)

  pub compose-within : (bytes : List ℕ) → compose s t u f g ≡ accepted bytes → length bytes ≤ max_mapping_bytes
  compose-within bytes e =
      let a = compose-accepted e in
      subst (λ (b : List ℕ). length b ≤ max_mapping_bytes) a.2 (mapping-sheet-within (schema-facts s a.1.s_accepted) (composed-lendable a.1).fits)

-- ---- Delta's call along the composition, and those along G and then F

module _ (s t f j : List ℕ) where
  -- what is left to test of accepted sheets
  delta-outcome : {m : Migration} {J : Instance} → MigrationSound s t f m → judge_instance m.T j ≡ sound J
      → delta_tables s t f j ≡ (ensure_fits (delta m.S m.F J) >>= λ D. accepted (record { schema = m.S; tables = D }))
  delta-outcome a e = rw (migration-accepts s t f a, e)

  -- of a result, where the schemas and the mapping are known
  delta-known : {m : Migration} {D : Migrated} → MigrationSound s t f m → delta_tables s t f j ≡ accepted D → (J : Instance) × DeltaSound s t f j m J × (D ≡ delta_result m J)
  delta-known {D = D} a e =
      let r = delta-accepted s t f j e in
      subst (λ (m : Migration). (J : Instance) × DeltaSound s t f j m J × (D ≡ delta_result m J))
      (accepted-same (sym (migration-accepts s t f r.2.migration_sound) ∙ migration-accepts s t f a)) (r.1, r.2, r.3)

module _ (s t u f g : List ℕ) {x : Composable} (k : ComposeInputs s t u f g x) where
  first-sound : MigrationSound s t f (record { S = x.S; T = x.T; F = x.F })
  first-sound = record { s_sound = k.s_accepted; t_sound = k.t_accepted; f_sound = k.f_accepted }

  second-sound : MigrationSound t u g (record { S = x.T; T = x.U; F = x.G })
  second-sound = record { s_sound = k.t_accepted; t_sound = k.u_accepted; f_sound = k.g_accepted }

  composed-sound : MigrationSound s u (composed_sheet x) (record { S = x.S; T = x.U; F = composite x.F x.G })
  composed-sound = record { s_sound = k.s_accepted; t_sound = k.u_accepted; f_sound = mapping-lent-again (composed-lendable s t u f g k) }

  tables-same : (j : List ℕ) {J : Instance} → DeltaSound t u g j (record { S = x.T; T = x.U; F = x.G }) J
      → delta_tables s u (composed_sheet x) j ≡ delta_tables s t f (instance_sheet (delta x.T x.G J))
  tables-same j {J} a =
      let i = instance-valid x.U j a.j_sound in
      let w = second-lendable s t u f g k in
      let D = delta x.T x.G J in
      delta-outcome s u (composed_sheet x) j composed-sound a.j_sound
      ∙ ap (λ (D : Instance). ensure_fits D >>= λ D. accepted (record { schema = x.S; tables = D })) (delta-along-composite (first-lendable s t u f g k) w i)
      ∙ sym (delta-outcome s t f (instance_sheet D) first-sound (valid-lent-again (delta-valid w.valid J i a.fits)))

pub compose-delta : (s t u f g j : List ℕ) {h d : List ℕ} (first second tray : List ℕ) → cut_to_length (in_tray first (compose s t u f g)) ≡ accepted h
    → cut_to_length (in_tray second (sheet_of (delta_tables t u g j))) ≡ accepted d → in_tray tray (sheet_of (delta_tables s u h j)) ≡ in_tray tray (sheet_of (delta_tables s t f d))
compose-delta s t u f g j first second tray p q =
    let a = compose-accepted s t u f g (cut-accepted first (compose s t u f g) p) in
    let b = bind-accepted (delta_tables t u g j) _ (cut-accepted second (sheet_of (delta_tables t u g j)) q) in
    let c = delta-known t u g j (second-sound s t u f g a.1) b.1 in
    ap (λ (o : Outcome Migrated). in_tray tray (sheet_of o)) (
    ap (λ (h : List ℕ). delta_tables s u h j) (sym a.2)
    ∙ tables-same s t u f g a.1 j c.1
    ∙ ap (delta_tables s t f) (ap (λ (D : Migrated). instance_sheet D.tables) (sym c.2) ∙ accepted-same b.2))

-- ---- three mappings in either grouping

-- a sheet of which it is known what it holds, and what comes after it
known-sheet : {A B : Type 0} (place : ℕ) (o : Judged A) (k : A → Outcome B) {a : A} {b : B} → o ≡ sound a → (at place o >>= k) ≡ accepted b → k a ≡ accepted b
known-sheet place (faulty n) k h e = absurd (refused-not-accepted e)
known-sheet place (sound c) k {b = b} h e = subst (λ a. k a ≡ accepted b) (sound-same h) e

-- the last schema and the last mapping
record Last (u v k : List ℕ) (U : Schema) (G : Mapping) (l : List ℕ) : Type 0 where
  W : Schema
  K : Mapping
  w_accepted : judge_schema v ≡ sound W
  k_accepted : judge_mapping (listed_category U) (listed_category W) k ≡ sound K
  sheet_is : mapping_sheet (composite G K) ≡ l

last_of : (t u v g k : List ℕ) {T U : Schema} {G : Mapping} {l : List ℕ} → judge_schema t ≡ sound T → judge_schema u ≡ sound U
    → judge_mapping (listed_category T) (listed_category U) g ≡ sound G → compose t u v g k ≡ accepted l → Last u v k U G l
last_of t u v g k {T} {U} {G} a b c e =
    let r = bind-accepted (judge_composable t u v g k) _ e in
    let p = known-sheet 2 (judge_schema u) _ b (known-sheet 1 (judge_schema t) _ a r.1) in
    let w = sheet-accepted 3 (judge_schema v) _ p in
    let q = known-sheet 4 (judge_mapping (listed_category T) (listed_category U) g) _ c w.2 in
    let m = sheet-accepted 5 (judge_mapping (listed_category U) (listed_category w.0) k) _ q in
    record { W = w.0; K = m.0; w_accepted = w.1; k_accepted = m.1; sheet_is = ap composed_sheet (accepted-same m.2) ∙ accepted-same r.2 }

pub compose-associative : (s t u v f g k : List ℕ) {h l : List ℕ} → compose s t u f g ≡ accepted h → compose t u v g k ≡ accepted l → compose s u v h k ≡ compose s t v f l
compose-associative s t u v f g k p q =
    let a = compose-accepted s t u f g p in
    let x = a.0 in
    let i = a.1 in
    let b = last_of t u v g k i.t_accepted i.u_accepted i.g_accepted q in
    let m = mapping-lendable u v k i.u_accepted b.w_accepted b.k_accepted in
    let r = schema-facts v b.w_accepted in
    let n = second-lendable s t u f g i in
    ap (λ (h : List ℕ). compose s u v h k) (sym a.2)
    ∙ compose-accepts s u v (composed_sheet x) k {x = record { S = x.S; T = x.U; U = b.W; F = composite x.F x.G; G = b.K }} (record {
      s_accepted = i.s_accepted;
      t_accepted = i.u_accepted;
      u_accepted = b.w_accepted;
      f_accepted = mapping-lent-again (composed-lendable s t u f g i);
      g_accepted = b.k_accepted;
    })
    ∙ ap (λ (H : Mapping). accepted (mapping_sheet H)) (composites-same (first-lendable s t u f g i) n m (schema-facts u i.u_accepted) r)
    ∙ sym (compose-accepts s t v f (mapping_sheet (composite x.G b.K)) {x = record { S = x.S; T = x.T; U = b.W; F = x.F; G = composite x.G b.K }} (record {
      s_accepted = i.s_accepted;
      t_accepted = i.t_accepted;
      u_accepted = b.w_accepted;
      f_accepted = i.f_accepted;
      g_accepted = mapping-lent-again (composite-lendable n m r);
    }))
    ∙ ap (compose s t v f) b.sheet_is

-- ---- the identity

pub identity_accepted : (s : List ℕ) {S : Schema} → judge_schema s ≡ sound S → (judge_mapping (listed_category S) (listed_category S) (mapping_sheet (identity S)) ≡ sound (identity S))
    × SameImages (theory_composition.identity (schema_of S)) (mapping_of S S (identity S))
identity_accepted s {S} e = let f = schema-facts s e in (mapping-lent-again (identity-lendable S f), identity-images S f)

module _ (s t f : List ℕ) {S T : Schema} {F : Mapping} where
  pub compose-identity-first : Bytes f → judge_schema s ≡ sound S → judge_schema t ≡ sound T
      → judge_mapping (listed_category S) (listed_category T) f ≡ sound F → compose s s t (mapping_sheet (identity S)) f ≡ accepted f
  compose-identity-first b i j k =
      compose-accepts s s t (mapping_sheet (identity S)) f {x = record { S = S; T = S; U = T; F = identity S; G = F }}
      (record { s_accepted = i; t_accepted = i; u_accepted = j; f_accepted = (identity_accepted s i).0; g_accepted = k })
      ∙ ap accepted (ap mapping_sheet (first-unit (mapping-lendable s t f i j k) (schema-facts t j) (schema-facts s i)) ∙ sym (mapping-judged-sheet (listed_category S) (listed_category T) f b k))

  pub compose-identity-last : Bytes f → judge_schema s ≡ sound S → judge_schema t ≡ sound T
      → judge_mapping (listed_category S) (listed_category T) f ≡ sound F → compose s t t f (mapping_sheet (identity T)) ≡ accepted f
  compose-identity-last b i j k =
      compose-accepts s t t f (mapping_sheet (identity T)) {x = record { S = S; T = T; U = T; F = F; G = identity T }}
      (record { s_accepted = i; t_accepted = j; u_accepted = j; f_accepted = k; g_accepted = (identity_accepted t j).0 })
      ∙ ap accepted (ap mapping_sheet (last-unit (mapping-lendable s t f i j k) (schema-facts t j)) ∙ sym (mapping-judged-sheet (listed_category S) (listed_category T) f b k))

-- ---- Sigma along the composition

-- what Sigma's call gives of sheets that are known
record SigmaKnown (S T : Schema) (F : Mapping) (I : Instance) (P : Migrated) : Type 0 where
  is-even : Even (mapping_of S T F)
  is_sigma : IsSigma (mapping_of S T F) (instance_of I) (instance_of P.tables)
  valid : ValidInstance T P.tables

sigma-known : (s t f i : List ℕ) {m : Migration} {I : Instance} {P : Migrated} → MigrationSound s t f m → judge_instance m.S i ≡ sound I → sigma_tables s t f i ≡ accepted P
    → SigmaKnown m.S m.T m.F I P
sigma-known s t f i {m} {I} {P} a b e =
    let r = sigma-accepted s t f i e in
    let q : r.0 ≡ m = accepted-same (sym (migration-accepts s t f r.2.migration_sound) ∙ migration-accepts s t f a) in
    let k : (J : Instance) × SigmaSound s t f i m J × (P ≡ sigma_result m J) = subst (λ (m : Migration). (J : Instance) × SigmaSound s t f i m J × (P ≡ sigma_result m J)) q (r.1, r.2, r.3) in
    subst (SigmaKnown m.S m.T m.F I) (sym (k.2 ∙ ap (sigma_result m) (sound-same (sym k.1.i_sound ∙ b)))) (of k.1.is-even)
  where
    of : even (listed_category m.S) (listed_category m.T) m.F ≡ true → SigmaKnown m.S m.T m.F I (sigma_result m I)
    of h =
        let v = mapping-valid s t f a.s_sound a.t_sound a.f_sound in
        let w = instance-valid m.S i b in
        let even = (even-iff v).0 h in
        record { is-even = even; is_sigma = sigma-is-sigma v even w; valid = sigma-valid v even w }

-- Sigma along the composition is accepted where Sigma along F and Sigma along G are
module _ (s t u f g i : List ℕ) {x : Composable} {I : Instance} (k : ComposeInputs s t u f g x) (e : judge_instance x.S i ≡ sound I) where
  sigma-composed : Even (mapping_f x) → Even (mapping_g x) → (Q : Migrated) × (sigma_tables s u (composed_sheet x) i ≡ accepted Q)
  sigma-composed a b =
      (sigma_answers s u (composed_sheet x) i (record { s_accepted = k.s_accepted; t_accepted = k.u_accepted; f_accepted = (composed-sound s t u f g k).f_sound; i_accepted = e })).result.1
      (even-composite (first-lendable s t u f g k) (second-lendable s t u f g k) a b)

  pub sigma_isomorphic : {h : List ℕ} {P R : Migrated} → compose s t u f g ≡ accepted h → sigma_tables s t f i ≡ accepted P → sigma_tables t u g (instance_sheet P.tables) ≡ accepted R
      → (Q : Migrated) × (sigma_tables s u h i ≡ accepted Q) × SigmaIsomorphic (mapping_f x) (mapping_g x) (instance_of I) (instance_of P.tables) (instance_of Q.tables) (instance_of R.tables)
  sigma_isomorphic {h} {P} {R} c p r =
      let F = first-lendable s t u f g k in
      let G = second-lendable s t u f g k in
      let h-is : composed_sheet x ≡ h = accepted-same (sym (compose-accepts s t u f g k) ∙ c) in
      let a = sigma-known s t f i (first-sound s t u f g k) e p in
      let d = sigma-known t u g (instance_sheet P.tables) (second-sound s t u f g k) (valid-lent-again a.valid) r in
      let q = sigma-composed a.is-even d.is-even in
      let b = sigma-known s u (composed_sheet x) i (composed-sound s t u f g k) e q.1 in
      let along = sigma-same (theory_composition.composite (mapping_f x) (mapping_g x)) (mapping_of x.S x.U (composite x.F x.G)) (composite-images F G) F.valid.is.s_is b.is_sigma in (
        q.0,
        ap (λ (l : List ℕ). sigma_tables s u l i) (sym h-is) ∙ q.1,
        theory_sigma.sigma_isomorphic (mapping_f x) (mapping_g x) F.valid.is G.valid.is a.is-even d.is-even (instance-valid x.S i e).is a.is_sigma along d.is_sigma,
      )
