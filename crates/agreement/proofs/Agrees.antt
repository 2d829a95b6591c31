-- Accepted schemas and the results of Delta, Sigma and Pi agree with the theory; and a result's sheet has no more bytes than an instance sheet can have.
use Prim.Native.Nat.{ℕ, ◌≤◌}
use mathlib.Core.Path.{◌≡◌, refl, sym, subst}
use mathlib.Core.List.{List}
use lib.ListN.{length}
use Rattle.theory.specs.Schema.{IsSchema}
use Rattle.theory.proofs.Instance.{follow-chain}
use Rattle.meaning.specs.Schema.{Schema}
use Rattle.meaning.specs.Sheet.{sound}
use Rattle.meaning.specs.Formats.{Instance, max_instance_bytes, instance_sheet}
use Rattle.meaning.specs.Views.{schema_of}
use Rattle.meaning.specs.Judge.{judge_schema, judge_instance}
use Rattle.meaning.specs.Calls.{Outcome, accepted, Migration, Migrated, delta_tables, sigma_tables, pi_tables, sheet_of}
use Rattle.meaning.proofs.Facts.{schema-facts}
use Rattle.meaning.proofs.Written.{instance-bytes}
use Rattle.agreement.specs.Valid.{ValidInstance}
use Rattle.agreement.specs.Agrees.{SchemaAgrees, Lendable, Inputs, DeltaAgrees, SigmaAgrees, PiAgrees}
use Rattle.agreement.proofs.Paths.{schema_is, paths-listed}
use Rattle.agreement.proofs.Loops.{height-is}
use Rattle.agreement.proofs.FirstPaths.{class-iff, class-sorted, first-is}
use Rattle.agreement.proofs.Categories.{equal-paths-iff, unequal, schema-well-formed, listed-category}
use Rattle.agreement.proofs.Tests.{accepted-same}
use Rattle.agreement.proofs.Accepted.{bind-accepted, MigrationSound, DeltaSound, delta_result, delta-accepted, SigmaSound, sigma_result, sigma-accepted, PiSound, pi_result, pi-accepted}
use Rattle.agreement.proofs.Valid.{mapping-valid, instance-valid, valid-lent-again}
use Rattle.agreement.proofs.Evenness.{even-iff}
use Rattle.agreement.proofs.Delta.{delta-alike, delta-valid}
use Rattle.agreement.proofs.Sigma.{sigma-is-sigma, sigma-valid}
use Rattle.agreement.proofs.Bijections.{bijective-iff}
use Rattle.agreement.proofs.Pi.{pi-valid, pi-is-pi}

pub schema_agrees : (s : List ℕ) {S : Schema} → judge_schema s ≡ sound S → SchemaAgrees S
schema_agrees s {S} e =
    let f = schema-facts s e in
    let wf = schema-well-formed f in
    record {
      is_schema = schema_is S f.well-formed;
      paths = paths-listed S wf;
      equality = equal-paths-iff (listed-category S wf);
      apart = unequal (listed-category S wf);
      class = class-iff S wf;
      class_in_order = class-sorted S;
      first = first-is S wf;
      heights = height-is S f.well-formed f.loop_free;
    }

-- ---- migrated tables

pub lendable : {S : Schema} {I : Instance} → IsSchema (schema_of S) → ValidInstance S I → Lendable S I
lendable s_is v = record { valid = v; obeys = λ n p q h c. follow-chain s_is v.is n c h; lent_again = valid-lent-again v }

-- the sheet of such tables, and of a call's result
pub lendable-within : {S : Schema} {I : Instance} (s : List ℕ) → judge_schema s ≡ sound S → Lendable S I → length (instance_sheet I) ≤ max_instance_bytes
lendable-within {S} {I} s e l = instance-bytes S (schema-facts s e) (instance_sheet I) l.lent_again

pub sheet-within : (o : Outcome Migrated) (n : ℕ) → ((M : Migrated) → o ≡ accepted M → length (instance_sheet M.tables) ≤ n)
    → (bytes : List ℕ) → sheet_of o ≡ accepted bytes → length bytes ≤ n
sheet-within o n h bytes e =
    let a = bind-accepted o (λ M. accepted (instance_sheet M.tables)) e in
    let k : instance_sheet a.0.tables ≡ bytes = accepted-same a.2 in
    rw k at (h a.0 a.1)

pub inputs : {s t f i : List ℕ} {m : Migration} {R : Schema} {I : Instance} → MigrationSound s t f m → judge_instance R i ≡ sound I → Inputs s t f i m.S m.T R m.F I
inputs a e = record { s_accepted = a.s_sound; t_accepted = a.t_sound; f_accepted = a.f_sound; i_accepted = e }

pub delta_agrees : (s t f j : List ℕ) {M : Migrated} → delta_tables s t f j ≡ accepted M → DeltaAgrees s t f j M
delta_agrees s t f j e = let r = delta-accepted s t f j e in subst (DeltaAgrees s t f j) (sym r.3) (of r.0 r.1 r.2)
  where
    of : (m : Migration) (J : Instance) → DeltaSound s t f j m J → DeltaAgrees s t f j (delta_result m J)
    of m J d =
        let a = d.migration_sound in
        let v = mapping-valid s t f a.s_sound a.t_sound a.f_sound in
        record {
          S = m.S;
          T = m.T;
          F = m.F;
          J = J;
          inputs = inputs a d.j_sound;
          schema_is = refl;
          is_delta = delta-alike v J;
          lendable = lendable v.is.s_is (delta-valid v J (instance-valid m.T j d.j_sound) d.fits);
        }

pub sigma_agrees : (s t f i : List ℕ) {M : Migrated} → sigma_tables s t f i ≡ accepted M → SigmaAgrees s t f i M
sigma_agrees s t f i e = let r = sigma-accepted s t f i e in subst (SigmaAgrees s t f i) (sym r.3) (of r.0 r.1 r.2)
  where
    of : (m : Migration) (I : Instance) → SigmaSound s t f i m I → SigmaAgrees s t f i (sigma_result m I)
    of m I d =
        let a = d.migration_sound in
        let v = mapping-valid s t f a.s_sound a.t_sound a.f_sound in
        let w = instance-valid m.S i d.i_sound in
        let even = (even-iff v).0 d.is-even in
        record {
          S = m.S;
          T = m.T;
          F = m.F;
          I = I;
          inputs = inputs a d.i_sound;
          schema_is = refl;
          is-even = even;
          is_sigma = sigma-is-sigma v even w;
          lendable = lendable v.is.t_is (sigma-valid v even w);
        }

pub pi_agrees : (s t f i : List ℕ) {M : Migrated} → pi_tables s t f i ≡ accepted M → PiAgrees s t f i M
pi_agrees s t f i e = let r = pi-accepted s t f i e in subst (PiAgrees s t f i) (sym r.3) (of r.0 r.1 r.2)
  where
    of : (m : Migration) (I : Instance) → PiSound s t f i m I → PiAgrees s t f i (pi_result m I)
    of m I d =
        let a = d.migration_sound in
        let v = mapping-valid s t f a.s_sound a.t_sound a.f_sound in
        let paired = (bijective-iff v).0 d.is-bijective in
        record {
          S = m.S;
          T = m.T;
          F = m.F;
          I = I;
          inputs = inputs a d.i_sound;
          schema_is = refl;
          is-bijective = paired;
          is_pi = pi-is-pi v I paired;
          lendable = lendable v.is.t_is (pi-valid v I paired (instance-valid m.S i d.i_sound) d.fits);
        }
