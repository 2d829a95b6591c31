-- Pi of Delta's tables, and Sigma of Pi's: what each relies on, and what they say together.
use Prim.Native.Nat.{ℕ, ◌≤◌}
use mathlib.Core.Path.{◌≡◌, sym, ap, subst, ◌∙◌}
use mathlib.Core.Bool.{true}
use mathlib.Core.List.{List}
use lib.Dec.{leb}
use Rattle.meaning.specs.Lists.{sum_of}
use Rattle.meaning.specs.Formats as formats
use Rattle.meaning.specs.Formats.{max_rows, kinds}
use Rattle.meaning.specs.Judge.{links_in_range}
use Rattle.meaning.specs.Sigma.{sigma}
use Rattle.meaning.specs.Calls as meaning
use Rattle.meaning.specs.Calls.{Outcome, accepted, refused, ◌>>=◌, ensure, ensure_fits}
use Rattle.agreement.specs.Valid.{ValidMapping, ValidInstance}
use Rattle.agreement.proofs.Instances.{links-iff}
use Rattle.agreement.proofs.Bijections.{bijective-iff}
use Rattle.agreement.proofs.Pi.{pi-valid}
use Rattle.schema.specs.Decoded.{schema_of, category_of}
use Rattle.instance.specs.declared.Instance.{Instance}
use Rattle.instance.specs.Decoded.{tables_of, RoomFor}
use Rattle.pi.specs.declared.components.Components.{Components}
use Rattle.pi.specs.declared.families.Listing.{Listing}
use Rattle.pi.specs.Tables.{PiReady, pi_of, Listed, Made, ListsPi}
use Rattle.std.proofs.Common.{Result}
use Rattle.steps.specs.declared.Refusal.{Refusal}
use Rattle.steps.specs.declared.results.Migrated.{Migrated}
use Rattle.steps.specs.Opened.{opened_between}
use Rattle.steps.specs.Runs.{pushed_run, run_input_of, PushableRun}
use Rattle.steps.specs.Migrated.{Migrates}
use Rattle.steps.proofs.Opening.{mapped}
use Rattle.steps.proofs.Validity.{sound-valid}
use Rattle.query.specs.declared.open.Query.{Query}
use Rattle.query.specs.Opened.{query_of, Ready}
use Rattle.query.specs.Steps.{pushed_pi, Joinable}
use Rattle.query.proofs.Opening.{ready-g, ready-h}
use Rattle.query.proofs.SizeTests.{passed, fits, fit, stopped}

module _ {q : Query} {k : Components} {pulled : Instance} {links values : List ℕ} (J : Joinable q k pulled links values) where
  abbrev D : formats.Instance
  D = tables_of q.second.schema pulled links values

  abbrev P : formats.Instance
  P = pi_of q.second.schema q.third.schema q.g pulled links values

  abbrev pushed : formats.Instance → Outcome meaning.Migrated
  pushed P = ensure_fits (sigma (category_of q.third.schema) (category_of q.fourth.schema) (query_of q).H P) >>= λ Q. accepted (record { schema = schema_of q.fourth.schema; tables = Q })

  ready : Ready q
  ready = J.tested.testable.ready

  valid-g : ValidMapping (category_of q.second.schema) (category_of q.third.schema) (query_of q).G
  valid-g = sound-valid ready.schemas.second.sound ready.schemas.third.sound ready.g

  -- what Pi relies on
  pub pi-ready : RoomFor q.second.schema links values → PiReady q.second.schema q.third.schema q.third.paths q.g pulled k links values
  pi-ready R = record {
    mapped = mapped (ready-g ready);
    linked = record { limits = J.limits; room = R.for_links; links_in = (links-iff kinds (schema_of q.second.schema) D J.valid.shaped).1 J.valid.is.link-in };
    values_long = R.for_values;
    bijective = J.tested.bijective;
    gathered = record { all = J.tested.testable.components; few = J.tested.few };
  }

  module _ {l : Listing} {rows : List ℕ} (L : ListsPi q.second.schema q.third.schema q.third.paths q.g pulled k links values l rows) where
    -- there are too many families
    pub families-stopped : {n place : ℕ} → refused n place ≡ ensure l.fits 15 → refused n place ≡ pushed_pi (query_of q) D
    families-stopped e = stopped P L.fits e pushed

    module _ (t : accepted tt ≡ ensure l.fits 15) where
      all_fit : l.fits ≡ true
      all_fit = passed l.fits 15 t

      few : leb (sum_of P.counts) max_rows ≡ true
      few = sym L.fits ∙ all_fit

      pub families-listed : Listed q.second.schema q.third.schema q.third.paths q.g pulled k l.counts rows values
      families-listed = L.listed all_fit

      joined-valid : ValidInstance (schema_of q.third.schema) P
      joined-valid = pi-valid valid-g D ((bijective-iff valid-g).0 J.tested.bijective) J.valid (fit P few)

      module _ {r : Instance} {found read : List ℕ} (M : Made q.second.schema q.third.schema q.third.paths q.g pulled k l.counts rows values r found read) where
        made-is : tables_of q.third.schema r found read ≡ P
        made-is = M.says ∙ L.says all_fit

        -- Pi's tables can be pushed
        pub families-pushable : PushableRun (opened_between q.third q.fourth q.h) r found read
        families-pushable = record {
          schemas = (ready-h ready).schemas;
          mapping = ready.h;
          is-even = J.tested.is-even;
          limits = record { rows = subst (λ (I : formats.Instance). sum_of I.counts ≤ 512) (sym made-is) joined-valid.few_rows; long = M.long };
          links_in = subst (λ (I : formats.Instance). links_in_range (schema_of q.third.schema) I ≡ true) (sym made-is)
              ((links-iff kinds (schema_of q.third.schema) P joined-valid.shaped).1 joined-valid.is.link-in);
        }

        pub families-pushed : {m : Result Migrated Refusal} {l v : List ℕ} → Migrates m l v (pushed_run (run_input_of (opened_between q.third q.fourth q.h) r found read)) → Migrates m l v (pushed_pi (query_of q) D)
        families-pushed u = record {
          says = u.says ∙ ap pushed made-is ∙ ap (λ (o : Outcome formats.Instance). o >>= pushed) (sym (fits P few));
          writable = u.writable;
        }
