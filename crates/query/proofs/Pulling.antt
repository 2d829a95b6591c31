-- Delta of the run: what it relies on, and what it says.
use Prim.Native.Nat.{ℕ, ◌≤◌}
use mathlib.Core.Path.{◌≡◌, sym, subst}
use mathlib.Core.Bool.{true}
use mathlib.Core.List.{List}
use lib.Dec.{leb}
use Rattle.meaning.specs.Lists.{sum_of}
use Rattle.meaning.specs.Formats as formats
use Rattle.meaning.specs.Formats.{max_rows, kinds}
use Rattle.meaning.specs.Judge.{links_in_range}
use Rattle.meaning.specs.Calls.{accepted, ensure}
use Rattle.agreement.specs.Valid.{ValidInstance}
use Rattle.agreement.proofs.Instances.{links-iff}
use Rattle.agreement.proofs.Delta.{delta-valid}
use Rattle.schema.specs.Decoded.{schema_of, front_of}
use Rattle.instance.specs.declared.Instance.{Instance}
use Rattle.instance.specs.Decoded.{tables_of}
use Rattle.delta.specs.Pulled.{delta_of, Fitting, Pulled}
use Rattle.pi.specs.declared.components.Components.{Components}
use Rattle.steps.proofs.Validity.{sound-valid}
use Rattle.query.specs.declared.open.Query.{Query}
use Rattle.query.specs.Opened.{Ready}
use Rattle.query.specs.Steps.{Joinable, Migratable}
use Rattle.query.proofs.SizeTests.{passed, fit}

module _ {q : Query} {k : Components} {run : Instance} {run-links run-values : List ℕ} (X : Migratable q k run run-links run-values) where
  abbrev I : formats.Instance
  I = tables_of q.first run run-links run-values

  abbrev D : formats.Instance
  D = delta_of q.second.schema q.first q.f run run-links run-values

  ready : Ready q
  ready = X.tested.testable.ready

  -- what Delta relies on
  pub fitting : Fitting q.second.schema q.first q.f
  fitting = record { source = ready.schemas.second.sound; target = ready.schemas.first; short = ready.f.short; fits = ready.f.fits }

  pub run-links-in : links_in_range (schema_of q.first) I ≡ true
  run-links-in = (links-iff kinds (schema_of q.first) I X.valid.shaped).1 X.valid.is.link-in

  module _ {d : Instance} {links values : List ℕ} (U : Pulled q.second.schema q.first q.f run run-links run-values d links values)
      (t : accepted tt ≡ ensure (leb (sum_of (front_of q.second.schema.graph.nodes d.counts)) max_rows) 15) where
    few : leb (sum_of D.counts) max_rows ≡ true
    few = subst (λ (J : formats.Instance). leb (sum_of J.counts) max_rows ≡ true) U.says (passed (leb (sum_of (front_of q.second.schema.graph.nodes d.counts)) max_rows) 15 t)

    pub joinable : Joinable q k d links values
    joinable = record {
      tested = X.tested;
      limits = record { rows = subst (λ (J : formats.Instance). sum_of J.counts ≤ 512) (sym U.says) (fit D few); long = U.long };
      valid = subst (ValidInstance (schema_of q.second.schema)) (sym U.says)
          (delta-valid (sound-valid ready.schemas.second.sound ready.schemas.first ready.f) I X.valid (fit D few));
    }
