-- Sigma of a changed run, which has as many rows, and a change as a whole: what its steps say together.
use Prim.Native.Nat.{ℕ, ◌≤◌}
use mathlib.Core.Path.{◌≡◌, refl, sym, ap, subst, ◌∙◌}
use mathlib.Core.Bool.{true}
use mathlib.Core.List.{List}
use Rattle.meaning.specs.Lists.{sum_of}
use Rattle.meaning.specs.Formats as formats
use Rattle.meaning.specs.Evenness.{even}
use Rattle.meaning.specs.Sigma.{sigma}
use Rattle.meaning.specs.Formats.{instance_sheet}
use Rattle.meaning.specs.Calls.{Outcome, accepted, ◌>>=◌}
use Rattle.meaning.specs.Changes as changes
use Rattle.meaning.specs.Changes.{Sheets, even_run, sheets_of}
use Rattle.agreement.proofs.Evenness.{even-iff}
use Rattle.agreement.proofs.Sigma.{sigma-valid}
use Rattle.schema.specs.Decoded.{schema_of, category_of}
use Rattle.mapping.specs.Decoded.{mapping_of}
use Rattle.instance.specs.declared.Instance.{Instance}
use Rattle.instance.specs.Decoded.{tables_of, Limits}
use Rattle.instance.proofs.Validity.{accepted-valid}
use Rattle.sigma.specs.Pushed.{Pushed}
use Rattle.steps.specs.declared.open.Opened.{Opened}
use Rattle.steps.specs.Opened.{migration_of, Ready}
use Rattle.steps.specs.Runs.{run_of, PushableRun}
use Rattle.steps.proofs.Validity.{ready-valid}
use Rattle.changes.specs.declared.tables.Kind.{Kind}
use Rattle.changes.specs.Changed.{changed_by, changed_sheets, AcceptedRun, sheets_in}

module _ {o : Opened} (R : Ready o) (e : even (category_of o.source) (category_of o.target) (mapping_of o.source o.mapping) ≡ true) {run : Instance} {run-links run-values : List ℕ} (U : AcceptedRun o.source run run-links run-values) where
  pub pushable : PushableRun o run run-links run-values
  pushable = record { schemas = R.schemas; mapping = R.mapping; is-even = e; limits = U.limits; links_in = U.accepted.links_in }

  few_rows : sum_of (sigma (category_of o.source) (category_of o.target) (mapping_of o.source o.mapping) (tables_of o.source run run-links run-values)).counts ≤ 512
  few_rows =
      let v = ready-valid R in
      (sigma-valid v ((even-iff v).0 e) (accepted-valid U.sound run run-links run-values U.limits U.accepted)).few_rows

  pub pushed-limits : {p : Instance} {links values : List ℕ} → Pushed o.source o.target o.mapping run run-links run-values p links values → Limits o.target p
  pushed-limits u = record { rows = subst (λ (P : formats.Instance). sum_of P.counts ≤ 512) (sym u.says) few_rows; long = u.long }

module _ (k : Kind) (o : Opened) (i : List ℕ) (c : ℕ) (row : List ℕ) where
  pub sheets-told : (run after p : Instance) (bl bv rl rv l v : List ℕ) → accepted (run_of o run bl bv) ≡ even_run (accepted (migration_of o)) i
      → accepted (tables_of o.source after rl rv) ≡ changed_by k (schema_of o.source) (tables_of o.source run bl bv) c row
      → tables_of o.target p l v ≡ sigma (category_of o.source) (category_of o.target) (mapping_of o.source o.mapping) (tables_of o.source after rl rv)
      → accepted (sheets_in o (record { run = after; pushed = p }) rl rv l v) ≡ changed_sheets k (accepted (migration_of o)) i c row
  sheets-told run after p bl bv rl rv l v E C S =
      ap (λ (P : formats.Instance). accepted (record { run = instance_sheet (tables_of o.source after rl rv); pushed = instance_sheet P })) S
      ∙ ap (λ (X : Outcome formats.Instance). X >>= λ J. accepted (sheets_of (run_of o run bl bv) J)) C
      ∙ ap (λ (X : Outcome changes.Run). X >>= λ x. changed_by k x.m.S x.tables c row >>= λ J. accepted (sheets_of x J)) E
