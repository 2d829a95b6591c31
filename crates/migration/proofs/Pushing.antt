-- What the steps of Sigma say together: judged sheets, the test of evenness, and the size of the result.
use Prim.Native.Nat.{ℕ}
use mathlib.Core.Path.{◌≡◌, refl, sym, ap, ◌∙◌}
use mathlib.Core.List.{List}
use Rattle.std.specs.Prelude.{Result}
use Rattle.meaning.specs.Evenness.{even}
use Rattle.meaning.specs.Judge.{judge_instance}
use Rattle.meaning.specs.Calls as meaning
use Rattle.meaning.specs.Calls.{Outcome, accepted, ◌>>=◌, at, ensure, Migration, migration, sigma_tables}
use Rattle.meaning.specs.Category.{listed_category}
use Rattle.meaning.specs.Changes as changes
use Rattle.meaning.specs.Changes.{even_run}
use Rattle.instance.specs.declared.Instance.{Instance}
use Rattle.steps.specs.declared.Refusal.{Refusal}
use Rattle.steps.specs.declared.open.Opened.{Opened}
use Rattle.steps.specs.declared.results.Migrated.{Migrated}
use Rattle.steps.specs.Runs.{RunInput, run_input, pushed_run, evenly_pushed, run_input_of, run_of}
use Rattle.steps.specs.Migrated.{Migrates}
use Rattle.steps.proofs.Refusing.{bind_assoc}

abbrev rest : RunInput → Outcome meaning.Migrated
rest y = ensure (even (listed_category y.m.S) (listed_category y.m.T) y.m.F) 12 >>= λ _. pushed_run y

-- Sigma of a run behind the test of evenness
abbrev pushed : changes.Run → Outcome meaning.Migrated
pushed x = pushed_run (record { m = x.m; run = x.tables })

even-run : (M : Outcome Migration) (i : List ℕ) → (even_run M i >>= pushed) ≡ evenly_pushed (run_input M i)
even-run M i =
    bind_assoc M _ pushed _ (λ m. bind_assoc (at 4 (judge_instance m.S i)) _ pushed _ (λ I. bind_assoc (ensure (even (listed_category m.S) (listed_category m.T) m.F) 12) _ pushed _ (λ _. refl)))
    ∙ sym (bind_assoc M _ rest _ (λ m. bind_assoc (at 4 (judge_instance m.S i)) _ rest _ (λ I. refl)))

-- a run that was opened, and Sigma of it
pub run-pushed : (M : Outcome Migration) (i : List ℕ) (o : Opened) (run : Instance) (run-links run-values : List ℕ) {m : Result Migrated Refusal} {links values : List ℕ}
    → accepted (run_of o run run-links run-values) ≡ even_run M i → Migrates m links values (pushed_run (run_input_of o run run-links run-values)) → Migrates m links values (evenly_pushed (run_input M i))
run-pushed M i o run run-links run-values e u = record { says = u.says ∙ ap (λ (x : Outcome changes.Run). x >>= pushed) e ∙ even-run M i; writable = u.writable }

-- the steps, of the sheets that were opened
pub sigma-told : {M : Outcome Migration} (s t f i : List ℕ) → M ≡ migration s t f → evenly_pushed (run_input M i) ≡ sigma_tables s t f i
sigma-told s t f i e =
    ap (λ (M : Outcome Migration). evenly_pushed (run_input M i)) e
    ∙ bind_assoc (migration s t f) _ rest _ (λ m. bind_assoc (at 4 (judge_instance m.S i)) _ rest _ (λ I. refl))
