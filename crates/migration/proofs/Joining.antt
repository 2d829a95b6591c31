-- What the steps of Pi say together: judged sheets, tests 13 and 14, the size of the result, and its tables.
use Prim.Native.Nat.{ℕ, ◌≤◌}
use mathlib.Core.Path.{◌≡◌, refl, sym, ap, subst, ◌∙◌}
use mathlib.Core.Bool.{Bool, true, false}
use mathlib.Core.List.{List}
use Rattle.std.specs.Prelude.{Ok, Err}
use lib.Dec.{leb}
use lib.ListN.{length}
use Rattle.meaning.specs.Lists.{sum_of}
use Rattle.meaning.specs.Formats as formats
use Rattle.meaning.specs.Pi.{is_bijective, has_few_components}
use Rattle.meaning.specs.Judge.{judge_instance}
use Rattle.meaning.specs.Calls as meaning
use Rattle.meaning.specs.Calls.{Outcome, refused, accepted, at, ensure, Migration, migration, pi_tables, ◌>>=◌}
use Rattle.meaning.specs.Category.{listed_category}
use Rattle.schema.specs.Decoded.{schema_of, category_of}
use Rattle.schema.specs.Judged.{Sound}
use Rattle.instance.specs.declared.Instance.{Instance}
use Rattle.instance.specs.Decoded.{tables_of, RoomFor}
use Rattle.pi.specs.declared.components.Components.{Components}
use Rattle.pi.specs.declared.families.Listing.{Listing}
use Rattle.pi.specs.Components.{AllComponents}
use Rattle.pi.specs.Families.{AllFamilies}
use Rattle.pi.specs.Tables.{pi_of, Made, ListsPi}
use Rattle.pi.proofs.Tables.{lists-pi}
use Rattle.steps.specs.declared.Refusal.{Refusal}
use Rattle.steps.specs.declared.open.Opened.{Opened}
use Rattle.migration.specs.declared.joins.Joined.{Joined}
use Rattle.steps.specs.Opened.{migration_of, Ready, SoundTables}
use Rattle.steps.specs.Runs.{RunInput, run_input, run_input_of}
use Rattle.steps.specs.Tests.{joinable}
use Rattle.migration.specs.Joins.{joined_run, tested_joined, ListedRun, Joins}
use Rattle.steps.specs.Migrated.{Writable}
use Rattle.agreement.proofs.Tests.{refused-not-accepted}
use Rattle.steps.proofs.Refusing.{bind_assoc}
use Rattle.steps.proofs.Opening.{mapped}

abbrev rest : RunInput → Outcome meaning.Migrated
rest y = ensure (is_bijective y.m.T y.m.F) 13 >>= λ _. ensure (has_few_components (listed_category y.m.S) (listed_category y.m.T) y.m.F) 14 >>= λ _. joined_run y

-- a test was passed
test-passed : (b : Bool) (n : ℕ) → accepted tt ≡ ensure b n → b ≡ true
test-passed true n e = refl
test-passed false n e = absurd (refused-not-accepted (sym e))

tests-passed : (a b : Bool) → accepted tt ≡ (ensure a 13 >>= λ _. ensure b 14) → (a ≡ true) × (b ≡ true)
tests-passed true b e = (refl, test-passed b 14 e)
tests-passed false b e = absurd (refused-not-accepted (sym e))

module _ (o : Opened) (run : Instance) (links values : List ℕ) where
  abbrev input : RunInput
  input = run_input_of o run links values

  abbrev tables : formats.Instance
  tables = pi_of o.source o.target o.mapping run links values

  abbrev made : formats.Instance → meaning.Migrated
  made J = record { schema = schema_of o.target; tables = J }

  -- the families make Pi's tables, or there are too many
  module _ {k : Components} {l : Listing} {rows : List ℕ} (R : Ready o) (I : SoundTables o.source run links values) (room : RoomFor o.source links values) (e : accepted tt ≡ joinable (migration_of o))
      (K : AllComponents o.source o.target o.mapping o.target.graph.nodes k) (L : AllFamilies o.source o.target o.mapping run links rows l) (long : length rows ≡ 32768) where
    both : (is_bijective input.m.T input.m.F ≡ true) × (has_few_components (category_of o.source) (category_of o.target) input.m.F ≡ true)
    both = tests-passed (is_bijective input.m.T input.m.F) (has_few_components (category_of o.source) (category_of o.target) input.m.F) e

    lists : ListsPi o.source o.target o.target_paths o.mapping run k links values l rows
    lists = lists-pi (record {
      mapped = mapped R;
      linked = record { limits = I.limits; room = room.for_links; links_in = I.accepted.links_in };
      values_long = room.for_values;
      bijective = both.0;
      gathered = record { all = K; few = both.1 };
    }) L long

    size-told : (ensure l.fits 15 >>= λ _. accepted (made tables)) ≡ joined_run input
    size-told = rw lists.fits (go (leb (sum_of tables.counts) 512))
      where
        go : (b : Bool) → (ensure b 15 >>= λ _. accepted (made tables)) ≡ ((ensure b 15 >>= λ _. accepted tables) >>= λ J. accepted (made J))
        go true = refl
        go false = refl

    -- of an accepted run, the tests and then the size are what is left
    told : (i : List ℕ) → accepted (tables_of o.source run links values) ≡ at 4 (judge_instance (schema_of o.source) i) → joined_run input ≡ tested_joined (run_input (accepted (migration_of o)) i)
    told i f =
        ap (λ (o : Outcome (Unit {0})). o >>= λ _. joined_run input) e
        ∙ bind_assoc (ensure (is_bijective input.m.T input.m.F) 13) _ (λ _. joined_run input) _ (λ _. refl)
        ∙ ap (λ (I : Outcome formats.Instance). (I >>= λ I. accepted (record { m = migration_of o; run = I })) >>= rest) f

    module _ (i : List ℕ) (f : accepted (tables_of o.source run links values) ≡ at 4 (judge_instance (schema_of o.source) i)) where
      pub families-joined : accepted tt ≡ ensure l.fits 15 → Joins o (Ok (record { run = run; components = k; counts = l.counts })) rows values (tested_joined (run_input (accepted (migration_of o)) i))
      families-joined d =
          let fit = test-passed l.fits 15 d in
          record {
            says = ap (λ (J : formats.Instance). accepted (made J)) (lists.says fit) ∙ ap (λ (o : Outcome (Unit {0})). o >>= λ _. accepted (made tables)) d ∙ size-told ∙ told i f;
            listed = lists.listed fit;
          }

      pub families-crowded : {r : Refusal} → refused r.number r.place ≡ ensure l.fits 15 → Joins o (Err r) rows values (tested_joined (run_input (accepted (migration_of o)) i))
      families-crowded d = record { says = ap (λ (o : Outcome (Unit {0})). o >>= λ _. accepted (made tables)) d ∙ size-told ∙ told i f; listed = tt }

-- the tables that families make, in working arrays
pub families-made : (o : Opened) (x : Joined) {rows values found read : List ℕ} {r : Instance} → Sound o.target → ListedRun o x rows values → RoomFor o.target found read
    → Made o.source o.target o.target_paths o.mapping x.run x.components x.counts rows values r found read → Writable (record { schema = o.target; tables = r }) found read
families-made o x S L R m = record { sound = S; limits = record { rows = subst (λ (J : formats.Instance). sum_of J.counts ≤ 512) (sym m.says) L.few; long = m.long }; room = R }

-- the steps, of the sheets that were opened
pub pi-told : {M : Outcome Migration} (s t f i : List ℕ) → M ≡ migration s t f → tested_joined (run_input M i) ≡ pi_tables s t f i
pi-told s t f i e =
    ap (λ (M : Outcome Migration). tested_joined (run_input M i)) e
    ∙ bind_assoc (migration s t f) _ rest _ (λ m. bind_assoc (at 4 (judge_instance m.S i)) _ rest _ (λ I. refl))
