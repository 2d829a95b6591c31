-- What an accepted call has passed: its sheets are judged sound, its tests pass, and its result is the one of the definitions; and the other way.
use Prim.Native.Nat.{ℕ, ◌≤◌}
use mathlib.Core.Path.{◌≡◌, refl, sym, ap, subst}
use mathlib.Core.Bool.{Bool, true, false}
use mathlib.Core.List.{List}
use lib.Dec.{leb}
use borrow.Author.Tests.{leb-true, le-leb}
use Rattle.meaning.specs.Category.{listed_category}
use Rattle.meaning.specs.Lists.{sum_of}
use Rattle.meaning.specs.Sheet.{Judged, faulty, sound}
use Rattle.meaning.specs.Formats.{Instance, max_rows}
use Rattle.meaning.specs.Judge.{judge_schema, judge_mapping, judge_instance}
use Rattle.meaning.specs.Delta.{delta}
use Rattle.meaning.specs.Evenness.{even}
use Rattle.meaning.specs.Sigma.{sigma}
use Rattle.meaning.specs.Pi.{is_bijective, has_few_components, pi}
use Rattle.meaning.specs.Calls.{Outcome, refused, accepted, ◌>>=◌, at, ensure, ensure_fits, Migration, migration, Migrated, delta_tables, sigma_tables, pi_tables, Sides, sides}
use Rattle.meaning.specs.Changes.{Run, judge_run}
use Rattle.agreement.proofs.Tests.{refused-not-accepted, accepted-same}

-- ---- one step
pub at-accepted : {A : Type 0} (place : ℕ) (j : Judged A) {a : A} → at place j ≡ accepted a → j ≡ sound a
at-accepted place (faulty n) e = absurd (refused-not-accepted e)
at-accepted place (sound b) e = ap sound (accepted-same e)

module _ {A B : Type 0} where
  pub bind-accepted : (o : Outcome A) (k : A → Outcome B) {b : B} → (o >>= k) ≡ accepted b → (a : A) × (o ≡ accepted a) × (k a ≡ accepted b)
  bind-accepted (refused n p) k e = absurd (refused-not-accepted e)
  bind-accepted (accepted a) k e = (a, refl, e)

  -- a judged sheet, and what comes after it
  pub sheet-accepted : (place : ℕ) (j : Judged A) (k : A → Outcome B) {b : B} → (at place j >>= k) ≡ accepted b → (a : A) × (j ≡ sound a) × (k a ≡ accepted b)
  sheet-accepted place (faulty n) k e = absurd (refused-not-accepted e)
  sheet-accepted place (sound a) k e = (a, refl, e)

-- a test passed, and what comes after it
pub ensure-accepted : {B : Type 0} (t : Bool) (n : ℕ) (k : Unit {0} → Outcome B) {b : B} → (ensure t n >>= k) ≡ accepted b → (t ≡ true) × (k tt ≡ accepted b)
ensure-accepted true n k e = (refl, e)
ensure-accepted false n k e = absurd (refused-not-accepted e)

fits-accepted : {B : Type 0} (J : Instance) (k : Instance → Outcome B) {b : B} → (ensure_fits J >>= k) ≡ accepted b → (sum_of J.counts ≤ max_rows) × (k J ≡ accepted b)
fits-accepted J k {b} e = go (leb (sum_of J.counts) max_rows) refl e
  where
    go : (t : Bool) → leb (sum_of J.counts) max_rows ≡ t → ((ensure t 15 >>= λ _. accepted J) >>= k) ≡ accepted b → (sum_of J.counts ≤ max_rows) × (k J ≡ accepted b)
    go true d e = (leb-true (sum_of J.counts) max_rows d, e)
    go false d e = absurd (refused-not-accepted e)

-- ---- S, T and a mapping
pub record MigrationSound (s t f : List ℕ) (m : Migration) : Type 0 where
  pub s_sound : judge_schema s ≡ sound m.S
  pub t_sound : judge_schema t ≡ sound m.T
  pub f_sound : judge_mapping (listed_category m.S) (listed_category m.T) f ≡ sound m.F

module _ (s t f : List ℕ) where
  pub migration-accepted : {m : Migration} → migration s t f ≡ accepted m → MigrationSound s t f m
  migration-accepted {m} e =
      let a = sheet-accepted 1 (judge_schema s) _ e in
      let b = sheet-accepted 2 (judge_schema t) _ a.2 in
      let c = sheet-accepted 3 (judge_mapping (listed_category a.0) (listed_category b.0) f) _ b.2 in
      subst (MigrationSound s t f) (accepted-same c.2) (record { s_sound = a.1; t_sound = b.1; f_sound = c.1 })

  pub migration-accepts : {m : Migration} → MigrationSound s t f m → migration s t f ≡ accepted m
  migration-accepts h = rw (h.s_sound, h.t_sound, h.f_sound)

-- ---- the three migrations
pub record DeltaSound (s t f j : List ℕ) (m : Migration) (J : Instance) : Type 0 where
  pub migration_sound : MigrationSound s t f m
  pub j_sound : judge_instance m.T j ≡ sound J
  pub fits : sum_of (delta m.S m.F J).counts ≤ max_rows

abbrev pub delta_result : Migration → Instance → Migrated
delta_result m J = record { schema = m.S; tables = delta m.S m.F J }

module _ (s t f j : List ℕ) where
  pub delta-accepted : {D : Migrated} → delta_tables s t f j ≡ accepted D → (m : Migration) × (J : Instance) × DeltaSound s t f j m J × (D ≡ delta_result m J)
  delta-accepted e =
      let a = bind-accepted (migration s t f) _ e in
      let m = a.0 in
      let b = sheet-accepted 4 (judge_instance m.T j) _ a.2 in
      let c = fits-accepted (delta m.S m.F b.0) _ b.2 in
      (m, b.0, record { migration_sound = migration-accepted s t f a.1; j_sound = b.1; fits = c.0 }, sym (accepted-same c.1))

  pub delta-accepts : {m : Migration} {J : Instance} → DeltaSound s t f j m J → delta_tables s t f j ≡ accepted (delta_result m J)
  delta-accepts {m} {J} h = rw (migration-accepts s t f h.migration_sound, h.j_sound, le-leb (sum_of (delta m.S m.F J).counts) max_rows h.fits)

pub record SigmaSound (s t f i : List ℕ) (m : Migration) (I : Instance) : Type 0 where
  pub migration_sound : MigrationSound s t f m
  pub i_sound : judge_instance m.S i ≡ sound I
  pub is-even : even (listed_category m.S) (listed_category m.T) m.F ≡ true
  pub fits : sum_of (sigma (listed_category m.S) (listed_category m.T) m.F I).counts ≤ max_rows

abbrev pub sigma_result : Migration → Instance → Migrated
sigma_result m I = record { schema = m.T; tables = sigma (listed_category m.S) (listed_category m.T) m.F I }

module _ (s t f i : List ℕ) where
  pub sigma-accepted : {P : Migrated} → sigma_tables s t f i ≡ accepted P → (m : Migration) × (I : Instance) × SigmaSound s t f i m I × (P ≡ sigma_result m I)
  sigma-accepted e =
      let a = bind-accepted (migration s t f) _ e in
      let m = a.0 in
      let b = sheet-accepted 4 (judge_instance m.S i) _ a.2 in
      let c = ensure-accepted (even (listed_category m.S) (listed_category m.T) m.F) 12 _ b.2 in
      let d = fits-accepted (sigma (listed_category m.S) (listed_category m.T) m.F b.0) _ c.1 in
      (m, b.0, record { migration_sound = migration-accepted s t f a.1; i_sound = b.1; is-even = c.0; fits = d.0 }, sym (accepted-same d.1))

  pub sigma-accepts : {m : Migration} {I : Instance} → SigmaSound s t f i m I → sigma_tables s t f i ≡ accepted (sigma_result m I)
  sigma-accepts {m} {I} h =
      let n = sum_of (sigma (listed_category m.S) (listed_category m.T) m.F I).counts in
      rw (migration-accepts s t f h.migration_sound, h.i_sound, h.is-even, le-leb n max_rows h.fits)

pub record PiSound (s t f i : List ℕ) (m : Migration) (I : Instance) : Type 0 where
  pub migration_sound : MigrationSound s t f m
  pub i_sound : judge_instance m.S i ≡ sound I
  pub is-bijective : is_bijective m.T m.F ≡ true
  pub few_components : has_few_components (listed_category m.S) (listed_category m.T) m.F ≡ true
  pub fits : sum_of (pi (listed_category m.S) (listed_category m.T) m.F I).counts ≤ max_rows

abbrev pub pi_result : Migration → Instance → Migrated
pi_result m I = record { schema = m.T; tables = pi (listed_category m.S) (listed_category m.T) m.F I }

module _ (s t f i : List ℕ) where
  pub pi-accepted : {P : Migrated} → pi_tables s t f i ≡ accepted P → (m : Migration) × (I : Instance) × PiSound s t f i m I × (P ≡ pi_result m I)
  pi-accepted e =
      let a = bind-accepted (migration s t f) _ e in
      let m = a.0 in
      let b = sheet-accepted 4 (judge_instance m.S i) _ a.2 in
      let c = ensure-accepted (is_bijective m.T m.F) 13 _ b.2 in
      let n = ensure-accepted (has_few_components (listed_category m.S) (listed_category m.T) m.F) 14 _ c.1 in
      let d = fits-accepted (pi (listed_category m.S) (listed_category m.T) m.F b.0) _ n.1 in
      (m, b.0, record { migration_sound = migration-accepted s t f a.1; i_sound = b.1; is-bijective = c.0; few_components = n.0; fits = d.0 }, sym (accepted-same d.1))

  pub pi-accepts : {m : Migration} {I : Instance} → PiSound s t f i m I → pi_tables s t f i ≡ accepted (pi_result m I)
  pi-accepts {m} {I} h =
      let n = sum_of (pi (listed_category m.S) (listed_category m.T) m.F I).counts in
      rw (migration-accepts s t f h.migration_sound, h.i_sound, h.is-bijective, h.few_components, le-leb n max_rows h.fits)

-- ---- the run and the book, with both migrated tables
pub record SidesSound (s t f i j : List ℕ) (x : Sides) : Type 0 where
  pub migration_sound : MigrationSound s t f x.m
  pub run_sound : judge_instance x.m.S i ≡ sound x.run
  pub book_sound : judge_instance x.m.T j ≡ sound x.book
  pub is-even : even (listed_category x.m.S) (listed_category x.m.T) x.m.F ≡ true
  pub pushed_is : x.pushed ≡ sigma (listed_category x.m.S) (listed_category x.m.T) x.m.F x.run
  pub pulled_is : x.pulled ≡ delta x.m.S x.m.F x.book
  pub pushed_fits : sum_of x.pushed.counts ≤ max_rows
  pub pulled_fits : sum_of x.pulled.counts ≤ max_rows

module _ (s t f i j : List ℕ) where
  pub sides-accepted : {x : Sides} → sides s t f i j ≡ accepted x → SidesSound s t f i j x
  sides-accepted e =
      let a = bind-accepted (migration s t f) _ e in
      let m = a.0 in
      let b = sheet-accepted 4 (judge_instance m.S i) _ a.2 in
      let c = sheet-accepted 5 (judge_instance m.T j) _ b.2 in
      let d = ensure-accepted (even (listed_category m.S) (listed_category m.T) m.F) 12 _ c.2 in
      let p = fits-accepted (sigma (listed_category m.S) (listed_category m.T) m.F b.0) _ d.1 in
      let q = fits-accepted (delta m.S m.F c.0) _ p.1 in
      subst (SidesSound s t f i j) (accepted-same q.1) (record {
        migration_sound = migration-accepted s t f a.1;
        run_sound = b.1;
        book_sound = c.1;
        is-even = d.0;
        pushed_is = refl;
        pulled_is = refl;
        pushed_fits = p.0;
        pulled_fits = q.0;
      })

  pub sides-accepts : {x : Sides} → SidesSound s t f i j x → sides s t f i j ≡ accepted x
  sides-accepts {x} h =
      let pushed_fits : sum_of (sigma (listed_category x.m.S) (listed_category x.m.T) x.m.F x.run).counts ≤ max_rows = rw h.pushed_is at h.pushed_fits in
      let pulled_fits : sum_of (delta x.m.S x.m.F x.book).counts ≤ max_rows = rw h.pulled_is at h.pulled_fits in
      rw (
        migration-accepts s t f h.migration_sound,
        h.run_sound,
        h.book_sound,
        h.is-even,
        le-leb (sum_of (sigma (listed_category x.m.S) (listed_category x.m.T) x.m.F x.run).counts) max_rows pushed_fits,
        le-leb (sum_of (delta x.m.S x.m.F x.book).counts) max_rows pulled_fits,
        ← h.pushed_is,
        ← h.pulled_is,
      )

-- ---- a run that is to be changed
pub record RunSound (s t f i : List ℕ) (x : Run) : Type 0 where
  pub migration_sound : MigrationSound s t f x.m
  pub tables_sound : judge_instance x.m.S i ≡ sound x.tables
  pub is-even : even (listed_category x.m.S) (listed_category x.m.T) x.m.F ≡ true

module _ (s t f i : List ℕ) where
  pub run_accepted : {x : Run} → judge_run s t f i ≡ accepted x → RunSound s t f i x
  run_accepted e =
      let a = bind-accepted (migration s t f) _ e in
      let m = a.0 in
      let b = sheet-accepted 4 (judge_instance m.S i) _ a.2 in
      let c = ensure-accepted (even (listed_category m.S) (listed_category m.T) m.F) 12 _ b.2 in
      subst (RunSound s t f i) (accepted-same c.1) (record { migration_sound = migration-accepted s t f a.1; tables_sound = b.1; is-even = c.0 })

  pub run-accepts : {x : Run} → RunSound s t f i x → judge_run s t f i ≡ accepted x
  run-accepts h = rw (migration-accepts s t f h.migration_sound, h.tables_sound, h.is-even)
