-- The tables of a run after a row was added or withdrawn, or the number with which that is refused.
use Prim.Native.Nat.{ℕ, suc, ◌+◌, ◌<◌, ◌≤◌}
use Rattle.std.proofs.Common.{Result, Ok, Err, rules}
use Rattle.schema.specs.declared.faults.Fault.{Fault}
use Rattle.schema.specs.Faults.{judged_of}
use mathlib.Core.Path.{◌≡◌, refl, sym, ap, subst, ◌∙◌}
use mathlib.Core.Bool.{Bool, true, false, not, cond}
use mathlib.Core.List.{List}
use native.Mathlib.Omega.{arith}
use borrow.Author.Tests.{lt-ltb, ltb-true}
use lib.Dec.{leb, ltb}
use lib.ListN.{get_or}
use Rattle.meaning.specs.Lists.{sum_of}
use Rattle.meaning.specs.Sheet.{Judged, sound, on_sheet}
use Rattle.meaning.specs.Formats as formats
use Rattle.meaning.specs.Formats.{kinds}
use Rattle.meaning.specs.Judge.{values_in_range}
use Rattle.meaning.specs.Views.{count}
use Rattle.meaning.specs.Rows as meaning
use Rattle.meaning.specs.Rows.{read_row, row_links_in_range, row_obeys_equations, judge_row, is_held}
use Rattle.meaning.specs.Calls.{Outcome, refused, accepted, ◌>>=◌, ensure}
use Rattle.meaning.specs.Changes.{addition, withdrawal}
use Rattle.meaning.proofs.Readers.{sound-same, bind-sound, ensure-sound}
use Rattle.agreement.specs.Valid.{ValidInstance}
use Rattle.agreement.proofs.Instances.{instance-iff}
use Rattle.agreement.proofs.Rows.{row_read, added-valid}
use Rattle.agreement.proofs.Withdrawals.{withdrawn-valid}
use Rattle.schema.specs.declared.Schema.{Schema}
use Rattle.schema.specs.Decoded.{front_of, schema_of}
use Rattle.paths.proofs.TablePaths.{formed}
use Rattle.instance.specs.declared.Instance.{Instance}
use Rattle.instance.specs.Decoded.{tables_of}
use Rattle.instance.specs.Tested.{Accepted}
use Rattle.instance.proofs.Following.{count_at}
use Rattle.instance.proofs.Validity.{accepted-valid}
use Rattle.rows.specs.Row.{row_of}
use Rattle.rows.specs.Changed.{Becomes}
use Rattle.rows.proofs.Changing.{added-rows}
use Rattle.changes.specs.Changed.{AcceptedRun, ChangesTo}

-- room for one more
room-test : (n m : ℕ) → m ≡ n + 1 → leb m 512 ≡ ltb n 512
room-test n m e = let d : m ≡ suc n = omega (arith, e) in ap (λ (k : ℕ). leb k 512) d

-- a test that was passed
passed : (b : Bool) (n : ℕ) → accepted tt ≡ ensure b n → b ≡ true
passed true n e = refl
passed false n e = search rules

-- an accepted row, at a table that is there
pub table-in : (t : Schema) (c : ℕ) → accepted tt ≡ ensure (ltb c t.graph.nodes) 18 → c < t.graph.nodes
table-in t c d = ltb-true c t.graph.nodes (passed (ltb c t.graph.nodes) 18 d)

pub judged-row : (t : Schema) (c : ℕ) (links values : List ℕ) (r : Result (Unit {0}) Fault) {J : Judged formats.Instance} → ((e : Fault) → r ≡ Err e → ⊥) → judged_of (λ _. row_of t c links values) r ≡ J → sound (row_of t c links values) ≡ J
judged-row t c links values (Ok u) n j = j
judged-row t c links values (Err e) n j = absurd (n e refl)

-- valid tables pass the tests
valid-accepted : {t : Schema} (i : Instance) (links values : List ℕ) → ValidInstance (schema_of t) (tables_of t i links values) → Accepted t i links values
valid-accepted {t} i links values v =
    let h = (instance-iff kinds (schema_of t) (tables_of t i links values) v.shaped).1 v.is in
    record { links_in = h.0; values_in = h.1; obeys = h.2 }

module _ (t : Schema) (run : Instance) (run-links run-values : List ℕ) (U : AcceptedRun t run run-links run-values) where
  abbrev I : formats.Instance
  I = tables_of t run run-links run-values

  valid : ValidInstance (schema_of t) I
  valid = accepted-valid U.sound run run-links run-values U.limits U.accepted

  module _ (c : ℕ) (row : List ℕ) where
    -- ---- a row added, to tables that have room for it
    module _ (h : c < t.graph.nodes) (links values : List ℕ) (j : sound (row_of t c links values) ≡ judge_row (schema_of t) I c row) where
      abbrev R : formats.Instance
      R = row_of t c links values

      pub rows : sum_of (meaning.added (schema_of t) I R).counts ≡ sum_of (front_of t.graph.nodes run.counts) + 1
      rows = added-rows t U.sound run U.limits c h links values run-links run-values

      -- the addition, after the test of its size
      pub sized : addition (schema_of t) I c row ≡ (ensure (ltb (sum_of (front_of t.graph.nodes run.counts)) 512) 15 >>= λ _. accepted (meaning.added (schema_of t) I R))
      sized = rw (lt-ltb c t.graph.nodes h, ← j) (ap (λ (b : Bool). ensure b 15 >>= λ _. accepted (meaning.added (schema_of t) I R)) (room-test (sum_of (front_of t.graph.nodes run.counts)) (sum_of (meaning.added (schema_of t) I R).counts) rows))

      pub add-made : {r : Instance} {l v : List ℕ} → sum_of (front_of t.graph.nodes run.counts) < 512 → Becomes t r l v (meaning.added (schema_of t) I R) → AcceptedRun t r l v
      add-made {r} {l} {v} room u = record { sound = U.sound; limits = u.limits; accepted = valid-accepted r l v (subst (ValidInstance (schema_of t)) (sym u.says) changed) }
        where
          changed : ValidInstance (schema_of t) (meaning.added (schema_of t) I R)
          changed =
              let a = bind-sound (on_sheet (read_row (schema_of t) c) row) _ (sym j) in
              let b = ensure-sound (row_links_in_range (schema_of t) I a.0) 9 _ a.2 in
              let d = ensure-sound (values_in_range kinds (schema_of t) a.0) 10 _ b.1 in
              let g = ensure-sound (row_obeys_equations (schema_of t) I c a.0) 11 _ d.1 in
              let same = sound-same g.1 in
              let fits : sum_of (meaning.added (schema_of t) I a.0).counts ≤ 512 = subst (λ (r : formats.Instance). sum_of (meaning.added (schema_of t) I r).counts ≤ 512) (sym same) (omega (arith, rows)) in
              subst (λ (r : formats.Instance). ValidInstance (schema_of t) (meaning.added (schema_of t) I r)) same
              (added-valid (formed U.sound) valid h (row_read (schema_of t) c h row a.1) b.0 d.0 g.0 fits)

      -- there is no room for it
      pub add-overfull : {n place : ℕ} → refused n place ≡ ensure (ltb (sum_of (front_of t.graph.nodes run.counts)) 512) 15 → refused n place ≡ addition (schema_of t) I c row
      add-overfull e = ap (λ (o : Outcome (Unit {0})). o >>= λ _. accepted (meaning.added (schema_of t) I R)) e ∙ sym sized

      pub add-changes : accepted tt ≡ ensure (ltb (sum_of (front_of t.graph.nodes run.counts)) 512) 15 → {r : Instance} {l v : List ℕ} → Becomes t r l v (meaning.added (schema_of t) I R)
          → ChangesTo t (Ok r) l v (addition (schema_of t) I c row)
      add-changes e u =
          let b = passed (ltb (sum_of (front_of t.graph.nodes run.counts)) 512) 15 e in
          record {
            says = ap accepted u.says ∙ ap (λ (o : Outcome (Unit {0})). o >>= λ _. accepted (meaning.added (schema_of t) I R)) e ∙ sym sized;
            run = add-made (ltb-true (sum_of (front_of t.graph.nodes run.counts)) 512 b) u;
          }

  -- ---- a row withdrawn
  module _ (c x : ℕ) (d : accepted tt ≡ ensure (ltb c t.graph.nodes) 18) where
    c-in : c < t.graph.nodes
    c-in = ltb-true c t.graph.nodes (passed (ltb c t.graph.nodes) 18 d)

    count_is : get_or run.counts c 0 ≡ count I c
    count_is = sym (count_at t U.sound run run-links run-values c c-in)

    abbrev left : Outcome (Unit {0}) → Outcome formats.Instance
    left o = o >>= λ _. ensure (not (is_held (schema_of t) I c x)) 19 >>= λ _. accepted (meaning.withdrawn (schema_of t) I c x)

    told : left (ensure (ltb x (get_or run.counts c 0)) 18) ≡ withdrawal (schema_of t) I c x
    told = rw (passed (ltb c t.graph.nodes) 18 d, count_is) refl

    -- there is no such row
    pub withdraw-absent : {n place : ℕ} → refused n place ≡ ensure (ltb x (get_or run.counts c 0)) 18 → refused n place ≡ withdrawal (schema_of t) I c x
    withdraw-absent e = ap left e ∙ told

    module _ (f : accepted tt ≡ ensure (ltb x (get_or run.counts c 0)) 18) {b : Bool} (h : b ≡ is_held (schema_of t) I c x) where
      abbrev taken : Outcome (Unit {0}) → Outcome formats.Instance
      taken o = o >>= λ _. accepted (meaning.withdrawn (schema_of t) I c x)

      free-told : taken (ensure (not b) 19) ≡ withdrawal (schema_of t) I c x
      free-told = ap (λ (b : Bool). taken (ensure (not b) 19)) h ∙ ap left f ∙ told

      pub withdraw-held : {n place : ℕ} → refused n place ≡ ensure (not b) 19 → refused n place ≡ withdrawal (schema_of t) I c x
      withdraw-held e = ap taken e ∙ free-told

      pub withdraw-changes : accepted tt ≡ ensure (not b) 19 → {r : Instance} {l v : List ℕ} → Becomes t r l v (meaning.withdrawn (schema_of t) I c x) → ChangesTo t (Ok r) l v (withdrawal (schema_of t) I c x)
      withdraw-changes e {r} {l} {v} u = record {
        says = ap accepted u.says ∙ ap taken e ∙ free-told;
        run = record { sound = U.sound; limits = u.limits; accepted = valid-accepted r l v (subst (ValidInstance (schema_of t)) (sym u.says) (withdrawn-valid (formed U.sound) valid c-in there (sym h ∙ free b (passed (not b) 19 e)))) };
      }
        where
          there : x < count I c
          there = rw (← count_is) (ltb-true x (get_or run.counts c 0) (passed (ltb x (get_or run.counts c 0)) 18 f))

          free : (b : Bool) → not b ≡ true → b ≡ false
          free false e = refl
          free true e = search rules
