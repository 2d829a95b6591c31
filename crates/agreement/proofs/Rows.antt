-- Tables with a row more (document 02, C-16): what stands in them, and that they are a valid instance where the tests of the row pass. (`Withdrawals` has those
-- with a row less.)
use Prim.Native.Nat.{ℕ, ◌+◌, ◌<◌, ◌≤◌}
use mathlib.Core.Path.{◌≡◌, refl, sym, ap, ap₂, ◌∙◌, subst}
use mathlib.Core.Bool.{Bool, true, false, cond}
use mathlib.Core.List.{List, [], ◌∷◌, ◌++◌}
use mathlib.Core.Logic.{◌↔◌}
use native.Mathlib.Omega.{arith}
use native.Mathlib.Nat.{add-zero}
use native.Mathlib.Decide.{dec_lt, ℕ_discrete}
use lib.ListN.{length, get_or, length-append, get_or-append}
use lib.Seq.{get_or-append-add}
use lib.Dec.{ltb, eqb}
use borrow.Author.Tests.{ltb-true, lt-ltb, eqb-true, eqb-false, eq-eqb, ne_eqb}
use Rattle.theory.specs.Schema.{IsSchema, IsPath}
use Rattle.theory.proofs.Schema.{path-start}
use Rattle.theory.proofs.Matching.{homomorphism-follow}
use Rattle.meaning.specs.Lists.{sum_of, filter, all}
use Rattle.meaning.specs.Schema.{Equation, Schema, source, target, attribute_at, height}
use Rattle.meaning.specs.Sheet.{sound, on_sheet}
use Rattle.meaning.specs.Formats.{Instance, max_rows, kinds}
use Rattle.meaning.specs.Views.{Shaped, listed, schema_of, count, link, column, value, follow, instance_of, link_column}
use Rattle.meaning.specs.Judge.{links_in_range, values_in_range, obeys_equations}
use Rattle.meaning.specs.Rows.{one_row, read_row, added, row_links_in_range, row_obeys_equations}
use Rattle.meaning.proofs.Lists.{both_ways, filter-in, filter-of, all_in, all_of, all-places, places-all, all-upto, upto_all}
use Rattle.meaning.proofs.Readers.{given}
use Rattle.meaning.proofs.Facts.{gives-tables}
use Rattle.agreement.specs.Paths.{WellFormed}
use Rattle.agreement.specs.Valid.{ValidInstance, InRange, ObeysEquations}
use Rattle.agreement.specs.Changes.{IsRow, Adds, RowTestsDecide}
use Rattle.agreement.proofs.Paths.{schema_is}
use Rattle.agreement.proofs.Loops.{height-is}
use Rattle.agreement.proofs.Instances.{links-iff, values-iff, equations-iff, instance-is}
use Rattle.agreement.proofs.Sheets.{alike_same}
use Rattle.agreement.proofs.Joined.{map-upto-length, map-upto-get_or}

-- ---- a row

-- what a row's sheet reads as
pub row_read : (S : Schema) (c : ℕ) → c < S.graph.nodes → (row : List ℕ) {R : Instance} → on_sheet (read_row S c) row ≡ sound R → IsRow S c R
row_read S c _ row e =
    let t = given (gives-tables S (one_row S c) (map-upto-length (λ d. cond (eqb d c) 1 0) S.graph.nodes)) row e in
    record { counts = t.counts_are; shaped = t.shaped; links = λ e _ _. t.link_below e 0; values = λ a _ _. t.value_below a 0 }

-- how many rows each table of R has
module _ {S : Schema} {c : ℕ} {R : Instance} (row : IsRow S c R) where
  pub row_count : (d : ℕ) → d < S.graph.nodes → count R d ≡ cond (eqb d c) 1 0
  row_count d h = ap (λ (l : List ℕ). get_or l d 0) row.counts ∙ map-upto-get_or (λ d. cond (eqb d c) 1 0) S.graph.nodes 0 d h

  row-own : c < S.graph.nodes → count R c ≡ 1
  row-own h = row_count c h ∙ rw (eq-eqb c c refl)

  row-others : (d : ℕ) → d < S.graph.nodes → (d ≡ c → ⊥) → count R d ≡ 0
  row-others d h n = row_count d h ∙ rw (ne_eqb d c n)

  row_in : c < S.graph.nodes → (d : ℕ) → d ≡ c → 0 < count R d
  row_in h d e = let n = row-own h in rw e (omega arith)

  -- it is row 0 of table c
  pub row-only : (d : ℕ) → d < S.graph.nodes → (x : ℕ) → x < count R d → (d ≡ c) × (x ≡ 0)
  row-only d h x l = go (eqb d c) refl
    where
      go : (t : Bool) → eqb d c ≡ t → (d ≡ c) × (x ≡ 0)
      go true e = let k = eqb-true d c e in let one : count R d ≡ 1 = row_count d h ∙ rw e in (k, omega arith)
      go false e = let no = row-others d h (eqb-false d c e) in absurd (omega arith)

-- ---- a row added

-- a column with another behind it
behind-length : (l m : List ℕ) {a b : ℕ} → length l ≡ a → length m ≡ b → length (l ++ m) ≡ a + b
behind-length l m p q = length-append l m ∙ ap₂ (λ (x y : ℕ). x + y) p q

behind-old : (l m : List ℕ) {n : ℕ} → length l ≡ n → (x : ℕ) → x < n → get_or (l ++ m) x 0 ≡ get_or l x 0
behind-old l m p x h = get_or-append l m 0 x (rw p h)

behind-new : (l m : List ℕ) {n : ℕ} → length l ≡ n → get_or (l ++ m) n 0 ≡ get_or m 0 0
behind-new l m p = ap (λ (k : ℕ). get_or (l ++ m) k 0) (sym p ∙ sym (add-zero (length l))) ∙ get_or-append-add l m 0 0

-- the tables, list by list
module _ (S : Schema) (I R : Instance) where
  added-count : (d : ℕ) → d < S.graph.nodes → count (added S I R) d ≡ count I d + count R d
  added-count d h = map-upto-get_or (λ d. count I d + count R d) S.graph.nodes 0 d h

  added-links : (e : ℕ) → e < length S.graph.edges → link_column (added S I R) e ≡ link_column I e ++ link_column R e
  added-links e h = map-upto-get_or (λ e. link_column I e ++ link_column R e) (length S.graph.edges) [] e h

  added-column : (a : ℕ) → a < length S.attributes → column (added S I R) a ≡ column I a ++ column R a
  added-column a h = map-upto-get_or (λ a. column I a ++ column R a) (length S.attributes) [] a h

  pub added-shaped : IsSchema (schema_of S) → Shaped S I → Shaped S R → Shaped S (added S I R)
  added-shaped s_is i r = record {
    tables = map-upto-length (λ d. count I d + count R d) S.graph.nodes;
    edges = map-upto-length (λ e. link_column I e ++ link_column R e) (length S.graph.edges);
    attributes = map-upto-length (λ a. column I a ++ column R a) (length S.attributes);
    links = λ e h.
        ap length (added-links e h)
        ∙ behind-length (link_column I e) (link_column R e) (i.links e h) (r.links e h)
        ∙ sym (added-count (source S.graph e) (s_is.src_in e h));
    values = λ a h.
        ap length (added-column a h)
        ∙ behind-length (column I a) (column R a) (i.values a h) (r.values a h)
        ∙ sym (added-count (attribute_at S a).node (s_is.home_in a h));
  }

-- ---- an added row's tests

module _ {S : Schema} {I J R : Instance} {c : ℕ} (a : Adds S I c R J) where
  -- what holds of each old row and of the new one holds of each row
  pub adds-each : (P : ℕ → Type 0) (d : ℕ) → d < S.graph.nodes → ((x : ℕ) → x < count I d → P x) → (d ≡ c → P (count I c)) → (x : ℕ) → x < count J d → P x
  adds-each P d h old new x l = go (eqb d c) refl (dec_lt x (count I d))
    where
      go : (t : Bool) → eqb d c ≡ t → Dec (x < count I d) → P x
      go t e (yes k) = old x k
      go true e (no k) =
          let s = eqb-true d c e in
          let n = a.one_more in
          let m = ap (count J) s in
          let o = ap (count I) s in
          let z : x ≡ count I c = omega arith in
          subst P (sym z) (new s)
      go false e (no k) = let n = a.others d h (eqb-false d c e) in absurd (omega arith)

-- no edge leads from a table to itself
pub edge-apart : {S : Schema} → WellFormed S → (e : ℕ) → e < length S.graph.edges → target S.graph e ≡ source S.graph e → ⊥
edge-apart {S} formed e h t =
    let a = (height-is S formed.fits formed.acyclic).above e h in
    let b = ap (height S.graph) t in
    omega arith

module _ {S : Schema} {I : Instance} (formed : WellFormed S) (v : ValidInstance S I) {c : ℕ} (c-in : c < S.graph.nodes) {R : Instance} (row : IsRow S c R) where
  s_is : IsSchema (schema_of S)
  s_is = schema_is S formed.fits

  J-shaped : Shaped S (added S I R)
  J-shaped = added-shaped S I R s_is v.shaped row.shaped

  -- "Adding puts a row at its table's end with its links and values"
  pub adds-table : Adds S I c R (added S I R)
  adds-table =
      let i = v.shaped in
      record {
        one_more = let a = added-count S I R c c-in in let b = row-own row c-in in omega arith;
        others = λ d h n. let a = added-count S I R d h in let b = row-others row d h n in omega arith;
        rows_kept = record {
          row_in = λ d h x l. let a = added-count S I R d h in omega arith;
          link = λ e h x l. sym (ap (λ (k : List ℕ). get_or k x 0) (added-links S I R e h) ∙ behind-old (link_column I e) (link_column R e) (i.links e h) x l);
          value = λ a h x l. sym (ap (λ (k : List ℕ). get_or k x 0) (added-column S I R a h) ∙ behind-old (column I a) (column R a) (i.values a h) x l);
        };
        links = λ e h s. ap (λ (k : List ℕ). get_or k (count I c) 0) (added-links S I R e h) ∙ behind-new (link_column I e) (link_column R e) (i.links e h ∙ ap (count I) s);
        values = λ a h s. ap (λ (k : List ℕ). get_or k (count I c) 0) (added-column S I R a h) ∙ behind-new (column I a) (column R a) (i.values a h ∙ ap (count I) s);
        shaped = J-shaped;
      }

  -- the new row is one of its table
  new_in : (d : ℕ) → d ≡ c → count I c < count (added S I R) d
  new_in d s = let n = adds-table.one_more in rw s (omega arith)

  -- 9, of the row alone
  pub row-links-iff : (row_links_in_range S I R ≡ true) ↔ ((e : ℕ) → e < length S.graph.edges → source S.graph e ≡ c → link R e 0 < count I (target S.graph e))
  row-links-iff = (
    λ t e h s.
        ltb-true (link R e 0) (count I (target S.graph e))
        (all-places (λ r. ltb r (count I (target S.graph e))) (link_column R e) 0
        (upto_all (λ e. all (λ r. ltb r (count I (target S.graph e))) (link_column R e)) (length S.graph.edges) t e h) 0
        (rw (row.shaped.links e h) (row_in row c-in (source S.graph e) s))),
    λ is.
        all-upto (λ e. all (λ r. ltb r (count I (target S.graph e))) (link_column R e)) (length S.graph.edges) (λ e h.
        places-all (λ r. ltb r (count I (target S.graph e))) (link_column R e) 0 (λ x l.
        let k = row-only row (source S.graph e) (s_is.src_in e h) x (rw (row.shaped.links e h) at l) in
        lt-ltb (link R e x) (count I (target S.graph e)) (rw k.1 (is e h k.0)))),
  )

  -- no old row meets 9 or 10, since it keeps its links and values, and no link of the new row leads into its own table
  links-decide : links_in_range S (added S I R) ≡ row_links_in_range S I R
  links-decide =
      both_ways (links_in_range S (added S I R)) (row_links_in_range S I R)
      (λ t. row-links-iff.1 (λ e h s.
      let k = (links-iff kinds S (added S I R) J-shaped).0 t e h (count I c) (new_in (source S.graph e) s) in
      let l = adds-table.links e h s in
      let n = adds-table.others (target S.graph e) (s_is.tgt_in e h) (λ q. edge-apart formed e h (q ∙ sym s)) in
      omega arith))
      (λ t. (links-iff kinds S (added S I R) J-shaped).1 (λ e h x l.
      let n = added-count S I R (target S.graph e) (s_is.tgt_in e h) in
      let k = adds-each adds-table (λ y. link (added S I R) e y < count I (target S.graph e)) (source S.graph e) (s_is.src_in e h)
      (λ y r. rw (← adds-table.rows_kept.link e h y r) (v.is.link-in e h y r)) (λ s. rw (adds-table.links e h s) (row-links-iff.0 t e h s)) x l in
      omega arith))

  values-decide : values_in_range kinds S (added S I R) ≡ values_in_range kinds S R
  values-decide =
      both_ways (values_in_range kinds S (added S I R)) (values_in_range kinds S R)
      (λ t. (values-iff kinds S R row.shaped).1 (λ a h x l.
      let k = row-only row (attribute_at S a).node (s_is.home_in a h) x l in
      let u = (values-iff kinds S (added S I R) J-shaped).0 t a h (count I c) (new_in (attribute_at S a).node k.0) in
      rw k.1 (rw (adds-table.values a h k.0) at u)))
      (λ t. (values-iff kinds S (added S I R) J-shaped).1 (λ a h.
      adds-each adds-table (λ y. InRange kinds (attribute_at S a).kind (value (added S I R) a y)) (attribute_at S a).node (s_is.home_in a h)
      (λ y r. rw (← adds-table.rows_kept.value a h y r) (v.is.value_in a h y r))
      (λ s. rw (adds-table.values a h s) ((values-iff kinds S R row.shaped).0 t a h 0 (row_in row c-in (attribute_at S a).node s)))))

  -- a path leads an old row where it did
  old-follow : (s : ℕ) (p : List ℕ) → IsPath (schema_of S) s p → (x : ℕ) → x < count I s → follow I p x ≡ follow (added S I R) p x
  old-follow = homomorphism-follow v.is (λ d x. x) adds-table.rows_kept

  -- the test of one equation, which starts at c
  abbrev agrees : Equation → Bool
  agrees q = eqb (follow (added S I R) q.left.edges (count I c)) (follow (added S I R) q.right.edges (count I c))

  abbrev from_here : Equation → Bool
  from_here q = eqb q.left.start c

  -- nor does it meet 11, since a path leads it where it did
  equations-decide : obeys_equations S (added S I R) ≡ row_obeys_equations S I c R
  equations-decide =
      both_ways (obeys_equations S (added S I R)) (row_obeys_equations S I c R)
      (λ t. all_in agrees (filter from_here S.equations) (λ q m.
      let k = filter-of from_here S.equations m in
      eq-eqb (follow (added S I R) q.left.edges (count I c)) (follow (added S I R) q.right.edges (count I c))
      ((equations-iff kinds S (added S I R) J-shaped).0 t q.left.start q.left.edges q.right.edges (listed k.0) (count I c)
      (new_in q.left.start (eqb-true q.left.start c k.1)))))
      (λ t. (equations-iff kinds S (added S I R) J-shaped).1 (obeys t))
    where
      obeys : row_obeys_equations S I c R ≡ true → ObeysEquations (schema_of S) (instance_of (added S I R))
      obeys t s a b (listed {q} m) =
          adds-each adds-table (λ x. follow (added S I R) a x ≡ follow (added S I R) b x) s (path-start s_is s a (s_is.left s a b (listed m)))
          (λ x k.
          sym (old-follow s a (s_is.left s a b (listed m)) x k)
          ∙ v.is.equation s a b (listed m) x k
          ∙ old-follow s b (s_is.right s a b (listed m)) x k)
          (λ k.
          eqb-true (follow (added S I R) a (count I c)) (follow (added S I R) b (count I c))
          (all_of agrees (filter from_here S.equations) t (filter-in from_here S.equations m (eq-eqb s c k))))

  -- the tests 9, 10 and 11 of the whole tables are those of the row
  pub row-tests-decide : RowTestsDecide S I c R
  row-tests-decide = record { test_9 = links-decide; test_10 = values-decide; test_11 = equations-decide }

  -- where all tests pass, 15 included, the tables are a valid instance
  pub added-valid : row_links_in_range S I R ≡ true → values_in_range kinds S R ≡ true → row_obeys_equations S I c R ≡ true → sum_of (added S I R).counts ≤ max_rows → ValidInstance S (added S I R)
  added-valid links values equations few = record {
    shaped = J-shaped;
    is = instance-is kinds S (added S I R) J-shaped (links-decide ∙ links) (values-decide ∙ values) (equations-decide ∙ equations);
    few_rows = few;
  }

  -- a path leads the new row over its first link, and on from there through the rows of I
  pub follow-added : row_links_in_range S I R ≡ true → (e : ℕ) (es : List ℕ) → IsPath (schema_of S) c (e ∷ es) → follow (added S I R) (e ∷ es) (count I c) ≡ follow I es (link R e 0)
  follow-added links e es p =
      ap (follow (added S I R) es) (adds-table.links e p.0 p.1)
      ∙ sym (old-follow (target S.graph e) es p.2 (link R e 0) (row-links-iff.0 links e p.0 p.1))

-- ---- no other tables are I with the row

pub adds_one : {S : Schema} → WellFormed S → (I : Instance) (c : ℕ) (R : Instance) {J K : Instance} → Adds S I c R J → Adds S I c R K → J ≡ K
adds_one {S} formed I c R {J} {K} a b =
    let s_is = schema_is S formed.fits in
    alike_same S a.shaped b.shaped (record {
      count = λ d h. counts d h (ℕ_discrete d c);
      link = λ e h.
          adds-each a (λ x. link J e x ≡ link K e x) (source S.graph e) (s_is.src_in e h)
          (λ x r. sym (a.rows_kept.link e h x r) ∙ b.rows_kept.link e h x r) (λ s. a.links e h s ∙ sym (b.links e h s));
      value = λ n h.
          adds-each a (λ x. value J n x ≡ value K n x) (attribute_at S n).node (s_is.home_in n h)
          (λ x r. sym (a.rows_kept.value n h x r) ∙ b.rows_kept.value n h x r) (λ s. a.values n h s ∙ sym (b.values n h s));
    })
  where
    counts : (d : ℕ) → d < S.graph.nodes → Dec (d ≡ c) → count J d ≡ count K d
    counts d h (yes e) = ap (count J) e ∙ a.one_more ∙ sym b.one_more ∙ ap (count K) (sym e)
    counts d h (no n) = a.others d h n ∙ sym (b.others d h n)
