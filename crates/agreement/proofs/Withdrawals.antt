-- Tables with a row less (document 02, C-16): which rows are held, what stands in the tables without a row, that they are a valid instance, and that a row
-- which was added and is withdrawn again leaves the first tables.
use Prim.Native.Nat.{ℕ, zero, suc, ◌-◌, ◌<◌, ◌≤◌}
use mathlib.Core.Path.{◌≡◌, refl, sym, ap, ◌∙◌}
use mathlib.Core.Bool.{Bool, true, false, cond, ◌&&◌}
use mathlib.Core.List.{List, [], ◌∷◌, map}
use mathlib.Core.Logic.{◌↔◌}
use native.Mathlib.Omega.{arith}
use native.Mathlib.Decide.{ℕ_discrete}
use lib.ListN.{length, get_or, length-map}
use lib.Dec.{leb, ltb, eqb, leb-zero, leb-suc-zero, leb-suc-suc}
use borrow.Author.Tests.{ltb-true, ltb-false, leb-true, leb-false, le-leb, lt-leb, eqb-true, eq-eqb, ne_eqb}
use Rattle.theory.specs.Schema.{IsSchema, endpoint}
use Rattle.theory.proofs.Numbering.{sum-le}
use Rattle.theory.proofs.Order.{mem-get_or, mem-position}
use Rattle.theory.proofs.Schema.{path-start}
use Rattle.theory.proofs.Matching.{homomorphism-within, homomorphism-same}
use Rattle.meaning.specs.Lists.{upto, any}
use Rattle.meaning.specs.Schema.{Schema, source, target, attribute_at}
use Rattle.meaning.specs.Formats.{Instance}
use Rattle.meaning.specs.Views.{Shaped, schema_of, count, link, column, value, follow, link_column}
use Rattle.meaning.specs.Rows.{added, at_table, without, moved_down, withdrawn, is_held}
use Rattle.meaning.proofs.Tabulate.{and_both}
use Rattle.meaning.proofs.Lists.{no_bool, test-false, and_intro, any-in, any_of, in-upto, of-upto, get_d_map}
use Rattle.agreement.specs.Paths.{WellFormed}
use Rattle.agreement.specs.Valid.{ValidInstance}
use Rattle.agreement.specs.Changes.{IsRow, Adds, skipping, Withdraws, Held}
use Rattle.agreement.proofs.Paths.{schema_is}
use Rattle.agreement.proofs.Tables.{rows-sum}
use Rattle.agreement.proofs.Joined.{map-upto-length, map-upto-get_or}
use Rattle.agreement.proofs.Sheets.{alike_same}
use Rattle.agreement.proofs.Rows.{adds-each, edge-apart, adds-table}

-- ---- rows that are held

-- the test finds a link that leads to the row
held_by : {S : Schema} {I : Instance} → Shaped S I → (c x : ℕ) → (is_held S I c x ≡ true) ↔ Held S I c x
held_by {S} {I} i c x = (
  λ t.
      let a = any_of test (upto (length S.graph.edges)) t in
      let h = of-upto (length S.graph.edges) a.1 in
      let b = and_both (eqb (target S.graph a.0) c) (any (eqb x) (link_column I a.0)) a.2 in
      let d = any_of (eqb x) (link_column I a.0) b.1 in
      let p = mem-position 0 d.0 (link_column I a.0) d.1 in
      record {
        edge = a.0;
        edge_in = h;
        to = eqb-true (target S.graph a.0) c b.0;
        row = p.0;
        row_in = rw (i.links a.0 h) at p.1;
        leads = p.2 ∙ sym (eqb-true x d.0 d.2);
      },
  λ h.
      let l = link_column I h.edge in
      any-in test (upto (length S.graph.edges)) (in-upto (length S.graph.edges) h.edge h.edge_in)
      (and_intro (eq-eqb (target S.graph h.edge) c h.to)
      (any-in (eqb x) l (mem-get_or 0 l h.row (rw (i.links h.edge h.edge_in) h.row_in)) (eq-eqb x (link I h.edge h.row) (sym h.leads)))),
)
  where
    test : ℕ → Bool
    test e = eqb (target S.graph e) c && any (eqb x) (link_column I e)

-- 19 is given exactly for a row to which some link leads
pub held-iff : {S : Schema} {I : Instance} → ValidInstance S I → (c x : ℕ) → (is_held S I c x ≡ true) ↔ Held S I c x
held-iff v = held_by v.shaped

-- ---- a column without row x, where t says that the column is of its table

-- the number that row r had
abbrev skip : Bool → ℕ → ℕ → ℕ
skip t x r = cond t (skipping x r) r

-- its entries are those of the other rows, in order
without-get_or : (x : ℕ) (l : List ℕ) (r : ℕ) → get_or (without x l) r 0 ≡ get_or l (skipping x r) 0
without-get_or zero [] r = refl
without-get_or zero (y ∷ l) r = rw (leb-zero r)
without-get_or (suc x) [] r = refl
without-get_or (suc x) (y ∷ l) zero = rw (leb-suc-zero x)
without-get_or (suc x) (y ∷ l) (suc r) = rw (leb-suc-suc x r) (without-get_or x l r ∙ go (leb x r))
  where
    go : (b : Bool) → get_or l (cond b (suc r) r) 0 ≡ get_or (y ∷ l) (cond b (suc (suc r)) (suc r)) 0
    go true = refl
    go false = refl

without-length : (x : ℕ) (l : List ℕ) → x < length l → length (without x l) ≡ length l - 1
without-length x [] h = absurd (omega arith)
without-length zero (y ∷ l) h = omega arith
without-length (suc x) (y ∷ l) h = let k = without-length x l (omega arith) in omega arith

kept_get_d : (t : Bool) (x : ℕ) (l : List ℕ) (r : ℕ) → get_or (cond t (without x l) l) r 0 ≡ get_or l (skip t x r) 0
kept_get_d true x l r = without-get_or x l r
kept_get_d false x l r = refl

kept-length : (t : Bool) (x : ℕ) (l : List ℕ) {n : ℕ} → length l ≡ n → (t ≡ true → x < n) → length (cond t (without x l) l) ≡ cond t (n - 1) n
kept-length true x l e h = let k = h refl in without-length x l (omega arith) ∙ ap (λ (m : ℕ). m - 1) e
kept-length false x l e h = e

-- a row that is kept had a number in the table, and no two had the same
skip_below : (t : Bool) (x r n : ℕ) → (t ≡ true → x < n) → r < cond t (n - 1) n → skip t x r < n
skip_below true x r n h l = go (leb x r) refl
  where
    go : (b : Bool) → leb x r ≡ b → cond b (suc r) r < n
    go true e = omega arith
    go false e = omega arith
skip_below false x r n h l = l

skip_one : (t : Bool) (x r s : ℕ) → skip t x r ≡ skip t x s → r ≡ s
skip_one true x r s = go (leb x r) (leb x s) refl refl
  where
    go : (a b : Bool) → leb x r ≡ a → leb x s ≡ b → cond a (suc r) r ≡ cond b (suc s) s → r ≡ s
    go true true p q e = omega arith
    go true false p q e = let h = leb-true x r p in let k = leb-false x s q in absurd (omega arith)
    go false true p q e = let h = leb-false x r p in let k = leb-true x s q in absurd (omega arith)
    go false false p q e = e
skip_one false x r s = λ e. e

-- the new number of a row that is not row x: it had the old one, and is in the table
down-skip : (t : Bool) (x y : ℕ) → (t ≡ true → y ≡ x → ⊥) → skip t x (cond t (moved_down x y) y) ≡ y
down-skip true x y h = go (ltb x y) refl
  where
    go : (b : Bool) → ltb x y ≡ b → skipping x (cond b (y - 1) y) ≡ y
    go true e = let k = ltb-true x y e in let l : x ≤ y - 1 = omega arith in rw (le-leb x (y - 1) l) (omega arith)
    go false e = let k = ltb-false x y e in let n = h refl in let l : y < x = omega arith in rw (lt-leb x y l)
down-skip false x y h = refl

down-below : (t : Bool) (x y n : ℕ) → (t ≡ true → y ≡ x → ⊥) → (t ≡ true → x < n) → y < n → cond t (moved_down x y) y < cond t (n - 1) n
down-below true x y n h k l = go (ltb x y) refl
  where
    go : (b : Bool) → ltb x y ≡ b → cond b (y - 1) y < n - 1
    go true e = let g = ltb-true x y e in omega arith
    go false e = let g = ltb-false x y e in let n = h refl in let m = k refl in omega arith
down-below false x y n h k l = l

-- ---- the tables without row x of table c

-- the number that row r of table d had
abbrev former : ℕ → ℕ → ℕ → ℕ → ℕ
former c x d = at_table c d (skipping x)

module _ (S : Schema) (I : Instance) (c x : ℕ) where
  withdrawn-count : (d : ℕ) → d < S.graph.nodes → count (withdrawn S I c x) d ≡ at_table c d (λ n. n - 1) (count I d)
  withdrawn-count d h = map-upto-get_or (λ d. at_table c d (λ n. n - 1) (count I d)) S.graph.nodes 0 d h

  -- the links of the rows that are kept, as they were
  abbrev kept_links : ℕ → List ℕ
  kept_links e = at_table c (source S.graph e) (without x) (link_column I e)

  withdrawn-links : (e : ℕ) → e < length S.graph.edges → link_column (withdrawn S I c x) e ≡ map (at_table c (target S.graph e) (moved_down x)) (kept_links e)
  withdrawn-links e h = map-upto-get_or (λ e. map (at_table c (target S.graph e) (moved_down x)) (kept_links e)) (length S.graph.edges) [] e h

  withdrawn-column : (a : ℕ) → a < length S.attributes → column (withdrawn S I c x) a ≡ at_table c (attribute_at S a).node (without x) (column I a)
  withdrawn-column a h = map-upto-get_or (λ a. at_table c (attribute_at S a).node (without x) (column I a)) (length S.attributes) [] a h

module _ {S : Schema} (s_is : IsSchema (schema_of S)) {I : Instance} (i : Shaped S I) {c x : ℕ} (c-in : c < S.graph.nodes) (x_in : x < count I c) where
  -- row x is in the table, however that is named
  in-own : (d : ℕ) → eqb d c ≡ true → x < count I d
  in-own d e = rw (eqb-true d c e) x_in

  kept-links-length : (e : ℕ) → e < length S.graph.edges → length (kept_links S I c x e) ≡ count (withdrawn S I c x) (source S.graph e)
  kept-links-length e h =
      kept-length (eqb (source S.graph e) c) x (link_column I e) (i.links e h) (in-own (source S.graph e))
      ∙ sym (withdrawn-count S I c x (source S.graph e) (s_is.src_in e h))

  pub withdrawn-shaped : Shaped S (withdrawn S I c x)
  withdrawn-shaped = record {
    tables = map-upto-length (λ d. at_table c d (λ n. n - 1) (count I d)) S.graph.nodes;
    edges = map-upto-length (λ e. map (at_table c (target S.graph e) (moved_down x)) (kept_links S I c x e)) (length S.graph.edges);
    attributes = map-upto-length (λ a. at_table c (attribute_at S a).node (without x) (column I a)) (length S.attributes);
    links = λ e h.
        ap length (withdrawn-links S I c x e h)
        ∙ length-map (kept_links S I c x e) (at_table c (target S.graph e) (moved_down x))
        ∙ kept-links-length e h;
    values = λ a h.
        ap length (withdrawn-column S I c x a h)
        ∙ kept-length (eqb (attribute_at S a).node c) x (column I a) (i.values a h) (in-own (attribute_at S a).node)
        ∙ sym (withdrawn-count S I c x (attribute_at S a).node (s_is.home_in a h));
  }

  -- a row that is kept, and its links and values
  kept_in : (d : ℕ) → d < S.graph.nodes → (r : ℕ) → r < count (withdrawn S I c x) d → former c x d r < count I d
  kept_in d h r l = skip_below (eqb d c) x r (count I d) (in-own d) (rw (withdrawn-count S I c x d h) at l)

  kept-link : (e : ℕ) → e < length S.graph.edges → (r : ℕ) → r < count (withdrawn S I c x) (source S.graph e)
      → link (withdrawn S I c x) e r ≡ at_table c (target S.graph e) (moved_down x) (link I e (former c x (source S.graph e) r))
  kept-link e h r l =
      ap (λ (k : List ℕ). get_or k r 0) (withdrawn-links S I c x e h)
      ∙ get_d_map (at_table c (target S.graph e) (moved_down x)) (kept_links S I c x e) 0 0 r (rw (kept-links-length e h) l)
      ∙ ap (at_table c (target S.graph e) (moved_down x)) (kept_get_d (eqb (source S.graph e) c) x (link_column I e) r)

  kept-value : (a : ℕ) → a < length S.attributes → (r : ℕ) → value (withdrawn S I c x) a r ≡ value I a (former c x (attribute_at S a).node r)
  kept-value a h r = ap (λ (k : List ℕ). get_or k r 0) (withdrawn-column S I c x a h) ∙ kept_get_d (eqb (attribute_at S a).node c) x (column I a) r

  module _ (free : Held S I c x → ⊥) where
    -- no link of a row that is kept leads to row x
    kept_free : (e : ℕ) → e < length S.graph.edges → (r : ℕ) → r < count (withdrawn S I c x) (source S.graph e)
        → eqb (target S.graph e) c ≡ true → link I e (former c x (source S.graph e) r) ≡ x → ⊥
    kept_free e h r l t z = free (record {
      edge = e;
      edge_in = h;
      to = eqb-true (target S.graph e) c t;
      row = former c x (source S.graph e) r;
      row_in = kept_in (source S.graph e) (s_is.src_in e h) r l;
      leads = z;
    })

    -- each row that is kept has its links and values, with the numbers that rows now have
    withdraws : Withdraws S I c x (withdrawn S I c x)
    withdraws = record {
      one_less = let a : count (withdrawn S I c x) c ≡ count I c - 1 = withdrawn-count S I c x c c-in ∙ rw (eq-eqb c c refl) in omega arith;
      others = λ d h n. withdrawn-count S I c x d h ∙ rw (ne_eqb d c n);
      rows_kept = record {
        row_in = kept_in;
        link = λ e h r l.
            let y = link I e (former c x (source S.graph e) r) in
            ap (former c x (target S.graph e)) (kept-link e h r l) ∙ down-skip (eqb (target S.graph e) c) x y (kept_free e h r l);
        value = λ a h r l. kept-value a h r;
      };
      shaped = withdrawn-shaped;
    }

    -- and its links lead to rows
    kept-links-in : (e : ℕ) → e < length S.graph.edges → (r : ℕ) → r < count (withdrawn S I c x) (source S.graph e)
        → link I e (former c x (source S.graph e) r) < count I (target S.graph e) → link (withdrawn S I c x) e r < count (withdrawn S I c x) (target S.graph e)
    kept-links-in e h r l k =
        let t = target S.graph e in
        let y = link I e (former c x (source S.graph e) r) in
        rw (kept-link e h r l, withdrawn-count S I c x t (s_is.tgt_in e h)) (down-below (eqb t c) x y (count I t) (kept_free e h r l) (in-own t) k)

-- no table has more rows
fewer : (t : Bool) (n : ℕ) → cond t (n - 1) n ≤ n
fewer true n = omega arith
fewer false n = omega arith

module _ {S : Schema} {I : Instance} (formed : WellFormed S) (v : ValidInstance S I) where
  -- "withdrawing takes a row out and moves later rows of that table down by one, links included"
  pub withdraws-table : (c x : ℕ) → c < S.graph.nodes → x < count I c → (Held S I c x → ⊥) → Withdraws S I c x (withdrawn S I c x)
  withdraws-table c x c-in x_in free = withdraws (schema_is S formed.fits) v.shaped c-in x_in free

  -- the tables without a row that is not held are a valid instance
  pub withdrawn-valid : {c x : ℕ} → c < S.graph.nodes → x < count I c → is_held S I c x ≡ false → ValidInstance S (withdrawn S I c x)
  withdrawn-valid {c} {x} c-in x_in t =
      let s_is = schema_is S formed.fits in
      let i = v.shaped in
      let J = withdrawn S I c x in
      let free : Held S I c x → ⊥ = λ h. no_bool (sym ((held-iff v c x).1 h) ∙ t) in
      let kept = (withdraws s_is i c-in x_in free).rows_kept in
      let link-in : (e : ℕ) → e < length S.graph.edges → (r : ℕ) → r < count J (source S.graph e) → link J e r < count J (target S.graph e) =
      λ e h r l. kept-links-in s_is i c-in x_in free e h r l (v.is.link-in e h (former c x (source S.graph e) r) (kept.row_in (source S.graph e) (s_is.src_in e h) r l)) in
      record {
        shaped = withdrawn-shaped s_is i c-in x_in;
        is = record {
          link-in = link-in;
          value_in = λ a h r l.
              rw (kept.value a h r l) (v.is.value_in a h (former c x (attribute_at S a).node r) (kept.row_in (attribute_at S a).node (s_is.home_in a h) r l));
          equation = λ s a b q r l.
              let «end» = endpoint (target S.graph) s a in
              let A = homomorphism-within link-in (former c x) kept s a (s_is.left s a b q) r l in
              let B = homomorphism-within link-in (former c x) kept s b (s_is.right s a b q) r l in
              let E = v.is.equation s a b q (former c x s r) (kept.row_in s (path-start s_is s a (s_is.left s a b q)) r l) in
              skip_one (eqb «end» c) x (follow J a r) (follow J b r) (A ∙ E ∙ sym B ∙ ap (λ (d : ℕ). former c x d (follow J b r)) (sym (s_is.ends s a b q)));
        };
        few_rows =
            let a = rows-sum S J (withdrawn-shaped s_is i c-in x_in).tables in
            let b = rows-sum S I i.tables in
            let k = sum-le (count J) (count I) S.graph.nodes (λ d h. rw (withdrawn-count S I c x d h) (fewer (eqb d c) (count I d))) in
            let m = v.few_rows in
            omega arith;
      }

-- ---- no other tables are I without the row

pub withdraws_one : {S : Schema} → WellFormed S → (I : Instance) (c x : ℕ) {J K : Instance} → Withdraws S I c x J → Withdraws S I c x K → J ≡ K
withdraws_one {S} formed I c x {J} {K} a b =
    let s_is = schema_is S formed.fits in
    alike_same S a.shaped b.shaped (record {
      count = λ d h. counts d h (ℕ_discrete d c);
      link = λ e h r l.
          let m : r < count K (source S.graph e) = rw (counts (source S.graph e) (s_is.src_in e h) (ℕ_discrete (source S.graph e) c)) at l in
          skip_one (eqb (target S.graph e) c) x (link J e r) (link K e r) (a.rows_kept.link e h r l ∙ sym (b.rows_kept.link e h r m));
      value = λ n h r l.
          let m : r < count K (attribute_at S n).node = rw (counts (attribute_at S n).node (s_is.home_in n h) (ℕ_discrete (attribute_at S n).node c)) at l in
          a.rows_kept.value n h r l ∙ sym (b.rows_kept.value n h r m);
    })
  where
    counts : (d : ℕ) → d < S.graph.nodes → Dec (d ≡ c) → count J d ≡ count K d
    counts d h (yes e) = let m = a.one_less in let n = b.one_less in let i = ap (count J) e in let o = ap (count K) e in omega arith
    counts d h (no n) = a.others d h n ∙ sym (b.others d h n)

-- ---- a row added and withdrawn again

-- rows before row x keep their numbers
skip-old : (t : Bool) (x r : ℕ) → (t ≡ true → r < x) → skip t x r ≡ r
skip-old true x r h = rw (lt-leb x r (h refl))
skip-old false x r h = refl

-- I is J without its last row
adds-withdraws : {S : Schema} {I J R : Instance} {c : ℕ} → WellFormed S → ValidInstance S I → Adds S I c R J → Withdraws S J c (count I c) I
adds-withdraws {S} {I} {c = c} formed v a = record {
  one_less = sym a.one_more;
  others = λ d h n. sym (a.others d h n);
  rows_kept = homomorphism-same (schema_is S formed.fits) v.is (λ d r. r) (former c (count I c)) (λ d h r l. sym (skip-old (eqb d c) (count I c) r (λ e. rw (eqb-true d c e) at l))) a.rows_kept;
  shaped = v.shaped;
}

module _ {S : Schema} {I : Instance} (formed : WellFormed S) (v : ValidInstance S I) {c : ℕ} (c-in : c < S.graph.nodes) {R : Instance} (row : IsRow S c R) where
  s_is : IsSchema (schema_of S)
  s_is = schema_is S formed.fits

  more : Adds S I c R (added S I R)
  more = adds-table formed v c-in row

  -- no link leads to the new row: those of old rows lead to old rows, and none of its own leads into its table
  unheld : Held S (added S I R) c (count I c) → ⊥
  unheld h =
      adds-each more (λ r. link (added S I R) h.edge r ≡ count I c → ⊥) (source S.graph h.edge) (s_is.src_in h.edge h.edge_in)
      (λ r l z.
      let k = v.is.link-in h.edge h.edge_in r l in
      let m = more.rows_kept.link h.edge h.edge_in r l in
      let n = ap (count I) h.to in
      omega arith)
      (λ s _. edge-apart formed h.edge h.edge_in (h.to ∙ sym s)) h.row h.row_in h.leads

  -- 19 is not given for the row just added
  pub added-unheld : is_held S (added S I R) c (count I c) ≡ false
  added-unheld = test-false (is_held S (added S I R) c (count I c)) (λ t. unheld ((held_by more.shaped c (count I c)).0 t))

  -- withdrawing it gives the first tables back
  pub added-withdrawn : withdrawn S (added S I R) c (count I c) ≡ I
  added-withdrawn =
      withdraws_one formed (added S I R) c (count I c) (withdraws s_is more.shaped c-in (let n = more.one_more in omega arith) unheld) (adds-withdraws formed v more)
