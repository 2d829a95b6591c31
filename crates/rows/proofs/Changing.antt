-- The tables of a run after a row was put behind one of them or taken out of it.
use Prim.Native.Nat.{ℕ, zero, suc, ◌+◌, ◌-◌, ◌*◌, ◌<◌, ◌≤◌}
use mathlib.Core.Path.{◌≡◌, refl, sym, ap, ap₂, ◌∙◌}
use mathlib.Core.Bool.{Bool, true, false, cond}
use mathlib.Core.List.{List, [], ◌∷◌, ◌++◌, map}
use native.Mathlib.Omega.{arith}
use native.Mathlib.Nat.{le_trans}
use borrow.Author.Tests.{eqb-true, eqb-false, eq-eqb, ne_eqb}
use lib.Dec.{leb, leb-zero, leb-suc-zero, leb-suc-suc, eqb}
use lib.ListN.{length, get_or, set, replicate, length-set}
use lib.Seq.{get_or-set_same, get_or-set_other}
use Rattle.theory.specs.Numbering.{tabulate}
use Rattle.theory.proofs.Numbering.{tabulate-length, tabulate-get_or}
use Rattle.meaning.specs.Lists.{upto, sum_of}
use Rattle.meaning.specs.Schema.{Attribute, source, target}
use Rattle.meaning.specs.Rows.{added, at_table, without, moved_down, withdrawn}
use Rattle.meaning.proofs.Tabulate.{tabulate-same, map-tabulate, tabulate-upto}
use Rattle.schema.specs.declared.Schema.{Schema}
use Rattle.schema.specs.Decoded.{front_of, schema_of}
use Rattle.schema.specs.Judged.{Sound}
use Rattle.schema.proofs.GraphEdges.{edges-count, source-at, target_at}
use Rattle.instance.specs.declared.Instance.{Instance}
use Rattle.instance.specs.Decoded.{rows_of, column_of, columns_of, tables_of, Limits}
use Rattle.instance.proofs.Columns.{sum_of-part}
use Rattle.rows.specs.Row.{row_counts, row_of}
use Rattle.agreement.specs.Changes.{skipping}
use Rattle.rows.specs.Columns.{Joins, Joined, OneMore, RowTaken, LinksMoved}
use Rattle.rows.specs.Changed.{Becomes}
use Rattle.rows.proofs.FromRow.{row_at, row-few, tables-same}

-- ---- one entry of the counts changed
module _ (counts : List ℕ) (c v : ℕ) (h : c < length counts) where
  pub set_at : (d : ℕ) → get_or (set counts c v) d 0 ≡ cond (eqb d c) v (get_or counts d 0)
  set_at d = go (eqb d c) refl
    where
      go : (t : Bool) → eqb d c ≡ t → get_or (set counts c v) d 0 ≡ cond t v (get_or counts d 0)
      go true e = rw (eqb-true d c e) (get_or-set_same counts c v 0 h)
      go false e = get_or-set_other counts c d v 0 (eqb-false d c e)

  -- the rows of all tables together
  pub set_sum : (n : ℕ) → c < n → sum_of (front_of n (set counts c v)) + get_or counts c 0 ≡ sum_of (front_of n counts) + v
  set_sum n l = go n c l (λ d. get_or (set counts c v) d 0) (λ d. get_or counts d 0) (set_at c ∙ rw (eq-eqb c c refl)) (λ d z. set_at d ∙ rw (ne_eqb d c z))
    where
      same : (n : ℕ) (f g : ℕ → ℕ) → ((d : ℕ) → f d ≡ g d) → sum_of (tabulate n f) ≡ sum_of (tabulate n g)
      same n f g e = ap sum_of (tabulate-same n (λ d m. e d))

      go : (n c : ℕ) → c < n → (f g : ℕ → ℕ) → f c ≡ v → ((d : ℕ) → (d ≡ c → ⊥) → f d ≡ g d) → sum_of (tabulate n f) + g c ≡ sum_of (tabulate n g) + v
      go zero c l f g here other = absurd (omega arith)
      go (suc n) zero l f g here other = let e = same n (λ d. f (suc d)) (λ d. g (suc d)) (λ d. other (suc d) (λ z. let q : suc d ≡ 0 = z in omega arith)) in omega arith
      go (suc n) (suc c) l f g here other =
          let e = go n c (omega arith) (λ d. f (suc d)) (λ d. g (suc d)) here (λ d z. other (suc d) (λ q. z (let y : suc d ≡ suc c = q in let r : d ≡ c = omega arith in r))) in
          let k = other 0 (λ q. let y : 0 ≡ suc c = q in omega arith) in
          omega arith

-- ---- columns, by what each is
columns-are : (n : ℕ) (rows : ℕ → ℕ) (l : List ℕ) (f : ℕ → List ℕ) → ((k : ℕ) → k < n → column_of l (512 * k) (rows k) ≡ f k) → columns_of n rows l ≡ map f (upto n)
columns-are n rows l f h = tabulate-upto n h

column-at : (n : ℕ) (rows : ℕ → ℕ) (l : List ℕ) (k : ℕ) → k < n → get_or (columns_of n rows l) k [] ≡ column_of l (512 * k) (rows k)
column-at n rows l k h = tabulate-get_or n (λ j. column_of l (512 * j) (rows j)) [] k h

-- a table has at most as many rows as all tables together
pub counts-few : (t : Schema) (i : Instance) → Limits t i → (d : ℕ) → d < t.graph.nodes → get_or i.counts d 0 ≤ 512
counts-few t i L d h = le_trans (sum_of-part t.graph.nodes (λ k. get_or i.counts k 0) d h) L.rows

-- ---- a row put at its table's end
module _ (t : Schema) (A : Sound t) (i : Instance) (L : Limits t i) (c : ℕ) (c-in : c < t.graph.nodes) where
  abbrev after : List ℕ
  after = set i.counts c (get_or i.counts c 0 + 1)

  c-low : c < 16
  c-low = let n = A.limits.nodes in omega arith

  c-long : c < length i.counts
  c-long = rw L.long c-low

  after-at : (d : ℕ) → get_or after d 0 ≡ get_or i.counts d 0 + get_or (row_counts c) d 0
  after-at d = set_at i.counts c (get_or i.counts c 0 + 1) c-long d ∙ go (eqb d c) refl
    where
      go : (b : Bool) → eqb d c ≡ b → cond b (get_or i.counts c 0 + 1) (get_or i.counts d 0) ≡ get_or i.counts d 0 + get_or (row_counts c) d 0
      go true e = let r : get_or (row_counts c) d 0 ≡ 1 = row_at c c-low d ∙ rw e refl in let q = ap (λ (k : ℕ). get_or i.counts k 0) (eqb-true d c e) in omega arith
      go false e = let r : get_or (row_counts c) d 0 ≡ 0 = row_at c c-low d ∙ rw e refl in omega arith

  counts-added : (row-links row-values links values : List ℕ) → front_of t.graph.nodes after ≡ (added (schema_of t) (tables_of t i links values) (row_of t c row-links row-values)).counts
  counts-added row-links row-values links values =
      tabulate-upto t.graph.nodes (λ d h. after-at d ∙ sym (ap₂ (λ (x y : ℕ). x + y) (tabulate-get_or t.graph.nodes (λ k. get_or i.counts k 0) 0 d h) (tabulate-get_or t.graph.nodes (λ k. get_or (row_counts c) k 0) 0 d h)))

  -- there is room for it
  pub row-joins : sum_of (front_of t.graph.nodes i.counts) < 512 → (n : ℕ) (home : List ℕ) → ((k : ℕ) → k < n → get_or home k 0 < t.graph.nodes) → n ≤ length home → {list l : List ℕ} → 512 * n ≤ length list → 512 * n ≤ length l
      → Joins n home i.counts (row_counts c) list l
  row-joins room n home home_in homes list_long l-long = record {
    homes = homes;
    counted = λ k h. let a = home_in k h in let m = A.limits.nodes in rw L.long (omega arith);
    more = λ k h. let a = home_in k h in let m = A.limits.nodes in rw (length-set {A = ℕ} (replicate 16 0) c 1) (omega arith);
    few = λ k h.
        let a = sum_of-part t.graph.nodes (λ d. get_or i.counts d 0) (get_or home k 0) (home_in k h) in
        let b = row-few c c-low (get_or home k 0) in
        omega arith;
    list_long = list_long;
    long = l-long;
  }

  columns-joined : (n : ℕ) (home list l r : List ℕ) → Joined n home i.counts (row_counts c) list l r
      → columns_of n (rows_of home after) r ≡ map (λ k. get_or (columns_of n (rows_of home i.counts) l) k [] ++ get_or (columns_of n (rows_of home (row_counts c)) list) k []) (upto n)
  columns-joined n home list l r u =
      columns-are n (rows_of home after) r _ (λ k h.
      ap (column_of r (512 * k)) (after-at (get_or home k 0))
      ∙ u.each k h
      ∙ sym (ap₂ (λ (x y : List ℕ). x ++ y) (column-at n (rows_of home i.counts) l k h) (column-at n (rows_of home (row_counts c)) list k h)))

  -- the rows of the run then
  pub added-rows : (row-links row-values links values : List ℕ) → sum_of (added (schema_of t) (tables_of t i links values) (row_of t c row-links row-values)).counts ≡ sum_of (front_of t.graph.nodes i.counts) + 1
  added-rows row-links row-values links values =
      let s = set_sum i.counts c (get_or i.counts c 0 + 1) c-long t.graph.nodes c-in in
      ap sum_of (sym (counts-added row-links row-values links values)) ∙ omega arith

  pub row_put : (row-links row-values links values links' values' : List ℕ) → sum_of (front_of t.graph.nodes i.counts) < 512
      → Joined t.graph.edges t.graph.source i.counts (row_counts c) row-links links links'
      → Joined t.attributes t.node i.counts (row_counts c) row-values values values'
      → Becomes t (record { counts = after }) links' values' (added (schema_of t) (tables_of t i links values) (row_of t c row-links row-values))
  row_put row-links row-values links values links' values' room u v = record {
    says = rw (edges-count t.graph.edges t.graph.source t.graph.target, tabulate-length t.attributes attribute)
        (tables-same
        (counts-added row-links row-values links values)
        (columns-joined t.graph.edges t.graph.source row-links links links' u)
        (columns-joined t.attributes t.node row-values values values' v));
    limits = record {
      rows = let s = set_sum i.counts c (get_or i.counts c 0 + 1) c-long t.graph.nodes c-in in omega arith;
      long = length-set i.counts c (get_or i.counts c 0 + 1) ∙ L.long;
    };
  }
    where
      attribute : ℕ → Attribute
      attribute a = record { node = get_or t.node a 0; kind = get_or t.kind a 0 }

-- ---- a row taken out of its table

-- a column without row x
without-tabulate : {B : Type 0} (x n : ℕ) (f : ℕ → B) → x ≤ n → without x (tabulate (suc n) f) ≡ tabulate n (λ j. f (skipping x j))
without-tabulate zero n f h = tabulate-same n (λ j m. ap f (sym (rw (leb-zero j) refl)))
without-tabulate (suc x) zero f h = absurd (omega arith)
without-tabulate {B} (suc x) (suc n) f h =
    ap₂ (λ (y : B) (l : List B). y ∷ l)
    (ap f (sym (rw (leb-suc-zero x) refl)))
    (without-tabulate x n (λ j. f (suc j)) (omega arith)
    ∙ tabulate-same n (λ j m. ap f (further j (leb x j) refl)))
  where
    further : (j : ℕ) (b : Bool) → leb x j ≡ b → suc (cond b (suc j) j) ≡ skipping (suc x) (suc j)
    further j b e = sym (rw (leb-suc-suc x j, e) (go b))
      where
        go : (b : Bool) → cond b (suc (suc j)) (suc j) ≡ suc (cond b (suc j) j)
        go true = refl
        go false = refl

module _ (t : Schema) (A : Sound t) (i : Instance) (L : Limits t i) (c x : ℕ) (c-in : c < t.graph.nodes) (x_in : x < get_or i.counts c 0) where
  abbrev left : List ℕ
  left = set i.counts c (get_or i.counts c 0 - 1)

  long : c < length i.counts
  long = let n = A.limits.nodes in rw L.long (omega arith)

  pub left_at : (d : ℕ) → get_or left d 0 ≡ at_table c d (λ n. n - 1) (get_or i.counts d 0)
  left_at d = set_at i.counts c (get_or i.counts c 0 - 1) long d ∙ go (eqb d c) refl
    where
      go : (b : Bool) → eqb d c ≡ b → cond b (get_or i.counts c 0 - 1) (get_or i.counts d 0) ≡ cond b (get_or i.counts d 0 - 1) (get_or i.counts d 0)
      go true e = ap (λ (k : ℕ). get_or i.counts k 0 - 1) (sym (eqb-true d c e))
      go false e = refl

  pub left-own : (d : ℕ) → d ≡ c → suc (get_or left d 0) ≡ get_or i.counts d 0
  left-own d e = let q : get_or left d 0 ≡ get_or i.counts d 0 - 1 = left_at d ∙ rw (eq-eqb d c e) refl in let k = ap (λ (j : ℕ). get_or i.counts j 0) e in omega arith

  left_le : (d : ℕ) → get_or left d 0 ≤ get_or i.counts d 0
  left_le d = rw (left_at d) (go (eqb d c))
    where
      go : (b : Bool) → cond b (get_or i.counts d 0 - 1) (get_or i.counts d 0) ≤ get_or i.counts d 0
      go true = omega arith
      go false = omega arith

  pub left_other : (d : ℕ) → (d ≡ c → ⊥) → get_or left d 0 ≡ get_or i.counts d 0
  left_other d n = left_at d ∙ rw (ne_eqb d c n) refl

  -- what is left has room, and the columns of table c have one row more
  pub row-one-more : (n : ℕ) (home : List ℕ) → ((k : ℕ) → k < n → get_or home k 0 < t.graph.nodes) → n ≤ length home → {l : List ℕ} → 512 * n ≤ length l → OneMore n home left c x l
  row-one-more n home home_in homes l-long = record {
    homes = homes;
    counted = λ k h. let a = home_in k h in let m = A.limits.nodes in rw (length-set i.counts c (get_or i.counts c 0 - 1), L.long) (omega arith);
    few = λ k h. le_trans (left_le (get_or home k 0)) (counts-few t i L (get_or home k 0) (home_in k h));
    one_more = λ k h e. let a = left-own (get_or home k 0) e in let b = counts-few t i L (get_or home k 0) (home_in k h) in omega arith;
    place = λ k h e. let a = left-own (get_or home k 0) e in let b = ap (λ (j : ℕ). get_or i.counts j 0) e in omega arith;
    long = l-long;
  }

  -- a column of f, without row x where it is one of table c
  column-without : {B : Type 0} (d : ℕ) (f : ℕ → B) → at_table c d (without x) (tabulate (get_or i.counts d 0) f) ≡ tabulate (get_or left d 0) (λ j. f (at_table c d (skipping x) j))
  column-without {B} d f = go (eqb d c) refl
    where
      go : (b : Bool) → eqb d c ≡ b → cond b (without x (tabulate (get_or i.counts d 0) f)) (tabulate (get_or i.counts d 0) f) ≡ tabulate (get_or left d 0) (λ j. f (cond b (skipping x j) j))
      go true e =
          let s = left-own d (eqb-true d c e) in
          let k = ap (λ (j : ℕ). get_or i.counts j 0) (eqb-true d c e) in
          ap (λ (m : ℕ). without x (tabulate m f)) (sym s) ∙ without-tabulate x (get_or left d 0) f (omega arith)
      go false e = ap (λ (m : ℕ). tabulate m f) (sym (left_other d (eqb-false d c e)))

  abbrev taken : ℕ → List ℕ → List ℕ → ℕ → List ℕ
  taken n home l k = at_table c (get_or home k 0) (without x) (get_or (columns_of n (rows_of home i.counts) l) k [])

  taken_is : (n : ℕ) (home l : List ℕ) (k : ℕ) → k < n → taken n home l k ≡ tabulate (rows_of home left k) (λ j. get_or l (512 * k + at_table c (get_or home k 0) (skipping x) j) 0)
  taken_is n home l k h = ap (at_table c (get_or home k 0) (without x)) (column-at n (rows_of home i.counts) l k h) ∙ column-without (get_or home k 0) (λ j. get_or l (512 * k + j) 0)

  values-taken : (n : ℕ) (home l r : List ℕ) → RowTaken n home left c x l r → (f : ℕ → List ℕ) → ((k : ℕ) → k < n → f k ≡ taken n home l k) → columns_of n (rows_of home left) r ≡ map f (upto n)
  values-taken n home l r u f e = columns-are n (rows_of home left) r f (λ k h. tabulate-same (rows_of home left k) (u.each k h) ∙ sym (e k h ∙ taken_is n home l k h))

  links-moved : (n : ℕ) (source target l m r : List ℕ) → RowTaken n source left c x l m → LinksMoved n source target left c x m r
      → (f : ℕ → List ℕ) → ((k : ℕ) → k < n → f k ≡ map (at_table c (get_or target k 0) (moved_down x)) (taken n source l k)) → columns_of n (rows_of source left) r ≡ map f (upto n)
  links-moved n source target l m r u v f e =
      columns-are n (rows_of source left) r f (λ k h.
      tabulate-same (rows_of source left k) (λ j q. v.each k h j q ∙ ap (at_table c (get_or target k 0) (moved_down x)) (u.each k h j q))
      ∙ sym (e k h ∙ ap (map (at_table c (get_or target k 0) (moved_down x))) (taken_is n source l k h) ∙ map-tabulate _ (rows_of source left k) _))

  abbrev attribute_in : ℕ → Attribute
  attribute_in a = record { node = get_or t.node a 0; kind = get_or t.kind a 0 }

  pub row-taken : (links values links' links'' values' : List ℕ)
      → RowTaken t.graph.edges t.graph.source left c x links links'
      → LinksMoved t.graph.edges t.graph.source t.graph.target left c x links' links''
      → RowTaken t.attributes t.node left c x values values'
      → Becomes t (record { counts = left }) links'' values' (withdrawn (schema_of t) (tables_of t i links values) c x)
  row-taken links values links' links'' values' u v w = record {
    says = rw (edges-count t.graph.edges t.graph.source t.graph.target, tabulate-length t.attributes attribute_in)
        (tables-same
        (tabulate-upto t.graph.nodes (λ d h. left_at d ∙ sym (ap (at_table c d (λ n. n - 1)) (tabulate-get_or t.graph.nodes (λ k. get_or i.counts k 0) 0 d h))))
        (links-moved t.graph.edges t.graph.source t.graph.target links links' links'' u v _ (λ e h.
        ap₂ (λ (s d : ℕ). map (at_table c d (moved_down x)) (at_table c s (without x) (get_or (tables_of t i links values).links e [])))
        (source-at t.graph.edges t.graph.source t.graph.target e h) (target_at t.graph.edges t.graph.source t.graph.target e h)))
        (values-taken t.attributes t.node values values' w _ (λ a h.
        ap (λ (y : Attribute). at_table c y.node (without x) (get_or (tables_of t i links values).values a [])) (tabulate-get_or t.attributes attribute_in _ a h))));
    limits = record {
      rows = let s = set_sum i.counts c (get_or i.counts c 0 - 1) long t.graph.nodes c-in in omega (arith, L.rows);
      long = length-set i.counts c (get_or i.counts c 0 - 1) ∙ L.long;
    };
  }
