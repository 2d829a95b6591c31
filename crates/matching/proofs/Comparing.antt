-- The test of a matching over working arrays is the meaning's.
use Prim.Native.Nat.{ℕ, zero, suc, ◌+◌, ◌*◌, ◌≤◌, ◌<◌}
use mathlib.Core.Path.{◌≡◌, refl, sym, ap, ap₂, ◌∙◌}
use mathlib.Core.Bool.{Bool, true, false, ◌&&◌}
use mathlib.Core.List.{List, [], ◌∷◌}
use native.Mathlib.Omega.{arith}
use native.Mathlib.Nat.{le_trans}
use native.Mathlib.Numerals.{add-one}
use lib.Dec.{ltb, eqb}
use lib.ListN.{length, get_or}
use borrow.Author.Tests.{ltb-true}
use Rattle.theory.specs.Numbering.{tabulate}
use Rattle.theory.proofs.Numbering.{tabulate-length, tabulate-get_or}
use denote.Param.Members.{Mut}
use Rattle.std.specs.declared.ops.Range.{Range}
use Rattle.std.specs.Fn.{Called}
use Rattle.std.specs.Iterator.{YieldsThen}
use Rattle.std.specs.List.{list_all, range_with_len, FoldsTo}
use Rattle.std.specs.Option.{MatchOption}
use Rattle.std.proofs.Common.{Option}
use Rattle.std.proofs.iter.Yields.{nat_range_steps}
use Rattle.std.proofs.lemmas.Iterator.{YieldsList-from_range}
use Rattle.std.proofs.lemmas.Iterator.Search.{all_from_yields_List}
use Rattle.meaning.specs.Lists.{range, upto, all}
use Rattle.meaning.specs.Schema.{Attribute}
use Rattle.meaning.specs.Formats as meaning
use Rattle.meaning.specs.Formats.{table_list}
use Rattle.meaning.specs.Views.{count, rows, link, value}
use Rattle.meaning.specs.Matching.{partner, partners_exist, links_kept, values_kept, is_matching}
use Rattle.meaning.proofs.Tabulate.{all-at, upto-tabulate, all_same}
use Rattle.schema.specs.declared.Schema.{Schema}
use Rattle.schema.specs.Decoded.{schema_of}
use Rattle.schema.proofs.GraphEdges.{edges-count, source-at, target_at}
use Rattle.schema.proofs.SoundSchema.{source_in, target-in, home_in}
use Rattle.instance.specs.declared.Instance.{Instance}
use Rattle.instance.specs.declared.tables.Table.{Table}
use Rattle.instance.specs.Decoded.{rows_of, tables_of}
use Rattle.instance.specs.Tables.{table_list_of}
use Rattle.instance.proofs.Columns.{sum_of-part}
use Rattle.instance.proofs.Following.{count_at, link-in}
use Rattle.matching.specs.Compared.{partners_of, first_in, count_in, each_row, partner_at, link_kept, value_kept, exist_test, link_test, value_test, TablesListed, ColumnsPaired, LinksPaired, Comparable}
use Rattle.matching.proofs.TableRows.{column-entry, count-is, table-within, partner-is}

-- ---- what `all` answers over the numbers below n
numbers : (a n : ℕ) → range_with_len a n ≡ range a n
numbers a zero = refl
numbers a (suc n) = rw (add-one a) (ap (λ (l : List ℕ). a ∷ l) (numbers (suc a) n))

all-list : (f : ℕ → Bool) (l : List ℕ) → list_all f l ≡ all f l
all-list f [] = refl
all-list f (x ∷ l) = ap (λ (b : Bool). f x && b) (all-list f l)

module _ {F : Type 0} {g : Mut F (ℕ × Unit {0}) Bool} {u : Range ℕ} {f : F} {r : Bool} (test : ℕ → Bool) (n : ℕ) where
  pub all-below : (xs : List ℕ) × (o : Option ℕ) × (j : F) × YieldsThen nat_range_steps (record { start = 0; end = n }) xs o u × FoldsTo (λ p x q. Called g p (x, tt) true q) f xs j
      × MatchOption o (r ≡ true) (λ x. (r ≡ false) × ((h : F) × Called g j (x, tt) false h))
      → ((x : ℕ) (b : Bool) (q : F) → Called g f (x, tt) b q → (q ≡ f) × (b ≡ test x)) → r ≡ all test (tabulate n (λ k. k))
  all-below ran each = all_from_yields_List test _ _ r ran (YieldsList-from_range 0 n n refl (omega arith)) each ∙ all-list test _ ∙ ap (all test) (numbers 0 n ∙ upto-tabulate n)

-- ---- a test of the first n numbers goes by what it says of each
entries-same : (f g : ℕ → Bool) (y : ℕ → ℕ) {n m : ℕ} → n ≡ m → ((r : ℕ) → r < n → f r ≡ g (y r)) → all f (upto n) ≡ all g (tabulate m y)
entries-same f g y {n} e h = ap (all f) (upto-tabulate n) ∙ all_same f g n (λ r. r) y h ∙ ap (λ (k : ℕ). all g (tabulate k y)) e

rows_same : (f g : ℕ → Bool) {n m : ℕ} → n ≡ m → ((r : ℕ) → r < n → f r ≡ g r) → all f (upto n) ≡ each_row m g
rows_same f g = entries-same f g (λ r. r)

module _ {t : Schema} {a : Instance} {links values : List ℕ} {b : Instance} {links' values' list : List ℕ} (K : Comparable t a links values b links' values' list)
    (tables : List Table) (laid : table_list_of t.graph.nodes tables ≡ table_list (tables_of t a [] [])) where
  abbrev nodes : ℕ
  nodes = t.graph.nodes

  abbrev edges : ℕ
  edges = t.graph.edges

  abbrev A : meaning.Instance
  A = tables_of t a links values

  abbrev B : meaning.Instance
  B = tables_of t b links' values'

  abbrev partners : List ℕ
  partners = partners_of t a list

  rows_at : (c : ℕ) → c < nodes → count A c ≡ count_in tables c
  rows_at c l = sym (count-is t a tables laid c l)

  within : (c : ℕ) → c < nodes → first_in tables c + count_in tables c ≤ 512
  within c l = le_trans (table-within t a tables laid c l) K.limits.rows

  -- ---- partners exist
  abbrev pub Exist : Bool
  Exist = all (exist_test tables b.counts list) (tabulate nodes (λ c. c))

  exist-test : partners_exist (schema_of t) A B partners ≡ Exist
  exist-test = rows_same _ _ refl (λ c l. entries-same _ _ _ (rows_at c l) (λ r h. ap₂ ltb (partner-is t a tables laid list c r l h) (count_at t K.sound b links' values' c l)))

  pub tables-listed : TablesListed nodes tables list
  tables-listed = record { few = K.sound.limits.nodes; listed = λ c l. le_trans (within c l) K.long }

  module _ (exist : Exist ≡ true) where
    partner-in : (c : ℕ) → c < nodes → (r : ℕ) → r < count_in tables c → partner_at list (first_in tables c) r < get_or b.counts c 0
    partner-in c l r h =
        ltb-true _ _ (all-at (λ x. ltb x (get_or b.counts c 0)) (count_in tables c) (partner_at list (first_in tables c)) (all-at (exist_test tables b.counts list) nodes (λ c. c) exist c l) r h)

    columns-paired : (n : ℕ) (home : List ℕ) {x y : List ℕ} → n ≤ length home → ((k : ℕ) → k < n → get_or home k 0 < nodes) → 512 * n ≤ length x → 512 * n ≤ length y → ColumnsPaired n home tables list x y
    columns-paired n home e h p q = record {
      homes = record { long = e; table = λ k l. omega (arith, h k l, K.sound.limits.nodes) };
      each = λ k l.
          let w = within (get_or home k 0) (h k l) in
          let few = sum_of-part nodes (λ c. get_or b.counts c 0) (get_or home k 0) (h k l) in
          record { listed = omega (arith, K.long); own = omega arith; other = λ r m. omega (arith, partner-in (get_or home k 0) (h k l) r m, K.limits'.rows) };
    }

    -- ---- links are kept
    abbrev source_of : ℕ → ℕ
    source_of e = get_or t.graph.source e 0

    abbrev target_of : ℕ → ℕ
    target_of e = get_or t.graph.target e 0

    -- a row's target is a row
    target_row : (e : ℕ) → e < edges → (r : ℕ) → r < count_in tables (source_of e) → get_or links (512 * e + r) 0 < count_in tables (target_of e)
    target_row e l r h =
        let s = source_in t K.sound e l in
        let u = target-in t K.sound e l in
        rw (← rows_at (target_of e) u, count_at t K.sound a links values (target_of e) u)
        (link-in t K.sound a links values K.limits K.room.for_links K.links_in e l r (rw (← count_at t K.sound a links values (source_of e) s, rows_at (source_of e) s) h))

    pub links-paired : length t.graph.source ≡ 32 → length t.graph.target ≡ 32 → LinksPaired edges t.graph.source t.graph.target tables list links links'
    links-paired s u =
        let few = K.sound.limits.edges in
        record {
          sources = columns-paired edges t.graph.source (omega arith) (source_in t K.sound) (omega (arith, K.room.for_links)) (omega (arith, K.room'.for_links));
          targets = record { long = omega arith; table = λ e l. omega (arith, target-in t K.sound e l, K.sound.limits.nodes) };
          each = λ e l. record { listed = λ r h. omega (arith, target_row e l r h, within (target_of e) (target-in t K.sound e l), K.long) };
        }

    link-kept : (e : ℕ) → e < edges → (r : ℕ) → r < count A (source_of e)
        → eqb (partner A partners (target_of e) (link A e r)) (link B e (partner A partners (source_of e) r))
        ≡ link_kept list (first_in tables (source_of e)) (first_in tables (target_of e)) links links' (512 * e) r
    link-kept e l r h =
        let s = source_in t K.sound e l in
        let u = target-in t K.sound e l in
        let m : r < count_in tables (source_of e) = rw (rows_at (source_of e) s) at h in
        let x = get_or links (512 * e + r) 0 in
        let y = partner_at list (first_in tables (source_of e)) r in
        ap₂ eqb
        (ap (partner A partners (target_of e)) (column-entry edges (rows_of t.graph.source a.counts) links e r l (rw (count_at t K.sound a links values (source_of e) s) at h))
        ∙ partner-is t a tables laid list (target_of e) x u (rw (rows_at (target_of e) u) (target_row e l r m)))
        (ap (link B e) (partner-is t a tables laid list (source_of e) r s h)
        ∙ column-entry edges (rows_of t.graph.source b.counts) links' e y l (partner-in (source_of e) s r m))

    edge_test : (e : ℕ) → e < edges → {s u : ℕ} → s ≡ source_of e → u ≡ target_of e
        → all (λ r. eqb (partner A partners u (link A e r)) (link B e (partner A partners s r))) (rows A s) ≡ link_test t.graph.source t.graph.target tables list links links' e
    edge_test e l p q = rw (p, q) (rows_same _ _ (rows_at (source_of e) (source_in t K.sound e l)) (link-kept e l))

    abbrev pub LinksKept : Bool
    LinksKept = all (link_test t.graph.source t.graph.target tables list links links') (tabulate edges (λ e. e))

    links-test : links_kept (schema_of t) A B partners ≡ LinksKept
    links-test =
        let n = edges-count edges t.graph.source t.graph.target in
        rows_same _ _ n (λ e h.
        let l : e < edges = rw n at h in
        edge_test e l (source-at edges t.graph.source t.graph.target e l) (target_at edges t.graph.source t.graph.target e l))

    -- ---- values are kept
    abbrev attributes : ℕ
    attributes = t.attributes

    abbrev home_of : ℕ → ℕ
    home_of k = get_or t.node k 0

    pub values-paired : length t.node ≡ 16 → ColumnsPaired attributes t.node tables list values values'
    values-paired e =
        let few = K.sound.limits.attributes in
        columns-paired attributes t.node (omega arith) (home_in t K.sound) (omega (arith, K.room.for_values)) (omega (arith, K.room'.for_values))

    value-kept : (k : ℕ) → k < attributes → (r : ℕ) → r < count A (home_of k)
        → eqb (value A k r) (value B k (partner A partners (home_of k) r)) ≡ value_kept list (first_in tables (home_of k)) values values' (512 * k) r
    value-kept k l r h =
        let s = home_in t K.sound k l in
        let y = partner_at list (first_in tables (home_of k)) r in
        ap₂ eqb
        (column-entry attributes (rows_of t.node a.counts) values k r l (rw (count_at t K.sound a links values (home_of k) s) at h))
        (ap (value B k) (partner-is t a tables laid list (home_of k) r s h)
        ∙ column-entry attributes (rows_of t.node b.counts) values' k y l (partner-in (home_of k) s r (rw (rows_at (home_of k) s) at h)))

    attribute-test : (k : ℕ) → k < attributes → {c : ℕ} → c ≡ home_of k
        → all (λ r. eqb (value A k r) (value B k (partner A partners c r))) (rows A c) ≡ value_test t.node tables list values values' k
    attribute-test k l p = rw p (rows_same _ _ (rows_at (home_of k) (home_in t K.sound k l)) (value-kept k l))

    abbrev attribute : ℕ → Attribute
    attribute k = record { node = get_or t.node k 0; kind = get_or t.kind k 0 }

    abbrev pub ValuesKept : Bool
    ValuesKept = all (value_test t.node tables list values values') (tabulate attributes (λ k. k))

    values-test : values_kept (schema_of t) A B partners ≡ ValuesKept
    values-test =
        let n = tabulate-length attributes attribute in
        rows_same _ _ n (λ k h.
        let l : k < attributes = rw n at h in
        attribute-test k l (ap (λ (x : Attribute). x.node) (tabulate-get_or attributes attribute _ k l)))

    -- ---- the three tests in turn
    pub links-fail : LinksKept ≡ false → is_matching (schema_of t) A B partners ≡ false
    links-fail e = rw (exist-test ∙ exist, links-test ∙ e)

    pub by_values : LinksKept ≡ true → is_matching (schema_of t) A B partners ≡ ValuesKept
    by_values e = rw (exist-test ∙ exist, links-test ∙ e) values-test

  pub partners-fail : Exist ≡ false → is_matching (schema_of t) A B partners ≡ false
  partners-fail e = rw (exist-test ∙ e)
