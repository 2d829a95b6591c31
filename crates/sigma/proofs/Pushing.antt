-- Sigma of decoded tables: its counts, and its links and values joined node by node.
use Prim.Native.Nat.{ℕ, zero, suc, ◌+◌, ◌*◌, ◌/◌, ◌%◌, ◌≤◌, ◌<◌}
use mathlib.Core.Path.{◌≡◌, refl, sym, ap, ap₂, subst, ◌∙◌}
use mathlib.Core.Bool.{Bool, true, false}
use mathlib.Core.List.{List, [], ◌++◌, map, append-nil}
use native.Mathlib.Omega.{arith}
use native.Mathlib.Numerals.{add-one}
use native.Mathlib.Decide.{ℕ_discrete}
use borrow.Author.Tests.{eq-eqb, ne_eqb}
use lib.ListN.{length, get_or}
use lib.Dec.{ltb, eqb}
use Rattle.theory.specs.Schema.{IsPath, endpoint}
use Rattle.theory.specs.Instance as theory
use Rattle.theory.specs.Mapping.{Even}
use Rattle.theory.proofs.Schema.{path-end}
use Rattle.theory.proofs.Numbering.{tabulate-length, tabulate-get_or}
use Rattle.meaning.specs.Lists.{upto, concat_map, cons_if}
use Rattle.meaning.specs.Schema as meaning
use Rattle.meaning.specs.Schema.{Path, source, target, end, joins, attribute_at}
use Rattle.meaning.specs.Formats as formats
use Rattle.meaning.specs.Views.{node_image, count, column, follow}
use Rattle.meaning.specs.Views as views
use Rattle.meaning.specs.Sigma.{fibre_below, fibre, lift, links_along, attribute_over, first_row}
use Rattle.meaning.proofs.PathLevels.{concat_map-append}
use Rattle.meaning.proofs.Tabulate.{tabulate-same, tabulate-upto, and_both, tabulate-plus}
use Rattle.agreement.proofs.Paths.{path-iff, path-short}
use Rattle.agreement.proofs.Mappings.{mapping-is}
use Rattle.agreement.specs.Valid.{ValidMapping}
use Rattle.agreement.proofs.Evenness.{even-iff, lift-is, attribute_over-is}
use Rattle.agreement.proofs.Categories.{listed-category}
use Rattle.schema.specs.declared.Schema.{Schema}
use Rattle.schema.specs.Decoded.{graph_of, schema_of, front_of, category_of}
use Rattle.schema.proofs.GraphEdges.{edges-count, source-at}
use Rattle.schema.proofs.SoundSchema.{source_in, home_in}
use Rattle.paths.specs.declared.Paths.{Paths}
use Rattle.paths.proofs.TablePaths.{formed}
use Rattle.instance.specs.declared.Instance.{Instance}
use Rattle.instance.specs.Decoded.{rows_of, column_of, columns_of, tables_of}
use Rattle.instance.specs.Followed.{link_in}
use Rattle.instance.proofs.Following.{count_at, rows_few, Led, led}
use Rattle.mapping.specs.declared.Mapping.{Mapping}
use Rattle.mapping.specs.Decoded.{mapping_of}
use Rattle.mapping.specs.PathEdges.{path_edges}
use Rattle.mapping.proofs.Viewing.{node_at, attributes-count, attribute-is}
use Rattle.mapping.proofs.PathEdges.{edges_are}
use Rattle.lifts.specs.Lifts.{IsLift, EdgeLifts, joined_before}
use Rattle.lifts.proofs.JoinedRows.{first-row, joined_length}
use Rattle.lifts.proofs.Columns.{attribute-over}
use Rattle.sigma.specs.Joined.{JoinedColumns, attribute_in, value_over}
use Rattle.sigma.specs.Lifted.{lift_row, LiftLeads}
use Rattle.sigma.specs.Pushed.{Counted, AllLead, AllOver, Pushable, sigma_of, Pushed}
use Rattle.sigma.proofs.Joining.{before_more, before-skip, joined-room}

-- ---- a joined list, node by node
module _ (F : formats.Mapping) (node counts : List ℕ) (d : ℕ) (f : ℕ → List ℕ) (base : ℕ) (r : List ℕ) where
  -- the rows of c, where they stand in r
  abbrev rows_from : ℕ → List ℕ
  rows_from c = column_of r (base + joined_before node counts d c) (get_or counts c 0)

  pub joined-column : (n : ℕ) → ((c : ℕ) → c < n → node_image F c ≡ get_or node c 0) → ((c : ℕ) → c < n → get_or node c 0 ≡ d → rows_from c ≡ f c)
      → column_of r base (joined_before node counts d n) ≡ concat_map f (fibre_below F n d)
  joined-column zero at is = refl
  joined-column (suc n) at is =
      let b = joined_before node counts d n in
      let here : node_image F n ≡ get_or node n 0 = at n (omega arith) in
      let rest : column_of r base b ≡ concat_map f (fibre_below F n d) = joined-column n (λ c l. at c (omega arith)) (λ c l. is c (omega arith)) in
      let more : concat_map f (fibre_below F (suc n) d) ≡ concat_map f (fibre_below F n d) ++ concat_map f (cons_if (eqb (get_or node n 0) d) n []) =
      concat_map-append f (fibre_below F n d) (cons_if (eqb (node_image F n) d) n []) ∙ ap (λ (c : ℕ). concat_map f (fibre_below F n d) ++ concat_map f (cons_if (eqb c d) n [])) here
      in
      elim (ℕ_discrete (get_or node n 0) d) [
        | yes e ↦
            let k : joined_before node counts d (suc n) ≡ b + get_or counts n 0 = rw (add-one n) at (before_more node counts d n e) in
            let t : eqb (get_or node n 0) d ≡ true = eq-eqb (get_or node n 0) d e in
            ap (column_of r base) k
            ∙ tabulate-plus b (get_or counts n 0) (λ i. get_or r (base + i) 0)
            ∙ ap₂ (λ (x y : List ℕ). x ++ y) rest (tabulate-same (get_or counts n 0) (λ i l. ap (λ (j : ℕ). get_or r j 0) (let w : base + (b + i) ≡ base + b + i = omega arith in w)) ∙ is n (omega arith) e ∙ sym (append-nil (f n)))
            ∙ ap (λ (q : Bool). concat_map f (fibre_below F n d) ++ concat_map f (cons_if q n [])) (sym t)
            ∙ sym more
        | no e ↦
            let k : joined_before node counts d (suc n) ≡ b = rw (add-one n) at (before-skip node counts d n e) in
            let t : eqb (get_or node n 0) d ≡ false = ne_eqb (get_or node n 0) d e in
            ap (column_of r base) k
            ∙ rest
            ∙ sym (append-nil (concat_map f (fibre_below F n d)))
            ∙ ap (λ (q : Bool). concat_map f (fibre_below F n d) ++ concat_map f (cons_if q n [])) (sym t)
            ∙ sym more
      ]

module _ {s t : Schema} {source-paths target-paths : Paths} {f : Mapping} {run : Instance} {links values : List ℕ} (P : Pushable s t source-paths target-paths f run links values) where
  abbrev S : meaning.Schema
  S = schema_of s

  abbrev T : meaning.Schema
  T = schema_of t

  abbrev F : formats.Mapping
  F = mapping_of s f

  abbrev G : meaning.Graph
  G = graph_of s.graph

  abbrev I : formats.Instance
  I = tables_of s run links values

  valid : ValidMapping (category_of s) (category_of t) F
  valid =
      let a = listed-category S (formed P.schemas.source) in
      let b = listed-category T (formed P.schemas.target) in
      record {
        s_is = a;
        t_is = b;
        attributes = tabulate-length s.attributes (λ i. get_or f.attribute i 0) ∙ sym (attributes-count s);
        is = mapping-is (category_of s) (category_of t) F a b (tabulate-length s.graph.nodes (λ i. get_or f.node i 0)) P.mapping.fits P.mapping.keeps;
      }

  evenness : Even (views.mapping_of S T F)
  evenness = (even-iff valid).0 P.is-even

  count-is : (c : ℕ) → c < s.graph.nodes → count I c ≡ get_or run.counts c 0
  count-is = count_at s P.schemas.source run links values

  -- ---- counts
  pub counts_are : {r : Instance} → Counted s t f run r → front_of t.graph.nodes r.counts ≡ (sigma_of s t f run links values).counts
  counts_are R = tabulate-upto t.graph.nodes (λ d l. R.counts.each d l ∙ sym (joined_length s f I run.counts count-is d))

  -- ---- links: the lift of e at c, by its number
  module _ {lifts : List ℕ} (U : EdgeLifts s t source-paths f (16 * t.graph.edges) lifts) (e : ℕ) (b : e < t.graph.edges) (c : ℕ) (l : c < s.graph.nodes) (at : get_or f.node c 0 ≡ get_or t.graph.source e 0) where
    abbrev number : ℕ
    number = get_or lifts (16 * e + c) 0

    abbrev p : Path
    p = lift (category_of s) (category_of t) F c e

    numbered : IsLift s t source-paths f c e number
    numbered =
        let n = P.schemas.source.limits.nodes in
        let q : (16 * e + c) / 16 ≡ e = omega arith in
        let m : (16 * e + c) % 16 ≡ c = omega arith in
        rw (q, m) at (U.each (16 * e + c) (omega arith)) l (sym at)

    record Lifted : Type 0 where
      below : number < source-paths.count
      start : p.start ≡ c
      is-path : IsPath (views.schema_of S) c p.edges
      edges_is : path_edges source-paths number ≡ p.edges
      end_is : get_or source-paths.end number 0 ≡ end G p
      end_in : end G p < s.graph.nodes
      reached_in : endpoint (target G) c p.edges < s.graph.nodes
      short : get_or source-paths.length number 0 ≤ 15

    lifted : Lifted
    lifted =
        let i = numbered in
        let table = P.schemas.source-paths.table in
        let g : source (graph_of t.graph) e ≡ node_image F c = source-at t.graph.edges t.graph.source t.graph.target e b ∙ sym at ∙ sym (node_at s f c l) in
        let h : e < length T.graph.edges = rw (edges-count t.graph.edges t.graph.source t.graph.target) b in
        let u = lift-is valid evenness c l e (h, g, valid.is.t_is.tgt_in e h) in
        let w = u.1.path in
        let k : length p.edges < s.graph.nodes = path-short S (formed P.schemas.source) c p.edges w in
        let z : get_or source-paths.length number 0 ≡ length p.edges = table.columns.length.each number i.below ∙ ap (λ (q : Path). length q.edges) i.path in
        record {
          below = i.below;
          start = u.0;
          is-path = w;
          edges_is = edges_are G P.schemas.source.acyclic table number (rw (← table.counted) i.below) ∙ ap (λ (q : Path). q.edges) i.path;
          end_is = table.columns.end.each number i.below ∙ ap (end G) i.path;
          end_in = rw u.0 (path-end (views.schema_of S) c p.edges w);
          reached_in = path-end (views.schema_of S) c p.edges w;
          short = omega (arith, k, z, P.schemas.source.limits.nodes);
        }

    module _ (long : 512 * s.graph.edges ≤ length links) where
      abbrev LedFrom : ℕ → Type 0
      LedFrom x = Led s P.schemas.source run links values P.limits long P.links_in c p.edges x

      led-from : (x : ℕ) → x < get_or run.counts c 0 → LedFrom x
      led-from x h =
          let t = (path-iff S P.schemas.source.well-formed c p.edges).1 lifted.is-path in
          led s P.schemas.source run links values P.limits long P.links_in c p.edges x (and_both (ltb c s.graph.nodes) (joins G c p.edges) t).1 h

      lift-leads : LiftLeads source-paths f.node run.counts links number (get_or run.counts c 0)
      lift-leads =
          let L = lifted in
          let z = get_or source-paths.end number 0 in
          let i : z < s.graph.nodes = rw L.end_is L.end_in in
          let n = P.schemas.source.limits.nodes in
          record {
            below = omega (arith, L.below, P.schemas.source-paths.table.few);
            short = L.short;
            end_in = omega arith;
            few = omega (arith, joined-room f.node run.counts (get_or f.node z 0) z s.graph.nodes P.limits.rows i refl);
            leads = rw L.edges_is (record {
              stays = λ x h. (led-from x h).stays;
              few = λ x h. omega (arith, (led-from x h).row_in, rows_few s P.schemas.source run links values P.limits long P.links_in (endpoint (target G) c p.edges) L.reached_in);
            });
          }

      -- where the lift leads row x, by its place in the joined list
      lift-row : (x : ℕ) → x < get_or run.counts c 0 → lift_row source-paths f.node run.counts links number x ≡ first_row F I (end G p) + follow I p.edges x
      lift-row x h =
          let L = lifted in
          ap₂ (λ (y : ℕ) (es : List ℕ). y + theory.follow (link_in links) es x)
          (ap (λ (z : ℕ). joined_before f.node run.counts (get_or f.node z 0) z) L.end_is ∙ sym (first-row s f I run.counts count-is (end G p) L.end_in))
          L.edges_is
          ∙ ap (λ (y : ℕ). first_row F I (end G p) + y) (led-from x h).same

  module _ (long : 512 * s.graph.edges ≤ length links) {lifts : List ℕ} (U : EdgeLifts s t source-paths f (16 * t.graph.edges) lifts) where
    pub all-lead : AllLead s t source-paths f run lifts links
    all-lead = record { each = λ e b. record { each = λ c l at. lift-leads U e b c l at long } }

    abbrev lift_rows : ℕ → ℕ → ℕ → ℕ
    lift_rows e c = lift_row source-paths f.node run.counts links (get_or lifts (16 * e + c) 0)

    module _ {r : Instance} (R : Counted s t f run r) {l₀ followed : List ℕ} (W : JoinedColumns f.node run.counts t.graph.source s.graph.nodes t.graph.edges lift_rows l₀ followed) where
      links-at : (e : ℕ) → e < t.graph.edges → column_of followed (512 * e) (rows_of t.graph.source r.counts e) ≡ concat_map (λ c. links_along S F I c (lift (category_of s) (category_of t) F c e)) (fibre S F (source T.graph e))
      links-at e b =
          let d = get_or t.graph.source e 0 in
          let k = R.counts.each d (source_in t P.schemas.target e b) in
          ap (column_of followed (512 * e)) k
          ∙ joined-column F f.node run.counts d (λ c. links_along S F I c (lift (category_of s) (category_of t) F c e)) (512 * e) followed s.graph.nodes (node_at s f)
          (λ c l at.
          tabulate-upto (get_or run.counts c 0) (λ x h. W.each e b c l at x h ∙ lift-row U e b c l at long x h)
          ∙ ap (λ (n : ℕ). map (λ x. first_row F I (end G (lift (category_of s) (category_of t) F c e)) + follow I (lift (category_of s) (category_of t) F c e).edges x) (upto n)) (sym (count-is c l)))
          ∙ ap (λ (c : ℕ). concat_map (λ c. links_along S F I c (lift (category_of s) (category_of t) F c e)) (fibre S F c)) (sym (source-at t.graph.edges t.graph.source t.graph.target e b))

      pub links-are : columns_of t.graph.edges (rows_of t.graph.source r.counts) followed ≡ (sigma_of s t f run links values).links
      links-are =
          tabulate-upto t.graph.edges links-at
          ∙ ap (λ (n : ℕ). map (λ e. concat_map (λ c. links_along S F I c (lift (category_of s) (category_of t) F c e)) (fibre S F (source T.graph e))) (upto n)) (sym (edges-count t.graph.edges t.graph.source t.graph.target))

  -- ---- values: the attribute at c over b, and its column
  module _ (b : ℕ) (h : b < t.attributes) (c : ℕ) (l : c < s.graph.nodes) (at : get_or f.node c 0 ≡ get_or t.node b 0) where
    abbrev a : ℕ
    a = attribute_over S F c b

    record Over : Type 0 where
      inside : a < s.attributes
      home : get_or s.node a 0 ≡ c

    over : Over
    over =
        let g : (attribute_at T b).node ≡ node_image F c = ap (λ (x : meaning.Attribute). x.node) (attribute-is t b h) ∙ sym at ∙ sym (node_at s f c l) in
        let o = attribute_over-is valid evenness c l b (rw (attributes-count t) h) g in
        let i : a < s.attributes = omega (arith, o.attribute-in, attributes-count s) in
        record { inside = i; home = sym (ap (λ (x : meaning.Attribute). x.node) (attribute-is s a i)) ∙ o.home_is }

    column-is : column_of values (512 * attribute_in s f b c) (get_or run.counts c 0) ≡ column I a
    column-is =
        ap₂ (λ (x y : ℕ). column_of values (512 * x) (get_or run.counts y 0)) (sym (attribute-over s f c b)) (sym over.home)
        ∙ sym (tabulate-get_or s.attributes (λ k. column_of values (512 * k) (rows_of s.node run.counts k)) [] a over.inside)

  pub all-over : AllOver s t f
  all-over = record { each = λ b h. record { each = λ c l at. subst (λ (n : ℕ). n < s.attributes) (attribute-over s f c b) (over b h c l at).inside } }

  module _ {r : Instance} (R : Counted s t f run r) {l₀ copied : List ℕ} (W : JoinedColumns f.node run.counts t.node s.graph.nodes t.attributes (value_over s f values) l₀ copied) where
    values-at : (b : ℕ) → b < t.attributes → column_of copied (512 * b) (rows_of t.node r.counts b) ≡ concat_map (λ c. column I (attribute_over S F c b)) (fibre S F (attribute_at T b).node)
    values-at b h =
        let d = get_or t.node b 0 in
        let k = R.counts.each d (home_in t P.schemas.target b h) in
        ap (column_of copied (512 * b)) k
        ∙ joined-column F f.node run.counts d (λ c. column I (attribute_over S F c b)) (512 * b) copied s.graph.nodes (node_at s f)
        (λ c l at. tabulate-same (get_or run.counts c 0) (W.each b h c l at) ∙ column-is b h c l at)
        ∙ ap (λ (x : meaning.Attribute). concat_map (λ c. column I (attribute_over S F c b)) (fibre S F x.node)) (sym (attribute-is t b h))

    pub values-are : columns_of t.attributes (rows_of t.node r.counts) copied ≡ (sigma_of s t f run links values).values
    values-are =
        tabulate-upto t.attributes values-at
        ∙ ap (λ (n : ℕ). map (λ b. concat_map (λ c. column I (attribute_over S F c b)) (fibre S F (attribute_at T b).node)) (upto n)) (sym (attributes-count t))

-- ---- the whole
pub pushed : {s t : Schema} {f : Mapping} {run r : Instance} {links values followed copied : List ℕ} → front_of t.graph.nodes r.counts ≡ (sigma_of s t f run links values).counts
    → columns_of t.graph.edges (rows_of t.graph.source r.counts) followed ≡ (sigma_of s t f run links values).links
    → columns_of t.attributes (rows_of t.node r.counts) copied ≡ (sigma_of s t f run links values).values → length r.counts ≡ 16 → Pushed s t f run links values r followed copied
pushed a b c long = record { says = rw (a, b, c); long = long }
