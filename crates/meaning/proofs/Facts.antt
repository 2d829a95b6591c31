-- What an accepted sheet gives: each of its tests passed, each of its lists as long as it should be, each number below its field's bound.
use Prim.Native.Nat.{ℕ, ◌^◌, ◌<◌, ◌≤◌}
use mathlib.Core.Path.{◌≡◌, refl, subst}
use mathlib.Core.Bool.{true, false, not, ◌&&◌}
use mathlib.Core.List.{List, [], Memᴰ}
use native.Mathlib.Omega.{arith}
use lib.ListN.{length, get_or}
use lib.Dec.{leb}
use borrow.Author.Tests.{leb-true, not-true}
use Rattle.meaning.specs.Lists.{sum_of}
use Rattle.meaning.specs.Schema.{Equation, Schema, attribute_at, has_loop}
use Rattle.meaning.specs.Sheet.{sound, on_sheet}
use Rattle.meaning.specs.Formats.{Counts, Mapping, Instance, max_nodes, max_edges, max_attributes, max_equations, max_rows, counts_in_limits, read_edges, read_path, read_counts, read_edge, read_attribute, read_equation, read_lists, read_schema, read_mapping, read_tables, read_instance, read_matching, kinds}
use Rattle.meaning.specs.Views.{Shaped, count, link, value, node_image, edge_image, attribute_image}
use Rattle.meaning.specs.Category.{Category}
use Rattle.meaning.specs.Judge.{is_well_formed, has_few_paths, test_schema, judge_schema, judge_mapping, judge_instance, images_fit, keeps_equations, links_in_range, values_in_range, obeys_equations}
use Rattle.meaning.specs.Matching.{is_matching, judge_matching}
use Rattle.meaning.proofs.Tabulate.{and_both}
use Rattle.meaning.proofs.Readers.{Gives, gives-bind, gives-give, gives_as, gives-field, gives-ensure, gives-finish, Every, none, every_in, every-at, gives-times, pointwise-length, pointwise-at, pointwise-every, gives-in_turn, sound-same, given, bind-sound, ensure-sound}

-- ---- paths
gives-edges : Gives read_edges (λ es. (length es ≤ 15) × Every (λ e. e < 32) es)
gives-edges = gives-bind (gives-field 4) (λ k h. gives_as (gives-times k (gives-field 5)) (λ es e. (let n = e.0 in omega arith, e.1)))

gives-path : Gives read_path (λ p. length p.edges ≤ 15)
gives-path = gives-bind (gives-field 4) (λ n _. gives-bind gives-edges (λ es h. gives-give h.0))

-- ---- schemas

-- what the reader of a schema sheet gives
record Sized (c : Counts) (S : Schema) : Type 0 where
  nodes : S.graph.nodes ≡ c.nodes
  edges : length S.graph.edges ≡ c.edges
  attributes : length S.attributes ≡ c.attributes
  equations : length S.equations ≡ c.equations
  kinds_small : Every (λ a. a.kind < 16) S.attributes
  sides_short : Every (λ q. (length q.left.edges ≤ 15) × (length q.right.edges ≤ 15)) S.equations

gives-attribute : Gives read_attribute (λ a. a.kind < 16)
gives-attribute = gives-bind (gives-field 4) (λ n _. gives-bind (gives-field 4) (λ k h. gives-give h))

gives-equation : Gives read_equation (λ q. (length q.left.edges ≤ 15) × (length q.right.edges ≤ 15))
gives-equation = gives-bind gives-path (λ l h. gives-bind gives-path (λ r k. gives-give (h, k)))

gives-edge : Gives read_edge (λ _. Unit {0})
gives-edge = record { so = λ s p e. tt }

gives-lists : (c : Counts) → Gives (read_lists c) (Sized c)
gives-lists c =
    gives-bind (gives-times c.edges gives-edge) (λ es e.
    gives-bind (gives-times c.attributes gives-attribute) (λ as' a.
    gives-bind (gives-times c.equations gives-equation) (λ qs q.
    gives-give (record { nodes = refl; edges = e.0; attributes = a.0; equations = q.0; kinds_small = a.1; sides_short = q.1 }))))

record SchemaRead (S : Schema) : Type 0 where
  c : Counts
  limits : counts_in_limits c ≡ true
  sized : Sized c S

gives-schema : Gives read_schema SchemaRead
gives-schema =
    gives-bind gives-counts (λ c _.
    gives-bind (gives-ensure (counts_in_limits c) 3) (λ _ h.
    gives-bind (gives-lists c) (λ S k.
    gives-bind gives-finish (λ _ _.
    gives-give (record { c = c; limits = h; sized = k })))))
  where
    gives-counts : Gives read_counts (λ _. Unit {0})
    gives-counts = record { so = λ s p e. tt }

record Limits (c : Counts) : Type 0 where
  some_node : 1 ≤ c.nodes
  nodes : c.nodes ≤ max_nodes
  edges : c.edges ≤ max_edges
  attributes : c.attributes ≤ max_attributes
  equations : c.equations ≤ max_equations

limits_of : (c : Counts) → counts_in_limits c ≡ true → Limits c
limits_of c e =
    let q = and_both (leb 1 c.nodes && leb c.nodes max_nodes && leb c.edges max_edges && leb c.attributes max_attributes) (leb c.equations max_equations) e in
    let a = and_both (leb 1 c.nodes && leb c.nodes max_nodes && leb c.edges max_edges) (leb c.attributes max_attributes) q.0 in
    let d = and_both (leb 1 c.nodes && leb c.nodes max_nodes) (leb c.edges max_edges) a.0 in
    let n = and_both (leb 1 c.nodes) (leb c.nodes max_nodes) d.0 in
    record {
      some_node = leb-true 1 c.nodes n.0;
      nodes = leb-true c.nodes max_nodes n.1;
      edges = leb-true c.edges max_edges d.1;
      attributes = leb-true c.attributes max_attributes a.1;
      equations = leb-true c.equations max_equations q.1;
    }

pub record SchemaFacts (S : Schema) : Type 0 where
  pub well-formed : is_well_formed S ≡ true
  pub loop_free : has_loop S.graph ≡ false
  pub few_paths : has_few_paths S.graph ≡ true
  pub some_node : 1 ≤ S.graph.nodes
  pub nodes : S.graph.nodes ≤ max_nodes
  pub edges : length S.graph.edges ≤ max_edges
  pub attributes : length S.attributes ≤ max_attributes
  pub equations : length S.equations ≤ max_equations
  pub kind : (a : ℕ) → (attribute_at S a).kind < 16
  pub left : (q : Equation) → Memᴰ q S.equations → length q.left.edges ≤ 15
  pub right : (q : Equation) → Memᴰ q S.equations → length q.right.edges ≤ 15

pub schema-facts : (s : List ℕ) {S : Schema} → judge_schema s ≡ sound S → SchemaFacts S
schema-facts s e =
    let r = bind-sound (on_sheet read_schema s) test_schema e in
    let S = r.0 in
    let w = ensure-sound (is_well_formed S) 4 _ r.2 in
    let l = ensure-sound (not (has_loop S.graph)) 5 _ w.1 in
    let p = ensure-sound (has_few_paths S.graph) 6 _ l.1 in
    let g = given gives-schema s r.1 in
    let k = g.sized in
    let m = limits_of g.c g.limits in
    subst SchemaFacts (sound-same p.1) (record {
      well-formed = w.0;
      loop_free = not-true (has_loop S.graph) l.0;
      few_paths = p.0;
      some_node = omega arith;
      nodes = omega arith;
      edges = omega arith;
      attributes = omega arith;
      equations = omega arith;
      kind = every-at k.kinds_small (record { node = 0; kind = 0 }) (omega arith);
      left = λ q i. (every_in k.sides_short i).0;
      right = λ q i. (every_in k.sides_short i).1;
    })

-- ---- mappings
pub record MappingFacts (S T : Category) (F : Mapping) : Type 0 where
  pub nodes : length F.nodes ≡ S.schema.graph.nodes
  pub edges : length F.edges ≡ length S.schema.graph.edges
  pub attributes : length F.attributes ≡ length S.schema.attributes
  pub fits : images_fit S.schema T.schema F ≡ true
  pub keeps : keeps_equations S T F ≡ true
  pub short : (e : ℕ) → length (edge_image F e) ≤ 15

-- each list is as long as S says, and each number fits its field
pub record FitsSheet (S : Schema) (F : Mapping) : Type 0 where
  pub nodes : length F.nodes ≡ S.graph.nodes
  pub edges : length F.edges ≡ length S.graph.edges
  pub attributes : length F.attributes ≡ length S.attributes
  pub node_below : (c : ℕ) → node_image F c < 16
  pub short : (e : ℕ) → length (edge_image F e) ≤ 15
  pub edge_below : (e i : ℕ) → get_or (edge_image F e) i 0 < 32
  pub attribute_below : (a : ℕ) → attribute_image F a < 16

gives-mapping : (S : Schema) → Gives (read_mapping S) (FitsSheet S)
gives-mapping S =
    gives-bind (gives-times S.graph.nodes (gives-field 4)) (λ ns n.
    gives-bind (gives-times (length S.graph.edges) gives-edges) (λ es e.
    gives-bind (gives-times (length S.attributes) (gives-field 4)) (λ as' a.
    gives-bind gives-finish (λ _ _.
    gives-give (record {
      nodes = n.0;
      edges = e.0;
      attributes = a.0;
      node_below = every-at n.1 0 (omega arith);
      short = λ k. (every-at e.1 [] (omega arith, none) k).0;
      edge_below = λ k. every-at (every-at e.1 [] (omega arith, none) k).1 0 (omega arith);
      attribute_below = every-at a.1 0 (omega arith);
    })))))

module _ (S : Schema) (s : List ℕ) where
  -- of a sheet that reads as a mapping
  pub mapping-sheet-fits : {F : Mapping} → on_sheet (read_mapping S) s ≡ sound F → FitsSheet S F
  mapping-sheet-fits e = given (gives-mapping S) s e

  pub mapping-sized : {F : Mapping} → on_sheet (read_mapping S) s ≡ sound F → length F.nodes ≡ S.graph.nodes
  mapping-sized e = (mapping-sheet-fits e).nodes

module _ (S T : Category) (s : List ℕ) where
  mapping-passed : {F : Mapping} → judge_mapping S T s ≡ sound F → (on_sheet (read_mapping S.schema) s ≡ sound F) × (images_fit S.schema T.schema F ≡ true) × (keeps_equations S T F ≡ true)
  mapping-passed e =
      let r = bind-sound (on_sheet (read_mapping S.schema) s) _ e in
      let f = ensure-sound (images_fit S.schema T.schema r.0) 7 _ r.2 in
      let k = ensure-sound (keeps_equations S T r.0) 8 _ f.1 in
      rw (← sound-same k.1) (r.1, f.0, k.0)

  pub mapping-read : {F : Mapping} → judge_mapping S T s ≡ sound F → on_sheet (read_mapping S.schema) s ≡ sound F
  mapping-read e = (mapping-passed e).0

  pub mapping-facts : {F : Mapping} → judge_mapping S T s ≡ sound F → MappingFacts S T F
  mapping-facts e =
      let t = mapping-passed e in
      let g = mapping-sheet-fits S.schema s t.0 in
      record { nodes = g.nodes; edges = g.edges; attributes = g.attributes; fits = t.1; keeps = t.2; short = g.short }

-- ---- instances

-- each number fits its field
pub record FitsFields (I : Instance) : Type 0 where
  pub count_below : (c : ℕ) → count I c < 2 ^ 10
  pub link_below : (e r : ℕ) → link I e r < 2 ^ 9
  pub value_below : (a r : ℕ) → value I a r < 2 ^ 32

pub record InstanceFacts (S : Schema) (I : Instance) : Type 0 where
  pub shaped : Shaped S I
  pub fits_fields : FitsFields I
  pub few_rows : sum_of I.counts ≤ max_rows
  pub links : links_in_range S I ≡ true
  pub values : values_in_range kinds S I ≡ true
  pub equations : obeys_equations S I ≡ true

record InstanceRead (S : Schema) (I : Instance) : Type 0 where
  shaped : Shaped S I
  fits_fields : FitsFields I
  few_rows : sum_of I.counts ≤ max_rows

-- what follows the leading counts
pub record TablesRead (S : Schema) (counts : List ℕ) (I : Instance) : Type 0 where
  pub counts_are : I.counts ≡ counts
  pub shaped : Shaped S I
  pub link_below : (e r : ℕ) → link I e r < 2 ^ 9
  pub value_below : (a r : ℕ) → value I a r < 2 ^ 32

pub gives-tables : (S : Schema) (counts : List ℕ) → length counts ≡ S.graph.nodes → Gives (read_tables S counts) (TablesRead S counts)
gives-tables S counts n =
    gives-bind (gives-in_turn (λ e. gives-times (get_or counts e.source 0) (gives-field 9)) S.graph.edges) (λ ls l.
    gives-bind (gives-in_turn (λ a. gives-times (get_or counts a.node 0) (gives-field 32)) S.attributes) (λ vs v.
    gives-bind gives-finish (λ _ _.
    gives-give (record {
      counts_are = refl;
      shaped = record {
        tables = n;
        edges = pointwise-length l;
        attributes = pointwise-length v;
        links = λ e i. (pointwise-at l (record { source = 0; target = 0 }) [] e i).0;
        values = λ a i. (pointwise-at v (record { node = 0; kind = 0 }) [] a i).0;
      };
      link_below = λ e r. every-at (every-at (pointwise-every (λ x y h. h.1) l) [] none e) 0 (omega arith) r;
      value_below = λ a r. every-at (every-at (pointwise-every (λ x y h. h.1) v) [] none a) 0 (omega arith) r;
    }))))

gives-instance : (S : Schema) → Gives (read_instance S) (InstanceRead S)
gives-instance S =
    gives-bind (gives-times S.graph.nodes (gives-field 10)) (λ counts n.
    gives-bind (gives-ensure (leb (sum_of counts) max_rows) 3) (λ _ few.
    gives_as (gives-tables S counts n.0) (λ I t. record {
      shaped = t.shaped;
      fits_fields = record { count_below = λ c. rw t.counts_are (every-at n.1 0 (omega arith) c); link_below = t.link_below; value_below = t.value_below };
      few_rows = rw t.counts_are (leb-true (sum_of counts) max_rows few);
    })))

module _ (S : Schema) (s : List ℕ) where
  instance-passed : {I : Instance} → judge_instance S s ≡ sound I → (on_sheet (read_instance S) s ≡ sound I) × (links_in_range S I ≡ true) × (values_in_range kinds S I ≡ true) × (obeys_equations S I ≡ true)
  instance-passed e =
      let r = bind-sound (on_sheet (read_instance S) s) _ e in
      let l = ensure-sound (links_in_range S r.0) 9 _ r.2 in
      let v = ensure-sound (values_in_range kinds S r.0) 10 _ l.1 in
      let q = ensure-sound (obeys_equations S r.0) 11 _ v.1 in
      rw (← sound-same q.1) (r.1, l.0, v.0, q.0)

  -- of a sheet that reads as an instance
  pub instance-shaped : {I : Instance} → on_sheet (read_instance S) s ≡ sound I → Shaped S I
  instance-shaped e = (given (gives-instance S) s e).shaped

  pub instance-read : {I : Instance} → judge_instance S s ≡ sound I → on_sheet (read_instance S) s ≡ sound I
  instance-read e = (instance-passed e).0

  pub instance-facts : {I : Instance} → judge_instance S s ≡ sound I → InstanceFacts S I
  instance-facts e =
      let t = instance-passed e in
      let g = given (gives-instance S) s t.0 in
      record { shaped = g.shaped; fits_fields = g.fits_fields; few_rows = g.few_rows; links = t.1; values = t.2; equations = t.3 }

-- ---- matchings
pub record MatchingFacts (S : Schema) (A B : Instance) (l : List ℕ) : Type 0 where
  pub whole : length l ≡ sum_of A.counts
  pub below : (i : ℕ) → get_or l i 0 < 2 ^ 9
  pub is-matching : is_matching S A B l ≡ true

gives-matching : (A : Instance) → Gives (read_matching A) (λ l. (length l ≡ sum_of A.counts) × Every (λ v. v < 2 ^ 9) l)
gives-matching A = gives-bind (gives-times (sum_of A.counts) (gives-field 9)) (λ l h. gives-bind gives-finish (λ _ _. gives-give h))

module _ (S : Schema) (A B : Instance) (s : List ℕ) where
  matching-passed : {l : List ℕ} → judge_matching S A B s ≡ sound l → (on_sheet (read_matching A) s ≡ sound l) × (is_matching S A B l ≡ true)
  matching-passed e =
      let r = bind-sound (on_sheet (read_matching A) s) _ e in
      let m = ensure-sound (is_matching S A B r.0) 17 _ r.2 in
      rw (← sound-same m.1) (r.1, m.0)

  pub matching-read : {l : List ℕ} → judge_matching S A B s ≡ sound l → on_sheet (read_matching A) s ≡ sound l
  matching-read e = (matching-passed e).0

  pub matching-facts : {l : List ℕ} → judge_matching S A B s ≡ sound l → MatchingFacts S A B l
  matching-facts e =
      let t = matching-passed e in
      let g = given (gives-matching A) s t.0 in
      record { whole = g.0; below = every-at g.1 0 (omega arith); is-matching = t.1 }
