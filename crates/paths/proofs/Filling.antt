-- The table of paths as it is filled: ranks edge by edge, rows path by path.
use Prim.Native.Nat.{ℕ, zero, suc, ◌+◌, ◌-◌, ◌<◌, ◌≤◌}
use mathlib.Core.Path.{◌≡◌, refl, sym, ap, ◌∙◌, subst}
use mathlib.Core.Bool.{Bool, true, false}
use mathlib.Core.List.{List, [], ◌∷◌, ◌++◌}
use native.Mathlib.Omega.{arith}
use native.Mathlib.Nat.{add-zero}
use native.Mathlib.Numerals.{add-one}
use lib.ListN.{length, get_or, set, replicate, length-set, length-append, get_or-replicate, length-replicate}
use lib.Seq.{get_or-set_same, get_or-set_other}
use lib.Dec.{eqb, ltb}
use borrow.Author.Count.{below_none}
use borrow.Author.Tests.{eqb-true, eqb-false, ltb-true, ltb-false}
use Rattle.theory.specs.Schema.{endpoint}
use Rattle.theory.proofs.Schema.{endpoint-append}
use Rattle.meaning.specs.Schema.{Graph, Path, path, source, target, has_loop}
use Rattle.meaning.proofs.Tabulate.{filled}
use Rattle.agreement.specs.Paths.{path_count, number_of, path_at}
use Rattle.agreement.proofs.Paths.{number_at}
use Rattle.schema.specs.declared.Graph as declared
use Rattle.schema.specs.Decoded.{graph_of}
use Rattle.schema.specs.Counted.{Fit}
use Rattle.schema.proofs.GraphEdges.{edges-count, source-at, target_at}
use Rattle.std.specs.Prelude.{Option}
use Rattle.paths.specs.declared.Paths.{Paths}
use Rattle.paths.specs.Chains.{Nowhere, FirstAt, NextAt, Chained, next_place}
use Rattle.paths.proofs.Chaining.{next_place_lem}
use Rattle.paths.specs.PathNumbers.{initial, final, start_of, end_of, length_of, parent_of, last_of, first_of, leaving_below, rank_of}
use Rattle.paths.specs.Table.{Filled, Ranked, Columns, Trivial, IsTable}
use Rattle.paths.proofs.PathNumbers.{below-here, below-skip, trivial-at, trivial-count, first_more, first-end, next-at}
use Rattle.paths.proofs.PathParents.{initial-one, final-one, first-after, parents}

-- ---- arrays filled from the front
pub filled-start : (size : ℕ) (f : ℕ → ℕ) → Filled size f 0 (replicate size 0)
filled-start size f = record { each = below_none _; long = length-replicate {A = ℕ} size 0 }

pub filled_more : {size n x : ℕ} {f : ℕ → ℕ} {l : List ℕ} → Filled size f n l → n < size → x ≡ f n → Filled size f (n + 1) (set l n x)
filled_more {n} {x} {f} {l} h less e = record {
  each = filled (λ k y. y ≡ f k) 0 l n (omega (arith, h.long)) e h.each;
  long = length-set l n x ∙ h.long;
}

-- ---- ranks: those of the first e edges are known, and how many of them leave each node
pub record Ranking (g : declared.Graph) (seen rank : List ℕ) (e : ℕ) : Type 0 where
  pub some : e ≤ g.edges
  pub ranks : Filled 32 (rank_of (graph_of g)) e rank
  pub counts : (v : ℕ) → v < g.nodes → get_or seen v 0 ≡ length (leaving_below (graph_of g) v e)
  pub long : length seen ≡ 16

pub ranking-start : (g : declared.Graph) → Fit g → Ranking g (replicate 16 0) (replicate 32 0) 0
ranking-start g f = record { some = omega arith; ranks = filled-start 32 _; counts = λ v l. get_or-replicate {A = ℕ} 16 v 0 0 (omega (arith, f.nodes)); long = refl }

below-count : (G : Graph) (v k : ℕ) → length (leaving_below G v k) ≤ k
below-count G v zero = omega arith
below-count G v (suc k) = subst (λ (m : ℕ). length (leaving_below G v m) ≤ m) (add-one k) (go (eqb (source G k) v) refl (below-count G v k))
  where
    go : (b : Bool) → eqb (source G k) v ≡ b → length (leaving_below G v k) ≤ k → length (leaving_below G v (k + 1)) ≤ k + 1
    go true p ih = omega (arith, ap length (below-here G v k (eqb-true (source G k) v p)), length-append (leaving_below G v k) (k ∷ []))
    go false p ih = omega (arith, ap length (below-skip G v k (eqb-false (source G k) v p)))

module _ {g : declared.Graph} {seen rank : List ℕ} {e : ℕ} (f : Fit g) (r : Ranking g seen rank e) (less : e < g.edges) where
  pub ranking-low : get_or seen (get_or g.source e 0) 0 ≤ 31
  ranking-low = omega (arith, r.counts (get_or g.source e 0) (f.sources e less), below-count (graph_of g) (get_or g.source e 0) e, f.edges)

  pub ranking-more : Ranking g (set seen (get_or g.source e 0) (get_or seen (get_or g.source e 0) 0 + 1)) (set rank e (get_or seen (get_or g.source e 0) 0)) (e + 1)
  ranking-more = record {
    some = omega arith;
    ranks = filled_more r.ranks (omega (arith, f.edges)) (r.counts node (f.sources e less) ∙ ap (λ (v : ℕ). length (leaving_below (graph_of g) v e)) (sym at));
    counts = λ v l. go v l (eqb v node) refl;
    long = length-set seen node (get_or seen node 0 + 1) ∙ r.long;
  }
    where
      node : ℕ
      node = get_or g.source e 0

      at : source (graph_of g) e ≡ get_or g.source e 0
      at = source-at g.edges g.source g.target e less

      go : (v : ℕ) → v < g.nodes → (b : Bool) → eqb v node ≡ b → get_or (set seen node (get_or seen node 0 + 1)) v 0 ≡ length (leaving_below (graph_of g) v (e + 1))
      go v l true p =
          let i : v ≡ get_or g.source e 0 = eqb-true v node p in
          let h = below-here (graph_of g) (get_or g.source e 0) e at in
          rw (i, get_or-set_same seen (get_or g.source e 0) (get_or seen (get_or g.source e 0) 0 + 1) 0 (omega (arith, r.long, f.nodes, f.sources e less)))
          (omega (arith, r.counts (get_or g.source e 0) (f.sources e less), ap length h, length-append (leaving_below (graph_of g) (get_or g.source e 0) e) (e ∷ [])))
      go v l false p =
          let i : v ≡ get_or g.source e 0 → ⊥ = eqb-false v node p in
          get_or-set_other seen node v (get_or seen node 0 + 1) 0 i ∙ r.counts v l ∙ ap length (sym (below-skip (graph_of g) v e (λ q. i (sym q ∙ at))))

-- ---- a row: path n is path h followed by edge k
pub record NextRow (G : Graph) (n h k : ℕ) : Type 0 where
  pub start : start_of G n ≡ start_of G h
  pub end : end_of G n ≡ target G k
  pub length : length_of G n ≡ length_of G h + 1
  pub parent : parent_of G n ≡ h
  pub last : last_of G n ≡ k

pub next_row : (G : Graph) (n h k : ℕ) → h < path_count G → path_at G n ≡ path (path_at G h).start ((path_at G h).edges ++ (k ∷ [])) → NextRow G n h k
next_row G n h k l e = record {
  start = ap (λ (p : Path). p.start) e;
  end = ap (λ (p : Path). endpoint (target G) p.start p.edges) e ∙ endpoint-append (target G) (path_at G h).start (path_at G h).edges (k ∷ []);
  length = ap (λ (p : Path). length p.edges) e ∙ let z = length-append (path_at G h).edges (k ∷ []) in omega arith;
  parent = ap (λ (p : Path). number_of G (path p.start (initial p.edges))) e ∙ ap (λ (x : List ℕ). number_of G (path (path_at G h).start x)) (initial-one (path_at G h).edges k) ∙ number_at G h l;
  last = ap (λ (p : Path). final p.edges) e ∙ final-one (path_at G h).edges k;
}

length-step : (G : Graph) → has_loop G ≡ false → (i : ℕ) → i < path_count G → ((x : ℕ) → x < i → length_of G x ≤ x) → length_of G i ≤ i
length-step G acyclic i h ih = go (ltb i G.nodes) refl
  where
    go : (t : Bool) → ltb i G.nodes ≡ t → length_of G i ≤ i
    go true p = omega (arith, ap (λ (q : Path). length q.edges) (trivial-at G acyclic i (ltb-true i G.nodes p)))
    go false p =
        let f = parents G acyclic i (ltb-false i G.nodes p) h in
        let x = f.below in
        omega (arith, (next_row G i (parent_of G i) (last_of G i) (omega arith) f.is).length, ih (parent_of G i) f.below)

-- a path has no more edges than paths before it
pub length-low : (G : Graph) → has_loop G ≡ false → (b i : ℕ) → i ≤ b → i < path_count G → length_of G i ≤ i
length-low G acyclic zero i l h = length-step G acyclic i h (λ x k. absurd (omega arith))
length-low G acyclic (suc b) i l h = length-step G acyclic i h (λ x k. length-low G acyclic b x (omega arith) (omega arith))

-- a path ends at a node
pub end_low : (g : declared.Graph) → Fit g → has_loop (graph_of g) ≡ false → (i : ℕ) → i < path_count (graph_of g) → end_of (graph_of g) i < g.nodes
end_low g f acyclic i h = go (ltb i g.nodes) refl
  where
    go : (t : Bool) → ltb i g.nodes ≡ t → end_of (graph_of g) i < g.nodes
    go true p = let l = ltb-true i g.nodes p in omega (arith, ap (λ (q : Path). endpoint (target (graph_of g)) q.start q.edges) (trivial-at (graph_of g) acyclic i l))
    go false p =
        let w = parents (graph_of g) acyclic i (ltb-false i g.nodes p) h in
        let b = w.below in
        let e : last_of (graph_of g) i < g.edges = omega (arith, w.edge, edges-count g.edges g.source g.target) in
        omega (arith, (next_row (graph_of g) i (parent_of (graph_of g) i) (last_of (graph_of g) i) (omega arith) w.is).end, target_at g.edges g.source g.target (last_of (graph_of g) i) e, f.targets (last_of (graph_of g) i) e)

-- no edge from edge i on leaves node v, for d edges
pub below-still : (G : Graph) (v i d : ℕ) → ((j : ℕ) → j < i + d → i ≤ j → source G j ≡ v → ⊥) → leaving_below G v (i + d) ≡ leaving_below G v i
below-still G v i zero none = ap (leaving_below G v) (add-zero i)
below-still G v i (suc d) none =
    let z : i + suc d ≡ i + d + 1 = omega arith in
    ap (leaving_below G v) z ∙ below-skip G v (i + d) (none (i + d) (omega arith) (omega arith)) ∙ below-still G v i d (λ j a b. none j (omega arith) b)

-- ---- rows: those of the paths before path h are followed, path h by the edges below e, and the next row is row n
pub record Filling (G : Graph) (n h e : ℕ) (t : Paths) : Type 0 where
  pub some : h ≤ path_count G
  pub low : n ≤ path_count G
  pub within : e ≤ length G.edges
  pub fresh : (path_count G ≤ h → e ≡ 0)
  pub next : n ≡ first_of G h + length (leaving_below G (end_of G h) e)
  pub columns : Columns G n t
  pub first : Filled 257 (first_of G) (h + 1) t.first

module _ (G : Graph) (acyclic : has_loop G ≡ false) where
  pub filling-start : {t : Paths} → Trivial G.nodes t → Filling G G.nodes 0 0 t
  filling-start {t} r = record {
    some = omega arith;
    low = trivial-count G acyclic;
    within = omega arith;
    fresh = λ _. refl;
    next = omega arith;
    columns = record {
      start = record { each = λ i l. r.start.each i l ∙ sym (ap (λ (p : Path). p.start) (trivial-at G acyclic i l)); long = r.start.long };
      end = record { each = λ i l. r.end.each i l ∙ sym (ap (λ (p : Path). endpoint (target G) p.start p.edges) (trivial-at G acyclic i l)); long = r.end.long };
      length = record { each = λ i l. r.length.each i l ∙ sym (ap (λ (p : Path). length p.edges) (trivial-at G acyclic i l)); long = r.length.long };
      parent = record { each = λ i l. r.parent.each i l ∙ sym (number i l); long = r.parent.long };
      last = record { each = λ i l. r.last.each i l ∙ sym (ap (λ (p : Path). final p.edges) (trivial-at G acyclic i l)); long = r.last.long };
    };
    first = record { each = λ i l. let z : i ≡ 0 = omega arith in r.first.each i (omega arith) ∙ rw z (omega arith); long = r.first.long };
  }
    where
      number : (i : ℕ) → i < G.nodes → parent_of G i ≡ i
      number i l =
          let e = trivial-at G acyclic i l in
          ap (λ (p : Path). number_of G (path p.start (initial p.edges))) e ∙ ap (number_of G) (sym e) ∙ number_at G i (omega (arith, trivial-count G acyclic))

  module _ {n h e : ℕ} {t : Paths} (f : Filling G n h e t) (less : h < path_count G) where
    -- path h has its row
    pub filling-row : h < n
    filling-row = omega (arith, first-after G acyclic h less, f.next)

    pub filling-end : get_or t.end h 0 ≡ end_of G h
    filling-end = f.columns.end.each h filling-row

    -- up to the next edge that leaves its end
    pub filling-to : {k : ℕ} → e ≤ k → k ≤ length G.edges → ((j : ℕ) → j < k → e ≤ j → source G j ≡ end_of G h → ⊥) → Filling G n h k t
    filling-to {k} later within none =
        let z : e + (k - e) ≡ k = omega arith in
        let same : leaving_below G (end_of G h) k ≡ leaving_below G (end_of G h) e = ap (leaving_below G (end_of G h)) (sym z) ∙ below-still G (end_of G h) e (k - e) (λ j a b. none j (omega arith) b) in
        record {
          some = f.some;
          low = f.low;
          within = within;
          fresh = λ l. absurd (omega arith);
          next = f.next ∙ ap (λ (l : List ℕ). first_of G h + length l) (sym same);
          columns = f.columns;
          first = f.first;
        }

    module _ (edge : e < length G.edges) (here : source G e ≡ end_of G h) where
      number_is : n ≡ first_of G h + rank_of G e
      number_is = f.next ∙ ap (λ (v : ℕ). first_of G h + length (leaving_below G v e)) (sym here)

      pub filling-in : n < path_count G
      filling-in = omega (arith, number_is, (next-at G acyclic h e less edge here).0)

      pub filling-is : NextRow G n h e
      filling-is = next_row G n h e less (ap (path_at G) number_is ∙ (next-at G acyclic h e less edge here).1)

      pub filling-more : n + 1 ≡ first_of G h + length (leaving_below G (end_of G h) (e + 1))
      filling-more = omega (arith, f.next, ap length (below-here G (end_of G h) e here), length-append (leaving_below G (end_of G h) e) (e ∷ []))

    -- path h is followed by every edge
    module _ (all : length G.edges ≤ e) where
      pub filling-first : n ≡ first_of G (h + 1)
      filling-first = let z : e ≡ length G.edges = omega (arith, f.within) in f.next ∙ ap (λ (m : ℕ). first_of G h + length (leaving_below G (end_of G h) m)) z ∙ sym (first_more G acyclic h less)

  -- no path is left
  filling-done : {n h e : ℕ} {t : Paths} → Filling G n h e t → n ≤ h → (h ≡ path_count G) × (n ≡ path_count G)
  filling-done {n} {h} {e} f l = go (ltb h (path_count G)) refl
    where
      go : (b : Bool) → ltb h (path_count G) ≡ b → (h ≡ path_count G) × (n ≡ path_count G)
      go true p = absurd (omega (arith, filling-row f (ltb-true h (path_count G) p)))
      go false p =
          let k = ltb-false h (path_count G) p in
          let z : h ≡ path_count G = omega (arith, f.some) in
          let m : n ≡ first_of G h + 0 = f.next ∙ ap (λ (m : ℕ). first_of G h + length (leaving_below G (end_of G h) m)) (f.fresh k) in
          (z, omega (arith, ap (first_of G) z, first-end G acyclic))

  -- and the table is whole, whatever its classes
  pub filling-table : {n h e : ℕ} {t : Paths} {rank : List ℕ} → Filling G n h e t → n ≤ h → path_count G ≤ 256 → Ranked G rank → {class : List ℕ}
      → IsTable G (record { count = n; start = t.start; end = t.end; length = t.length; parent = t.parent; last = t.last; class = class; first = t.first; rank = rank })
  filling-table {t} f l few ranked =
      let d = filling-done f l in
      let k = f.columns in
      record {
        counted = d.1;
        few = omega (arith, d.1);
        columns = record { start = k.start; end = k.end; length = k.length; parent = k.parent; last = k.last };
        first = subst (λ (x : ℕ). Filled 257 (first_of G) (x + 1) t.first) (d.0 ∙ sym d.1) f.first;
        rank = ranked;
      }

-- ---- the next edge that leaves the end of path h, by the chains through the edges' sources
module _ (g : declared.Graph) (fits : Fit g) (acyclic : has_loop (graph_of g) ≡ false) {n h e : ℕ} {t : Paths} (f : Filling (graph_of g) n h e t) (less : h < path_count (graph_of g)) where
  abbrev G : Graph
  G = graph_of g

  edges_are : length G.edges ≡ g.edges
  edges_are = edges-count g.edges g.source g.target

  pub row-end : get_or t.end h 0 ≡ end_of G h
  row-end = filling-end G acyclic f less

  pub row-end_low : get_or t.end h 0 < 16
  row-end_low = omega (arith, row-end, end_low g fits acyclic h less, fits.nodes)

  pub next-edge : {next first : List (Option ℕ)} → Chained g.source g.edges 0 next first → (0 < e → get_or g.source (e - 1) 0 ≡ end_of G h) → {x : Option ℕ} → x ≡ next_place next first (get_or t.end h 0) e → NextAt g.source (end_of G h) e g.edges x
  next-edge {next} {first} c came {x} is =
      subst (NextAt g.source (end_of G h) e g.edges) (sym (is ∙ ap (λ (v : ℕ). next_place next first v e) row-end))
      (next_place_lem c (let l = row-end_low in omega (arith, row-end)) (omega (arith, f.within, edges_are)) came)

  -- it is edge k
  module _ {k : ℕ} (found : FirstAt g.source (end_of G h) e g.edges k) where
    edge_in : k < length G.edges
    edge_in = let w = found.within in omega (arith, edges_are)

    leaves : source G k ≡ end_of G h
    leaves = source-at g.edges g.source g.target k found.within ∙ found.holds

    reached : Filling G n h k t
    reached = filling-to G acyclic f less found.later (omega (arith, edge_in)) (λ j a b q. found.none j a b (sym (source-at g.edges g.source g.target j (let w = found.within in omega arith)) ∙ q))

    pub row-room : n < path_count G
    row-room = filling-in G acyclic reached less edge_in leaves

    -- its row is written
    pub filling-write : path_count G ≤ 256 → {edge : ℕ} → k ≡ edge → Filling G (n + 1) h (k + 1) (record {
      count = t.count;
      start = set t.start n (get_or t.start h 0);
      end = set t.end n (get_or g.target k 0);
      length = set t.length n (get_or t.length h 0 + 1);
      parent = set t.parent n h;
      last = set t.last n edge;
      class = t.class;
      first = t.first;
      rank = t.rank;
    })
    filling-write few {edge} is =
        let u = reached in
        let m : n < 256 = omega (arith, row-room) in
        let w = filling-row G acyclic f less in
        let r = filling-is G acyclic u less edge_in leaves in
        record {
          some = u.some;
          low = omega (arith, row-room);
          within = omega (arith, edge_in);
          fresh = λ x. absurd (omega arith);
          next = filling-more G acyclic u less edge_in leaves;
          columns = record {
            start = filled_more u.columns.start m (u.columns.start.each h w ∙ sym r.start);
            end = filled_more u.columns.end m (sym (r.end ∙ target_at g.edges g.source g.target k found.within));
            length = filled_more u.columns.length m (ap (λ (x : ℕ). x + 1) (u.columns.length.each h w) ∙ sym r.length);
            parent = filled_more u.columns.parent m (sym r.parent);
            last = filled_more u.columns.last m (sym is ∙ sym r.last);
          };
          first = u.first;
        }

  -- there is none
  module _ (none : Nowhere g.source (end_of G h) e g.edges) where
    followed_by : n ≡ first_of G (h + 1)
    followed_by =
        filling-first G acyclic
        (filling-to G acyclic f less {k = g.edges} (omega (arith, f.within, edges_are)) (omega (arith, edges_are)) (λ j a b q. none.none j a b (sym (source-at g.edges g.source g.target j a) ∙ q)))
        less (omega (arith, edges_are))

    pub filling-next : path_count G ≤ 256 → Filling G n (h + 1) 0 (record {
      count = t.count;
      start = t.start;
      end = t.end;
      length = t.length;
      parent = t.parent;
      last = t.last;
      class = t.class;
      first = set t.first (h + 1) n;
      rank = t.rank;
    })
    filling-next few =
        let k = f.columns in
        record {
          some = omega arith;
          low = f.low;
          within = omega arith;
          fresh = λ _. refl;
          next = omega (arith, followed_by);
          columns = record { start = k.start; end = k.end; length = k.length; parent = k.parent; last = k.last };
          first = filled_more f.first (omega arith) followed_by;
        }
