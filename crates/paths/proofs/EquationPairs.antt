-- The pairs that a judged schema's equations join in its table of paths are those of all steps.
use Prim.Native.Nat.{ℕ, ◌<◌}
use mathlib.Core.Path.{◌≡◌, refl, sym, ap, ◌∙◌, subst}
use mathlib.Core.Bool.{Bool, true, false, cond}
use mathlib.Core.List.{List, [], ◌++◌, Memᴰ, append_assoc}
use mathlib.Core.Logic.{inl}
use native.Mathlib.Omega.{arith}
use lib.ListN.{length, get_or, take, length-append}
use lib.Seq.{get_or-take}
use lib.Dec.{eqb}
use borrow.Author.Tests.{eqb-true, eq-eqb}
use Rattle.theory.specs.Schema.{endpoint, IsPath, same, more}
use Rattle.theory.proofs.Schema.{endpoint-append, path-start, path-first, path-last}
use Rattle.theory.proofs.Numbering.{tabulate-length, tabulate-get_or}
use Rattle.theory.proofs.Order.{mem-position, mem-get_or}
use Rattle.meaning.specs.Lists.{upto}
use Rattle.meaning.specs.Schema as meaning
use Rattle.meaning.specs.Schema.{target, joins, end}
use Rattle.meaning.specs.Views as views
use Rattle.meaning.proofs.Lists.{concat_map-in, concat_map-of, in-upto, of-upto, upto-length}
use Rattle.agreement.specs.Paths.{WellFormed, path_count, number_of, path_at, class_number}
use Rattle.agreement.proofs.Paths.{schema_is, edge_lists-each, path-short, all_paths-each, number_in, number-path, number_at}
use Rattle.schema.specs.declared.Path.{Path}
use Rattle.schema.specs.declared.Schema.{Schema}
use Rattle.schema.specs.Decoded.{graph_of, path_of, no_path, equation_of, schema_of}
use Rattle.schema.specs.Judged.{Sound, SoundPath}
use Rattle.schema.proofs.GraphEdges.{edges-count}
use Rattle.schema.proofs.Judging.{fit}
use Rattle.schema.proofs.SoundSchema.{sides-at}
use Rattle.paths.specs.declared.Paths.{Paths}
use Rattle.paths.specs.PathNumbers.{start_of, end_of}
use Rattle.paths.specs.Table.{Filled, Index, IsTable}
use Rattle.paths.specs.PathWalks.{walk_from}
use Rattle.paths.specs.Chains.{Small}
use Rattle.paths.specs.Classes.{join_numbers, follower_pairs, pairs_at, equation_pairs, schema_pairs, Joinable, class_at}
use Rattle.paths.proofs.Filling.{end_low}
use Rattle.paths.proofs.PathWalks.{Reached, walk-reaches, Numbered, walk-number}
use Rattle.paths.proofs.PathBlocks.{behind}
use Rattle.paths.proofs.FollowerPairs.{pairs_of, pairs-in, pairs-within}
use Rattle.paths.proofs.JoinedNumbers.{Below, Linked, IsStep, numbers-length, numbers-take, take-upto, numbers-classes}

module _ (t : Schema) (p : Paths) (sound : Sound t) (table : IsTable (graph_of t.graph) p) where
  abbrev G : meaning.Graph
  G = graph_of t.graph

  abbrev S : meaning.Schema
  S = schema_of t

  well : WellFormed S
  well = record { fits = sound.well-formed; acyclic = sound.acyclic }

  pub table-index : Index G p.first p.rank
  table-index = record {
    few = omega (arith, table.counted, table.few);
    edges = omega (arith, edges-count t.graph.edges t.graph.source t.graph.target, sound.limits.edges);
    firsts = λ i h. table.first.each i (omega (arith, table.counted));
    ranks = table.rank.each;
  }

  -- every path ends at a node
  pub ends-small : Small p.end p.count
  ends-small = record {
    few = table.few;
    long = omega (arith, table.columns.end.long, table.few);
    each = λ i h. omega (arith, table.columns.end.each i h, end_low t.graph (fit sound.limits sound.well-formed) sound.acyclic i (omega (arith, table.counted)), sound.limits.nodes);
  }

  -- ---- an equation
  abbrev left : ℕ → Path
  left q = get_or t.left q no_path

  abbrev right : ℕ → Path
  right q = get_or t.right q no_path

  record Joined (q : ℕ) : Type 0 where
    left_joins : joins G (left q).start (path_of (left q)).edges ≡ true
    right_joins : joins G (left q).start (path_of (right q)).edges ≡ true
    ends : endpoint (target G) (left q).start (path_of (left q)).edges ≡ endpoint (target G) (left q).start (path_of (right q)).edges

  joined : (q : ℕ) → q < t.equations → Joined q
  joined q h =
      let u = sides-at t sound q h in
      record {
        left_joins = u.left_joins;
        right_joins = subst (λ (n : ℕ). joins G n (path_of (right q)).edges ≡ true) (sym u.one_start) u.right_joins;
        ends = u.one_end ∙ ap (λ (n : ℕ). endpoint (target G) n (path_of (right q)).edges) (sym u.one_start);
      }

  -- ---- behind path u, which ends at the equation's start
  module _ (q : ℕ) (h : q < t.equations) (u : ℕ) (within : u < p.count) (at : get_or p.end u 0 ≡ (left q).start) where
    abbrev a : ℕ
    a = walk_from p.first p.rank u (path_of (left q)).edges

    abbrev b : ℕ
    b = walk_from p.first p.rank u (path_of (right q)).edges

    at-end : end_of G u ≡ (left q).start
    at-end = sym (table.columns.end.each u within) ∙ at

    u-in : u < path_count G
    u-in = omega (arith, table.counted)

    to-left : Reached G sound.acyclic table-index u (path_of (left q)).edges a
    to-left = walk-reaches G sound.acyclic table-index u (path_of (left q)).edges u-in (rw at-end (joined q h).left_joins)

    to-right : Reached G sound.acyclic table-index u (path_of (right q)).edges b
    to-right = walk-reaches G sound.acyclic table-index u (path_of (right q)).edges u-in (rw at-end (joined q h).right_joins)

    reached-end : (es : List ℕ) (x : ℕ) → path_at G x ≡ behind G u es → end_of G x ≡ endpoint (target G) (left q).start es
    reached-end es x e = ap (end G) e ∙ endpoint-append (target G) (start_of G u) (path_at G u).edges es ∙ ap (λ (n : ℕ). endpoint (target G) n es) at-end

    one_end : end_of G a ≡ end_of G b
    one_end = reached-end (path_of (left q)).edges a to-left.is ∙ (joined q h).ends ∙ sym (reached-end (path_of (right q)).edges b to-right.is)

    -- what stands behind a side stands behind u
    behind-side : (side es : List ℕ) (x : ℕ) → path_at G x ≡ behind G u side → behind G x es ≡ behind G u (side ++ es)
    behind-side side es x e = ap (λ (w : meaning.Path). meaning.path w.start (w.edges ++ es)) e ∙ ap (meaning.path (start_of G u)) (append_assoc (path_at G u).edges side es)

    linked : (z : ℕ × ℕ) → Memᴰ z (follower_pairs p.first a b 1 G.nodes) → Linked S z
    linked z m =
        let w = pairs_of G sound.acyclic table-index a b one_end to-left.below to-right.below G.nodes z m in
        let es = w.0 in
        let l : path_at G z.0 ≡ behind G u ((path_of (left q)).edges ++ es) = w.1.left ∙ behind-side (path_of (left q)).edges es a to-left.is in
        let r : path_at G z.1 ≡ behind G u ((path_of (right q)).edges ++ es) = w.1.right ∙ behind-side (path_of (right q)).edges es b to-right.is in
        record {
          below = record { left = w.1.left_in; right = w.1.right_in };
          equal = rw (l, r) (record {
            starts = refl;
            chain = more (record {
              before = (path_at G u).edges;
              after = es;
              a = (path_of (left q)).edges;
              b = (path_of (right q)).edges;
              equation = inl (rw at-end (views.listed listed_here));
              old = refl;
              new = refl;
            }) same;
          });
        }
      where
        listed_here : Memᴰ (equation_of (left q) (right q)) S.equations
        listed_here =
            let f : ℕ → meaning.Equation = λ i. equation_of (left i) (right i) in
            subst (λ (x : meaning.Equation). Memᴰ x S.equations) (tabulate-get_or t.equations f (f 0) q h) (mem-get_or (f 0) S.equations q (rw (tabulate-length t.equations f) h))

  -- ---- all pairs
  pub joinable : (q : ℕ) → q < t.equations → Joinable p t.graph.nodes (left q) (right q)
  joinable q h = record {
    few = table.few;
    start = omega (arith, (sides-at t sound q h).start_in, sound.limits.nodes);
    left_short = sound.limits.left.each q h;
    right_short = sound.limits.right.each q h;
    left = λ u w e. (to-left q h u w e).within;
    right = λ u w e. (to-right q h u w e).within;
    runs = λ u w e. pairs-within G sound.acyclic table-index (a q h u w e) (b q h u w e) (one_end q h u w e) (to-left q h u w e).below (to-right q h u w e).below G.nodes;
  }

  pairs-linked : (z : ℕ × ℕ) → Memᴰ z (schema_pairs t p) → Linked S z
  pairs-linked z m =
      let x = concat_map-of (λ q. equation_pairs p t.graph.nodes (left q) (right q)) (upto t.equations) m in
      let y = concat_map-of (pairs_at p t.graph.nodes (left x.0) (right x.0)) (upto p.count) x.2 in
      go x.0 (of-upto t.equations x.1) y.0 (of-upto p.count y.1) (eqb (get_or p.end y.0 0) (left x.0).start) refl y.2
    where
      go : (q : ℕ) → q < t.equations → (u : ℕ) → u < p.count → (c : Bool) → eqb (get_or p.end u 0) (left q).start ≡ c
          → Memᴰ z (cond c (follower_pairs p.first (walk_from p.first p.rank u (path_of (left q)).edges) (walk_from p.first p.rank u (path_of (right q)).edges) 1 t.graph.nodes) []) → Linked S z
      go q h u w true e k = linked q h u w (eqb-true (get_or p.end u 0) (left q).start e) z k
      go q h u w false e k = absurd (mathlib.Core.List.Memᴰ.not-nil k)

  -- the step of equation q inside a path
  step-here : (q : ℕ) → q < t.equations → (n : ℕ) (before after : List ℕ) → endpoint (target G) n before ≡ (left q).start
      → IsPath (views.schema_of S) n (before ++ ((path_of (left q)).edges ++ after)) → (z : ℕ × ℕ) × Memᴰ z (schema_pairs t p) × IsStep S n before after (equation_of (left q) (right q)) z
  step-here q h n before after e k =
      let s_is = schema_is S well.fits in
      let l = (path_of (left q)).edges in
      let r = (path_of (right q)).edges in
      let first = (all_paths-each S well (meaning.path n before)).1 (path-first s_is n before (l ++ after) k) in
      let u = number_of G (meaning.path n before) in
      let i : u < p.count = omega (arith, number_in G first, table.counted) in
      let is : path_at G u ≡ meaning.path n before = number-path G first in
      let at : get_or p.end u 0 ≡ (left q).start = table.columns.end.each u i ∙ ap (end G) is ∙ e in
      let x = a q h u i at in
      let y = b q h u i at in
      let tail = path-last (views.schema_of S) (endpoint (target G) n before) l after (path-last (views.schema_of S) n before (l ++ after) k) in
      let stop : end_of G x ≡ endpoint (target G) (endpoint (target G) n before) l = reached-end q h u i at l x (to-left q h u i at).is ∙ ap (λ (v : ℕ). endpoint (target G) v l) (sym e) in
      let short : length after < G.nodes = omega (arith, path-short S well n (before ++ (l ++ after)) k, length-append before (l ++ after), length-append l after) in
      let listed = (edge_lists-each S s_is (length after) (endpoint (target G) (endpoint (target G) n before) l) (path-start s_is _ after tail) after).1 (tail, refl) in
      let w = pairs-in G sound.acyclic table-index x y (one_end q h u i at) (to-left q h u i at).below (to-right q h u i at).below G.nodes after short (rw stop listed) in
      let z = w.0 in
      let path-l : path_at G z.0 ≡ meaning.path n (before ++ (l ++ after)) = w.2.left ∙ behind-side q h u i at l after x (to-left q h u i at).is ∙ ap (λ (v : meaning.Path). meaning.path v.start (v.edges ++ (l ++ after))) is in
      let path-r : path_at G z.1 ≡ meaning.path n (before ++ (r ++ after)) = w.2.right ∙ behind-side q h u i at r after y (to-right q h u i at).is ∙ ap (λ (v : meaning.Path). meaning.path v.start (v.edges ++ (r ++ after))) is in
      let here : Memᴰ z (pairs_at p t.graph.nodes (left q) (right q) u) = rw (eq-eqb (get_or p.end u 0) (left q).start at) w.1 in (
        z,
        concat_map-in (λ q. equation_pairs p t.graph.nodes (left q) (right q)) (upto t.equations) (in-upto t.equations q h) (concat_map-in (pairs_at p t.graph.nodes (left q) (right q)) (upto p.count) (in-upto p.count u i) here),
        (ap (number_of G) (sym path-l) ∙ number_at G z.0 w.2.left_in, ap (number_of G) (sym path-r) ∙ number_at G z.1 w.2.right_in),
      )

  pairs-complete : (n : ℕ) (before after : List ℕ) (q : meaning.Equation) → Memᴰ q S.equations → endpoint (target G) n before ≡ q.left.start
      → IsPath (views.schema_of S) n (before ++ (q.left.edges ++ after)) → (z : ℕ × ℕ) × Memᴰ z (schema_pairs t p) × IsStep S n before after q z
  pairs-complete n before after q m =
      let f : ℕ → meaning.Equation = λ i. equation_of (left i) (right i) in
      let i = mem-position (f 0) _ _ m in
      let h : i.0 < t.equations = omega (arith, i.1, tabulate-length t.equations f) in
      subst (λ (x : meaning.Equation). endpoint (target G) n before ≡ x.left.start → IsPath (views.schema_of S) n (before ++ (x.left.edges ++ after)) → (z : ℕ × ℕ) × Memᴰ z (schema_pairs t p) × IsStep S n before after x z)
      (sym (tabulate-get_or t.equations f (f 0) i.0 h) ∙ i.2) (step-here i.0 h n before after)

  -- the class numbers at the front of the array
  pub class-column : {l : List ℕ} → l ≡ join_numbers (schema_pairs t p) (upto 256) → Filled 256 (class_at S) p.count l
  class-column {l} e = record {
    each = λ i h. sym (get_or-take p.count l i 0 h) ∙ ap (λ (m : List ℕ). get_or m i 0) front ∙ numbers-classes S well (schema_pairs t p) pairs-linked pairs-complete i (rw (← table.counted) h);
    long = ap length e ∙ numbers-length (schema_pairs t p) (upto 256) ∙ upto-length 256;
  }
    where
      below : (z : ℕ × ℕ) → Memᴰ z (schema_pairs t p) → Below p.count z
      below z m = rw table.counted (pairs-linked z m).below

      front : take p.count l ≡ join_numbers (schema_pairs t p) (upto (path_count G))
      front =
          ap (take p.count) e ∙ numbers-take p.count (schema_pairs t p) (upto 256) below ∙ ap (join_numbers (schema_pairs t p)) (take-upto p.count 256 table.few ∙ ap upto table.counted)

  -- ---- a judged path's number, found in the table
  pub path-numbered : {w : Path} → SoundPath t.graph w → Numbered G sound.acyclic table-index (path_of w) (walk_from p.first p.rank w.start (path_of w).edges)
  path-numbered {w} h = walk-number G sound.acyclic table-index (path_of w) h.path

  -- and its class
  pub path-class : {w : Path} {x : ℕ} → Filled 256 (class_at S) p.count p.class → SoundPath t.graph w → x ≡ walk_from p.first p.rank w.start (path_of w).edges
      → get_or p.class x 0 ≡ class_number S (path_of w)
  path-class {w} {x} c h e = let n = path-numbered h in c.each x (omega (arith, n.below, table.counted)) ∙ ap (class_number S) (ap (path_at G) e ∙ n.is)
