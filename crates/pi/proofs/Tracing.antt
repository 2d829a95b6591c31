-- The places at an edge's source of its target's components, found by the numbers of their first paths.
use Prim.Native.Nat.{ℕ, ◌+◌, ◌*◌, ◌≤◌, ◌<◌}
use mathlib.Core.Path.{◌≡◌, refl, sym, ap, ◌∙◌, subst}
use mathlib.Core.Bool.{true}
use mathlib.Core.List.{List, [], ◌∷◌, ◌++◌}
use native.Mathlib.Omega.{arith}
use borrow.Author.Tests.{lt-ltb, eq-eqb}
use lib.ListN.{length, get_or}
use lib.Dec.{ltb}
use Rattle.theory.specs.Schema.{IsPath}
use Rattle.theory.proofs.Order.{mem-get_or}
use Rattle.meaning.specs.Schema as meaning
use Rattle.meaning.specs.Schema.{Path, path, source, target, joins}
use Rattle.meaning.specs.Views as views
use Rattle.meaning.specs.Pi.{component_at, no_component}
use Rattle.meaning.proofs.Tabulate.{and_both}
use Rattle.meaning.proofs.Lists.{and_intro}
use Rattle.agreement.specs.Paths.{path_count, number_of, path_at}
use Rattle.agreement.proofs.Paths.{number_in, number-path, path-iff, path-short, all_paths-each, paths_from-each}
use Rattle.schema.specs.declared.Schema.{Schema}
use Rattle.schema.specs.Decoded.{graph_of, schema_of, category_of}
use Rattle.schema.proofs.GraphEdges.{edges-count, source-at, target_at}
use Rattle.schema.proofs.SoundSchema.{source_in, target-in}
use Rattle.paths.specs.declared.Paths.{Paths}
use Rattle.paths.specs.PathNumbers.{end_of}
use Rattle.paths.specs.PathWalks.{walk_from}
use Rattle.paths.proofs.PathNumbers.{trivial-at, trivial-count}
use Rattle.paths.proofs.PathWalks.{Reached, walk-reaches}
use Rattle.paths.proofs.EquationPairs.{table-index}
use Rattle.paths.proofs.TablePaths.{formed}
use Rattle.mapping.specs.declared.Mapping.{Mapping}
use Rattle.mapping.specs.Decoded.{mapping_of}
use Rattle.mapping.specs.PathEdges.{path_edges}
use Rattle.mapping.proofs.PathEdges.{edges_are}
use Rattle.pi.specs.declared.components.Components.{Components}
use Rattle.pi.specs.Given.{Mapped}
use Rattle.pi.specs.Components.{components_of, component_of}
use Rattle.pi.specs.Families.{Gathered}
use Rattle.pi.specs.Links.{Extends, source_of, target_of, path_after, place_after, Traced}
use Rattle.pi.proofs.Places.{first_of, place_is}
use Rattle.pi.proofs.ComponentFacts.{few-at}

module _ {s t : Schema} {f : Mapping} {k : Components} (K : Gathered s t f k) (d : ℕ) (l : d < t.graph.nodes) where
  pub width_is : get_or k.count d 0 ≡ length (components_of s t f d)
  width_is = (K.all.each d l).count

  pub width_few : get_or k.count d 0 ≤ 64
  width_few = rw width_is (few-at K d l)

-- ---- the first path of a component, by its number
module _ {s t : Schema} {paths : Paths} {f : Mapping} {k : Components} (M : Mapped s t paths f) (K : Gathered s t f k) (d : ℕ) (l : d < t.graph.nodes) (j : ℕ) (h : j < length (components_of s t f d)) where
  abbrev G : meaning.Graph
  G = graph_of t.graph

  abbrev first : Path
  first = (component_of s t f d j).first

  record Numbered : Type 0 where
    below : get_or k.first (64 * d + j) 0 < paths.count
    edges : path_edges paths (get_or k.first (64 * d + j) 0) ≡ first.edges
    short : get_or paths.length (get_or k.first (64 * d + j) 0) 0 ≤ 15
    joined : joins G d first.edges ≡ true

  numbered : Numbered
  numbered =
      let i = get_or k.first (64 * d + j) 0 in
      let w = formed M.target in
      let m = (first_of (schema_of s) (schema_of t) (mapping_of s f) d (component_of s t f d j) (mem-get_or no_component (components_of s t f d) j h)).from in
      let p = (paths_from-each (schema_of t) w d l first).0 m in
      let q : IsPath (views.schema_of (schema_of t)) first.start first.edges = subst (λ (n : ℕ). IsPath (views.schema_of (schema_of t)) n first.edges) (sym p.0) p.1 in
      let a = (all_paths-each (schema_of t) w first).1 q in
      let e : i ≡ number_of G first = (K.all.each d l).first j h (omega (arith, few-at K d l)) in
      let c = M.is_paths.table.counted in
      let b : i < path_count G = rw e (number_in G a) in
      let z : path_at G i ≡ first = ap (path_at G) e ∙ number-path G a in
      let len : get_or paths.length i 0 ≡ length first.edges = M.is_paths.table.columns.length.each i (omega arith) ∙ ap (λ (x : Path). length x.edges) z in
      let short = path-short (schema_of t) w d first.edges p.1 in
      let test = (path-iff (schema_of t) w.fits d first.edges).1 p.1 in
      record {
        below = omega arith;
        edges = edges_are G M.target.acyclic M.is_paths.table i b ∙ ap (λ (x : Path). x.edges) z;
        short = omega (arith, M.target.limits.nodes);
        joined = (and_both (ltb d G.nodes) (joins G d first.edges) test).1;
      }

-- ---- along edge e
module _ {s t : Schema} {paths : Paths} {f : Mapping} {k : Components} (M : Mapped s t paths f) (K : Gathered s t f k) (e : ℕ) (l : e < t.graph.edges) where
  abbrev H : meaning.Graph
  H = graph_of t.graph

  abbrev here : ℕ
  here = source_of t.graph e

  abbrev there : ℕ
  there = target_of t.graph e

  pub here_in : here < t.graph.nodes
  here_in = source_in t M.target e l

  pub there-in : there < t.graph.nodes
  there-in = target-in t M.target e l

  -- edge e followed by edges from its target on
  reached : (es : List ℕ) → joins H there es ≡ true → Reached H M.target.acyclic (table-index t paths M.target M.is_paths.table) here (e ∷ es) (walk_from paths.first paths.rank here (e ∷ es))
  reached es j =
      let i : here < path_count H = omega (arith, trivial-count H M.target.acyclic, here_in) in
      let a : end_of H here ≡ here = ap (λ (p : Path). meaning.end H p) (trivial-at H M.target.acyclic here here_in) in
      let b : source H e ≡ end_of H here = source-at t.graph.edges t.graph.source t.graph.target e l ∙ sym a in
      let c : joins H (target H e) es ≡ true = rw (target_at t.graph.edges t.graph.source t.graph.target e l) j in
      let n : e < length H.edges = rw (edges-count t.graph.edges t.graph.source t.graph.target) l in
      walk-reaches H M.target.acyclic (table-index t paths M.target M.is_paths.table) here (e ∷ es) i
      (and_intro (and_intro (lt-ltb e (length H.edges) n) (eq-eqb (source H e) (end_of H here) b)) c)

  module _ (j : ℕ) (h : j < length (components_of s t f there)) where
    abbrev es : List ℕ
    es = (component_of s t f there j).first.edges

    after : path_after t.graph paths k e j ≡ walk_from paths.first paths.rank here (e ∷ es)
    after = ap (λ (x : List ℕ). walk_from paths.first paths.rank here (e ∷ x)) (numbered M K there there-in j h).edges

    extended : Extends paths here e (get_or k.first (64 * there + j) 0)
    extended =
        let n = numbered M K there there-in j h in
        let r = (reached [] refl).below in
        record {
          path_low = omega (arith, n.below, M.is_paths.table.few);
          short = n.short;
          next_low = omega (arith, r, M.is_paths.table.counted, M.is_paths.table.few);
          within = rw n.edges (reached es n.joined).within;
        }

    number-below : path_after t.graph paths k e j < paths.count
    number-below = let c = M.is_paths.table.counted in omega (arith, after, (reached es (numbered M K there there-in j h).joined).below)

    -- the place is that of edge e followed by the component's first path
    pub place_after_lem : place_after t.graph paths k e j ≡ component_at (category_of t) (components_of s t f here) (component_of s t f there j).node (path here (e ∷ es))
    place_after_lem =
        let r = reached es (numbered M K there there-in j h).joined in
        let z : path_at H (path_after t.graph paths k e j) ≡ path here (e ∷ es) = ap (path_at H) after ∙ r.is ∙ ap (λ (p : Path). path p.start (p.edges ++ (e ∷ es))) (trivial-at H M.target.acyclic here here_in) in
        place_is (K.all.each here here_in) (few-at K here here_in) M.target M.is_paths (get_or k.node (64 * there + j) 0) (path_after t.graph paths k e j) number-below
        ∙ ap (component_at (category_of t) (components_of s t f here) (get_or k.node (64 * there + j) 0)) z
        ∙ ap (λ (c : ℕ). component_at (category_of t) (components_of s t f here) c (path here (e ∷ es))) ((K.all.each there there-in).node j h (omega (arith, few-at K there there-in)))

  pub traced : Traced t.graph paths k e
  traced = record {
    edge_low = omega (arith, M.target.limits.edges);
    source_low = omega (arith, here_in, M.target.limits.nodes);
    target_low = omega (arith, there-in, M.target.limits.nodes);
    source_few = width_few K here here_in;
    target_few = width_few K there there-in;
    extends = λ j h. extended j (rw (width_is K there there-in) at h);
    number_low = λ j h. omega (arith, number-below j (rw (width_is K there there-in) at h), M.is_paths.table.few);
  }
