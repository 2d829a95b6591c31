-- Refusal 8 by class numbers: an equation's sides are paths of S, and the numbers of their images are found by walking the table of T's paths.
use Prim.Native.Nat.{ℕ, zero, suc, ◌<◌}
use mathlib.Core.Path.{◌≡◌, refl, ap, ◌∙◌}
use mathlib.Core.Bool.{Bool, true, ◌&&◌}
use mathlib.Core.List.{List, [], ◌∷◌}
use native.Mathlib.Omega.{arith}
use borrow.Author.Tests.{ltb-true}
use lib.ListN.{length, get_or}
use lib.Dec.{ltb, eqb}
use Rattle.theory.specs.Mapping.{image}
use Rattle.theory.specs.Numbering.{tabulate}
use Rattle.theory.proofs.Numbering.{tabulate-length, tabulate-get_or}
use Rattle.meaning.specs.Lists.{all}
use Rattle.meaning.specs.Schema as meaning
use Rattle.meaning.specs.Schema.{Equation, source, target, joins}
use Rattle.meaning.specs.Category.{equal}
use Rattle.meaning.specs.Judge.{keeps_equations}
use Rattle.meaning.specs.Views.{edge_image, path_image}
use Rattle.meaning.proofs.Tabulate.{and_both, all_same}
use Rattle.agreement.proofs.Paths.{path-iff}
use Rattle.agreement.specs.Paths.{class_number}
use Rattle.agreement.proofs.Classes.{equal-classes}
use Rattle.schema.specs.declared.Path.{Path}
use Rattle.schema.specs.declared.Schema.{Schema}
use Rattle.schema.specs.Decoded.{graph_of, path_of, equation_of, no_path, schema_of, category_of}
use Rattle.schema.specs.Judged.{Sound, SoundPath}
use Rattle.schema.proofs.GraphEdges.{edges-count}
use Rattle.schema.proofs.SoundSchema.{sides-at}
use Rattle.paths.specs.declared.Paths.{Paths}
use Rattle.paths.specs.Classes.{IsPaths}
use Rattle.paths.specs.PathWalks.{walk_from}
use Rattle.paths.proofs.EquationPairs.{table-index}
use Rattle.paths.proofs.PathWalks.{walk-number}
use Rattle.paths.proofs.TablePaths.{formed}
use Rattle.mapping.specs.declared.Image.{Image}
use Rattle.mapping.specs.declared.Mapping.{Mapping}
use Rattle.mapping.specs.Decoded.{mapping_of}
use Rattle.mapping.specs.Judged.{Numbers, Testable, joined_images, Walkable}
use Rattle.mapping.proofs.Viewing.{node_at, edge-at}
use Rattle.mapping.proofs.Imaging.{fits, image-path}

-- a table of T's paths has their numbers
pub numbers : {t : Schema} {p : Paths} → Sound t → IsPaths (schema_of t) p → Numbers (schema_of t) p.first p.rank p.class
numbers {t} {p} h k = record {
  index = table-index t p h k.table;
  classes = record { each = λ i l. k.class.each i (let e = k.table.counted in omega arith); long = k.class.long };
}

-- edges that join up exist
pub joins-in : (G : meaning.Graph) (n : ℕ) (es : List ℕ) → joins G n es ≡ true → (i : ℕ) → i < length es → get_or es i 0 < length G.edges
joins-in G n [] j i l = absurd (omega arith)
joins-in G n (e ∷ es) j zero l = ltb-true e (length G.edges) (and_both (ltb e (length G.edges)) (eqb (source G e) n) (and_both (ltb e (length G.edges) && eqb (source G e) n) (joins G (target G e) es) j).0).0
joins-in G n (e ∷ es) j (suc i) l = joins-in G (target G e) es (and_both (ltb e (length G.edges) && eqb (source G e) n) (joins G (target G e) es) j).1 i (omega arith)

module _ (s : Schema) (f : Mapping) where
  abbrev G : meaning.Graph
  G = graph_of s.graph

  pub edge_low : {e : ℕ} → e < length G.edges → e < s.graph.edges
  edge_low l = omega (arith, edges-count s.graph.edges s.graph.source s.graph.target)

  -- the images of edges that join up are joined
  pub images-joined : (n : ℕ) (es : List ℕ) → joins G n es ≡ true → joined_images f.edge es ≡ image (edge_image (mapping_of s f)) es
  images-joined n [] j = refl
  images-joined n (e ∷ es) j =
      let a = and_both (ltb e (length G.edges) && eqb (source G e) n) (joins G (target G e) es) j in
      let l = ltb-true e (length G.edges) (and_both (ltb e (length G.edges)) (eqb (source G e) n) a.0).0 in
      rw (edge-at s f e (edge_low l), images-joined (target G e) es a.1)

module _ {s t : Schema} {first rank class : List ℕ} {f : Mapping} (h : Testable s t first rank class f) where
  -- how the class of a side's image is found
  pub record Side (p : Path) : Type 0 where
    pub walkable : Walkable first rank f.node f.edge p
    pub low : walk_from first rank (get_or f.node p.start 0) (joined_images f.edge (path_of p).edges) < 256
    pub is : get_or class (walk_from first rank (get_or f.node p.start 0) (joined_images f.edge (path_of p).edges)) 0 ≡ class_number (schema_of t) (path_image (mapping_of s f) (path_of p))

  pub side : {p : Path} → SoundPath s.graph p → Side p
  side {p} w =
      let S = schema_of s in
      let T = schema_of t in
      let F = mapping_of s f in
      let q = path_image F (path_of p) in
      let a = and_both (ltb p.start s.graph.nodes) (joins (graph_of s.graph) p.start (path_of p).edges) w.path in
      let l : p.start < s.graph.nodes = ltb-true p.start s.graph.nodes a.0 in
      let n = walk-number T.graph h.target.acyclic h.numbers.index q ((path-iff T h.target.well-formed q.start q.edges).1 (image-path (formed h.source) (formed h.target) (fits s T f h.fits) p.start (path_of p).edges ((path-iff S h.source.well-formed p.start (path_of p).edges).0 w.path))) in
      let e : walk_from first rank (get_or f.node p.start 0) (joined_images f.edge (path_of p).edges) ≡ walk_from first rank q.start q.edges = rw (images-joined s f p.start (path_of p).edges a.1, node_at s f p.start l) in
      let edge_in : (i : ℕ) → i < p.length → get_or p.edges i 0 < s.graph.edges = λ i b. edge_low s f (rw (tabulate-get_or p.length (λ k. get_or p.edges k 0) 0 i b) at (joins-in (graph_of s.graph) p.start (path_of p).edges a.1 i (rw (tabulate-length p.length (λ k. get_or p.edges k 0)) b))) in
      record {
        walkable = record {
          short = w.short;
          start = let m = h.source.limits.nodes in omega arith;
          edges = λ i b. let m = h.source.limits.edges in omega (arith, edge_in i b);
          images = λ i b. h.short.each (get_or p.edges i 0) (edge_in i b);
          within = rw (images-joined s f p.start (path_of p).edges a.1, ← node_at s f p.start l) n.within;
        };
        low = rw e (omega (arith, n.below, h.numbers.index.few));
        is = rw e (h.numbers.classes.each (walk_from first rank q.start q.edges) n.below ∙ ap (class_number T) n.is);
      }

  abbrev equation : ℕ → Equation
  equation q = equation_of (get_or s.left q no_path) (get_or s.right q no_path)

  pub sides : (q : ℕ) → q < s.equations → Side (get_or s.left q no_path) × Side (get_or s.right q no_path)
  sides q l = let u = sides-at s h.source q l in (side (record { short = h.source.limits.left.each q l; path = u.left_path }), side (record { short = h.source.limits.right.each q l; path = u.right_path }))

-- ---- the test of an equation, by arrays
abbrev pub side_class : List ℕ → List ℕ → List ℕ → List ℕ → List Image → Path → ℕ
side_class first rank class node edge p = get_or class (walk_from first rank (get_or node p.start 0) (joined_images edge (path_of p).edges)) 0

abbrev pub side_test : List ℕ → List ℕ → List ℕ → List ℕ → List Image → List Path → List Path → ℕ → Bool
side_test first rank class node edge lefts rights q = eqb (side_class first rank class node edge (get_or lefts q no_path)) (side_class first rank class node edge (get_or rights q no_path))

pub keeps-by : {s t : Schema} {first rank class : List ℕ} {f : Mapping} → Testable s t first rank class f →
    keeps_equations (category_of s) (category_of t) (mapping_of s f) ≡ all (side_test first rank class f.node f.edge s.left s.right) (tabulate s.equations (λ q. q))
keeps-by {s} {t} {first} {rank} {class} {f} h = all_same (λ q. equal (category_of t) (path_image (mapping_of s f) q.left) (path_image (mapping_of s f) q.right)) (side_test first rank class f.node f.edge s.left s.right) s.equations (equation h) (λ q. q)
    (λ q l. let u = sides h q l in equal-classes (schema_of t) _ _ ∙ rw (u.0.is, u.1.is))
