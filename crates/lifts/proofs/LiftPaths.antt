-- Lifts by the tables of paths: those of a class at c are the numbers at which two arrays have c and the class, and the lift of an edge is the first.
use Prim.Native.Nat.{ℕ, ◌+◌, ◌<◌, ◌≤◌}
use mathlib.Core.Path.{◌≡◌, refl, sym, ap, ◌∙◌}
use mathlib.Core.Bool.{Bool, ◌&&◌}
use mathlib.Core.List.{List, [], ◌∷◌, ◌++◌, map, Memᴰ}
use native.Mathlib.Omega.{arith}
use lib.ListN.{get_or}
use lib.Dec.{eqb}
use Rattle.meaning.specs.Lists.{upto, filter, head_or}
use Rattle.meaning.specs.Schema as meaning
use Rattle.meaning.specs.Schema.{Path, path, source, end, all_paths}
use Rattle.meaning.specs.Category.{equal}
use Rattle.meaning.specs.Formats as formats
use Rattle.meaning.specs.Views.{node_image, path_image}
use Rattle.meaning.specs.Evenness.{lifts}
use Rattle.meaning.specs.Sigma.{lift}
use Rattle.meaning.proofs.Lists.{filter-of, filter-place, of-upto}
use Rattle.agreement.specs.Paths.{path_count, number_of, path_at, class_number}
use Rattle.agreement.proofs.Paths.{number_at}
use Rattle.agreement.proofs.Classes.{equal-classes}
use Rattle.schema.specs.declared.Schema.{Schema}
use Rattle.schema.specs.Decoded.{graph_of, schema_of, category_of}
use Rattle.schema.proofs.GraphEdges.{edges-count, source-at}
use Rattle.paths.specs.declared.Paths.{Paths}
use Rattle.paths.specs.Table.{Filled}
use Rattle.paths.specs.PathNumbers.{end_of, first_of, rank_of}
use Rattle.paths.proofs.PathNumbers.{trivial-at, trivial-count, next-at}
use Rattle.paths.proofs.TablePaths.{formed, paths-from, class-at}
use Rattle.mapping.specs.declared.Mapping.{Mapping}
use Rattle.mapping.specs.Decoded.{mapping_of}
use Rattle.mapping.specs.Judged.{Schemas, Imageable, Sound}
use Rattle.mapping.proofs.Viewing.{node_at}
use Rattle.mapping.proofs.ImageTable.{images}
use Rattle.mapping.proofs.Counting.{filter-filter, filter_same}
use Rattle.lifts.specs.Even.{image_class, is_over}
use Rattle.lifts.specs.Lifts.{IsLift}

module _ {A B : Type 0} where
  head_or-map : (g : A → B) (d : A) (l : List A) → head_or (g d) (map g l) ≡ g (head_or d l)
  head_or-map g d [] = refl
  head_or-map g d (x ∷ l) = refl

-- the first of the numbers below n that pass a test, or d
pub head_or-below : (n b d : ℕ) (f : ℕ → Bool) → n ≤ b → d < b → head_or d (filter f (upto n)) < b
head_or-below n b d f h z = go (filter f (upto n)) (λ x m. of-upto n (filter-of f (upto n) m).0)
  where
    go : (l : List ℕ) → ((x : ℕ) → Memᴰ x l → x < n) → head_or d l < b
    go [] k = z
    go (x ∷ l) k = omega (arith, k x (Memᴰ.head refl))

-- ---- lifts
module _ {s t : Schema} {source-paths target-paths : Paths} {f : Mapping} (h : Schemas s t source-paths target-paths) (k : Sound s t f) {over : List ℕ} (o : Filled 256 (image_class (schema_of s) (schema_of t) (mapping_of s f)) source-paths.count over) (c : ℕ) (l : c < s.graph.nodes) where
  abbrev S : meaning.Schema
  S = schema_of s

  abbrev T : meaning.Schema
  T = schema_of t

  abbrev F : formats.Mapping
  F = mapping_of s f

  abbrev G : meaning.Graph
  G = graph_of s.graph

  abbrev H : meaning.Graph
  H = graph_of t.graph

  -- the lifts of q at c, by their numbers
  lifts-are : (q : Path) → lifts (category_of s) (category_of t) F c q ≡ map (path_at G) (filter (is_over source-paths.start over c (class_number T q)) (upto source-paths.count))
  lifts-are q =
      ap (filter (λ p. equal (category_of t) (path_image F p) q)) (paths-from S (formed h.source) c l)
      ∙ filter-filter (λ p. eqb p.start c) (λ p. equal (category_of t) (path_image F p) q) (all_paths G)
      ∙ filter-place (all_paths G) (path 0 []) (λ p. eqb p.start c && equal (category_of t) (path_image F p) q)
      ∙ ap (λ (n : ℕ). map (path_at G) (filter (λ i. eqb (path_at G i).start c && equal (category_of t) (path_image F (path_at G i)) q) (upto n))) (sym h.source-paths.table.counted)
      ∙ ap (map (path_at G)) (filter_same (λ i. eqb (path_at G i).start c && equal (category_of t) (path_image F (path_at G i)) q) (is_over source-paths.start over c (class_number T q)) (upto source-paths.count)
      (λ i w. let b = of-upto source-paths.count w in ap (λ (x : Bool). eqb (path_at G i).start c && x) (equal-classes T (path_image F (path_at G i)) q) ∙ rw (h.source-paths.table.columns.start.each i b, o.each i b)))

  passed : Imageable s t source-paths target-paths f
  passed = record { schemas = h; short = k.short; fits = k.fits }

  -- an edge of T from F(c), as a path: its number, and its class
  module _ (e : ℕ) (b : e < t.graph.edges) (at : get_or t.graph.source e 0 ≡ get_or f.node c 0) where
    abbrev number : ℕ
    number = get_or target-paths.first (get_or f.node c 0) 0 + get_or target-paths.rank e 0

    pub record EdgePath : Type 0 where
      pub node_low : get_or f.node c 0 < 257
      pub edge_low : e < 32
      pub number_low : number < 256
      pub class : class_number T (path (node_image F c) (e ∷ [])) ≡ get_or target-paths.class number 0

    pub edge_path : EdgePath
    edge_path =
        let d : ℕ = get_or f.node c 0 in
        let n = node_at s f c l in
        let i : d < t.graph.nodes = rw n at ((images passed).node_in c l) in
        let j : d < path_count H = omega (arith, trivial-count H h.target.acyclic) in
        let q = h.target-paths.table in
        let u = q.counted in
        let few = q.few in
        let v = h.target.limits.edges in
        let z = edges-count t.graph.edges t.graph.source t.graph.target in
        let x = trivial-at H h.target.acyclic d i in
        let a : source H e ≡ end_of H d = source-at t.graph.edges t.graph.source t.graph.target e b ∙ at ∙ sym (ap (end H) x) in
        let w = next-at H h.target.acyclic d e j (omega arith) a in
        let y : number ≡ first_of H d + rank_of H e = omega (arith, q.first.each d (omega arith), q.rank.each e (omega arith)) in
        let g : number < target-paths.count = omega (arith, w.0) in
        record {
          node_low = omega arith;
          edge_low = omega arith;
          number_low = omega arith;
          class = sym (class-at h.target h.target-paths number g ∙ ap (class_number T) (ap (path_at H) y ∙ w.1 ∙ ap (λ (p : Path). path p.start (p.edges ++ (e ∷ []))) x ∙ ap (λ (p : ℕ). path p (e ∷ [])) (sym n)));
        }

    -- the lift of e at c is what `first_over` finds
    pub lift-number : IsLift s t source-paths f c e (head_or c (filter (is_over source-paths.start over c (get_or target-paths.class number 0)) (upto source-paths.count)))
    lift-number =
        let r : ℕ = head_or c (filter (is_over source-paths.start over c (get_or target-paths.class number 0)) (upto source-paths.count)) in
        let u = h.source-paths.table.counted in
        let i : r < source-paths.count = head_or-below source-paths.count source-paths.count c (is_over source-paths.start over c (get_or target-paths.class number 0)) (omega arith) (omega (arith, trivial-count G h.source.acyclic)) in
        let p : path_at G r ≡ lift (category_of s) (category_of t) F c e = sym (
        ap (head_or (path c [])) (lifts-are (path (node_image F c) (e ∷ [])))
        ∙ ap (λ (x : ℕ). head_or (path c []) (map (path_at G) (filter (is_over source-paths.start over c x) (upto source-paths.count)))) edge_path.class
        ∙ ap (λ (x : Path). head_or x (map (path_at G) (filter (is_over source-paths.start over c (get_or target-paths.class number 0)) (upto source-paths.count)))) (sym (trivial-at G h.source.acyclic c l))
        ∙ head_or-map (path_at G) c (filter (is_over source-paths.start over c (get_or target-paths.class number 0)) (upto source-paths.count))) in
        record { below = i; path = p; number = sym (number_at G r (omega arith)) ∙ ap (number_of G) p }
