-- The table of images, path by path.
use Prim.Native.Nat.{ℕ, ◌<◌, ◌≤◌}
use mathlib.Core.Path.{◌≡◌, sym, ◌∙◌, ap}
use mathlib.Core.List.{List}
use native.Mathlib.Omega.{arith}
use lib.ListN.{get_or}
use Rattle.meaning.specs.Views.{path_image}
use Rattle.agreement.specs.Paths.{path_at, class_number}
use Rattle.agreement.proofs.Mappings.{Fits}
use Rattle.schema.specs.declared.Schema.{Schema}
use Rattle.schema.specs.Decoded.{graph_of, schema_of}
use Rattle.schema.proofs.GraphEdges.{edges-count}
use Rattle.paths.specs.declared.Paths.{Paths}
use Rattle.paths.specs.PathNumbers.{parent_of, last_of}
use Rattle.paths.specs.PathWalks.{walk_from, WalkIn}
use Rattle.paths.proofs.EquationPairs.{table-index}
use Rattle.paths.proofs.TablePaths.{formed}
use Rattle.mapping.specs.declared.Image.{Image}
use Rattle.mapping.specs.declared.Mapping.{Mapping}
use Rattle.mapping.specs.Decoded.{image_of, no_image, mapping_of}
use Rattle.mapping.specs.Judged.{Imageable, image_number}
use Rattle.mapping.proofs.Viewing.{node_at, edge-at}
use Rattle.mapping.proofs.Imaging.{image-at, fits, image-trivial, image-next, image-below}

-- ---- numbers of images by arrays: that of a trivial path is its node's, and that of a longer one follows from that of its parent
pub record Numbered (nodes count : ℕ) (parents lasts first rank node : List ℕ) (edge : List Image) (number : ℕ → ℕ) : Type 0 where
  pub trivial : (k : ℕ) → k < nodes → get_or node k 0 ≡ number k
  pub below : (k : ℕ) → nodes ≤ k → k < count → get_or parents k 0 < k
  pub longer : (k : ℕ) → nodes ≤ k → k < count → walk_from first rank (number (get_or parents k 0)) (image_of (get_or edge (get_or lasts k 0) no_image)) ≡ number k

module _ {s t : Schema} {source-paths target-paths : Paths} {f : Mapping} (h : Imageable s t source-paths target-paths f) where
  abbrev number : ℕ → ℕ
  number = image_number (schema_of s) (schema_of t) (mapping_of s f)

  pub images : Fits (schema_of s) (schema_of t) (mapping_of s f)
  images = fits s (schema_of t) f h.fits

  pub number_low : (i : ℕ) → i < source-paths.count → number i < 256
  number_low i l =
      let e = h.schemas.source-paths.table.counted in
      let few = h.schemas.target-paths.table.few in
      let g = h.schemas.target-paths.table.counted in
      omega (arith, image-below (formed h.schemas.source) (formed h.schemas.target) images i (omega arith))

  trivial-image : (k : ℕ) → k < s.graph.nodes → get_or f.node k 0 ≡ number k
  trivial-image k l = sym (node_at s f k l) ∙ sym (image-trivial (formed h.schemas.source) (formed h.schemas.target) images k l)

  -- the image of path k, by that of its parent
  pub record Turn (k : ℕ) : Type 0 where
    pub parent_below : get_or source-paths.parent k 0 < k
    pub last_in : get_or source-paths.last k 0 < s.graph.edges
    pub short : (get_or f.edge (get_or source-paths.last k 0) no_image).length ≤ 15
    pub within : WalkIn target-paths.first target-paths.rank (number (get_or source-paths.parent k 0)) (image_of (get_or f.edge (get_or source-paths.last k 0) no_image))
    pub is : walk_from target-paths.first target-paths.rank (number (get_or source-paths.parent k 0)) (image_of (get_or f.edge (get_or source-paths.last k 0) no_image)) ≡ number k

  pub longer-image : (k : ℕ) → s.graph.nodes ≤ k → k < source-paths.count → Turn k
  longer-image k l b =
      let G = graph_of s.graph in
      let c = h.schemas.source-paths.table.columns in
      let x : get_or source-paths.parent k 0 ≡ parent_of G k = c.parent.each k b in
      let e : get_or source-paths.last k 0 ≡ last_of G k = c.last.each k b in
      let n = image-next (formed h.schemas.source) (formed h.schemas.target) images (table-index t target-paths h.schemas.target h.schemas.target-paths.table) k l (let z = h.schemas.source-paths.table.counted in omega arith) in
      let i : last_of G k < s.graph.edges = omega (arith, n.last_in, edges-count s.graph.edges s.graph.source s.graph.target) in
      let w = edge-at s f (last_of G k) i in
      record {
        parent_below = rw x n.parent_below;
        last_in = rw e i;
        short = rw e (h.short.each (last_of G k) i);
        within = rw (x, e, ← w) n.within;
        is = rw (x, e, ← w) n.is;
      }

  pub numbered : Numbered s.graph.nodes source-paths.count source-paths.parent source-paths.last target-paths.first target-paths.rank f.node f.edge number
  numbered = record { trivial = trivial-image; below = λ k l b. (longer-image k l b).parent_below; longer = λ k l b. (longer-image k l b).is }

  -- the class of a path's image stands in the table of T's paths
  pub record ImageClass (i : ℕ) : Type 0 where
    pub low : number i < target-paths.count
    pub is : get_or target-paths.class (number i) 0 ≡ class_number (schema_of t) (path_image (mapping_of s f) (path_at (graph_of s.graph) i))

  pub image-class : (i : ℕ) → i < source-paths.count → ImageClass i
  image-class i l =
      let e = h.schemas.source-paths.table.counted in
      let g = h.schemas.target-paths.table.counted in
      let low : number i < target-paths.count = omega (arith, image-below (formed h.schemas.source) (formed h.schemas.target) images i (omega arith)) in
      record { low = low; is = h.schemas.target-paths.class.each (number i) low ∙ ap (class_number (schema_of t)) (image-at (formed h.schemas.source) (formed h.schemas.target) images i (omega arith)) }
