-- Images of paths: they are paths of T, and their numbers are found along the table of T's paths.
use Prim.Native.Nat.{ℕ, ◌<◌, ◌≤◌}
use mathlib.Core.Path.{◌≡◌, sym, ap, ◌∙◌}
use mathlib.Core.Bool.{true}
use mathlib.Core.List.{List, [], ◌∷◌, ◌++◌, append-nil, Memᴰ}
use native.Mathlib.Omega.{arith}
use lib.ListN.{length, get_or}
use Rattle.theory.specs.Schema.{IsPath, endpoint}
use Rattle.theory.specs.Mapping.{image}
use Rattle.theory.proofs.Numbering.{tabulate-length}
use Rattle.theory.proofs.Mapping.{image-append, carried-end, carried-path}
use Rattle.meaning.specs.Schema.{Path, path, Schema, source, target, end, all_paths}
use Rattle.meaning.specs.Formats.{Mapping}
use Rattle.meaning.specs.Judge.{images_fit}
use Rattle.meaning.specs.Views.{schema_of, node_image, edge_image, path_image}
use Rattle.agreement.proofs.Mappings as agreement
use Rattle.agreement.proofs.Mappings.{Fits, carries}
use Rattle.agreement.specs.Paths.{WellFormed, path_count, number_of, path_at}
use Rattle.agreement.proofs.Paths.{all_paths-each, number_in, number-path, number_at, path_at-in}
use Rattle.schema.specs.declared.Schema as declared
use Rattle.schema.specs.Decoded as schemas
use Rattle.paths.specs.PathNumbers.{parent_of, last_of, end_of}
use Rattle.paths.specs.Table.{Index}
use Rattle.paths.specs.PathWalks.{walk_from, WalkIn}
use Rattle.paths.proofs.PathNumbers.{trivial-at, trivial-count}
use Rattle.paths.proofs.PathParents.{parents}
use Rattle.paths.proofs.PathWalks.{walk-reaches}
use Rattle.mapping.specs.declared.Mapping as declared_mapping
use Rattle.mapping.specs.Decoded.{mapping_of}
use Rattle.mapping.specs.Judged.{image_number}

module _ (s : declared.Schema) (T : Schema) (f : declared_mapping.Mapping) where
  abbrev S : Schema
  S = schemas.schema_of s

  abbrev F : Mapping
  F = mapping_of s f

  -- what refusal 7 leaves
  pub fits : images_fit S T F ≡ true → Fits S T F
  fits = agreement.fits S T F (tabulate-length s.graph.nodes (λ i. get_or f.node i 0))

module _ {S T : Schema} {F : Mapping} (formed : WellFormed S) (target-formed : WellFormed T) (f : Fits S T F) where
  -- a path's image is a path, and ends at the image of its end
  pub image-path : (n : ℕ) (p : List ℕ) → IsPath (schema_of S) n p → IsPath (schema_of T) (node_image F n) (image (edge_image F) p)
  image-path = carried-path (carries formed.fits target-formed.fits f)

  image-end : (n : ℕ) (p : List ℕ) → IsPath (schema_of S) n p → endpoint (target T.graph) (node_image F n) (image (edge_image F) p) ≡ node_image F (endpoint (target S.graph) n p)
  image-end = carried-end (carries formed.fits target-formed.fits f)

  path-is : (i : ℕ) → i < path_count S.graph → IsPath (schema_of S) (path_at S.graph i).start (path_at S.graph i).edges
  path-is i h = (all_paths-each S formed (path_at S.graph i)).0 (path_at-in S.graph i h)

  pub image-in : (i : ℕ) → i < path_count S.graph → Memᴰ (path_image F (path_at S.graph i)) (all_paths T.graph)
  image-in i h = let p = path_at S.graph i in (all_paths-each T target-formed (path_image F p)).1 (image-path p.start p.edges (path-is i h))

  -- ---- numbers of images
  pub image-below : (i : ℕ) → i < path_count S.graph → image_number S T F i < path_count T.graph
  image-below i h = number_in T.graph (image-in i h)

  pub image-at : (i : ℕ) → i < path_count S.graph → path_at T.graph (image_number S T F i) ≡ path_image F (path_at S.graph i)
  image-at i h = number-path T.graph (image-in i h)

  -- the trivial path at c goes to the trivial path at F(c)
  pub image-trivial : (c : ℕ) → c < S.graph.nodes → image_number S T F c ≡ node_image F c
  image-trivial c h =
      let d = node_image F c in
      let k : d < path_count T.graph = omega (arith, f.node_in c h, trivial-count T.graph target-formed.acyclic) in
      ap (λ (p : Path). number_of T.graph (path_image F p)) (trivial-at S.graph formed.acyclic c h)
      ∙ ap (number_of T.graph) (sym (trivial-at T.graph target-formed.acyclic d (f.node_in c h)))
      ∙ number_at T.graph d k

  -- a longer path goes to its parent's image, followed by its last edge's
  pub record Next (first rank : List ℕ) (i : ℕ) : Type 0 where
    pub parent_below : parent_of S.graph i < i
    pub last_in : last_of S.graph i < length S.graph.edges
    pub within : WalkIn first rank (image_number S T F (parent_of S.graph i)) (edge_image F (last_of S.graph i))
    pub is : walk_from first rank (image_number S T F (parent_of S.graph i)) (edge_image F (last_of S.graph i)) ≡ image_number S T F i

  pub image-next : {first rank : List ℕ} → Index T.graph first rank → (i : ℕ) → S.graph.nodes ≤ i → i < path_count S.graph → Next first rank i
  image-next {first} {rank} index i l h =
      let G = S.graph in
      let H = T.graph in
      let v = parents G formed.acyclic i l h in
      let x : ℕ = parent_of G i in
      let e : ℕ = last_of G i in
      let k : x < path_count G = omega (arith, v.below) in
      let y : ℕ = image_number S T F x in
      let a : end_of H y ≡ node_image F (source G e) = ap (end H) (image-at x k) ∙ image-end (path_at G x).start (path_at G x).edges (path-is x k) ∙ ap (node_image F) (sym v.joins) in
      let w = walk-reaches H target-formed.acyclic index y (edge_image F e) (image-below x k) (rw a (f.edge_joins e v.edge)) in
      let b : path_at H (walk_from first rank y (edge_image F e)) ≡ path_image F (path_at G i) =
      w.is
      ∙ ap (λ (p : Path). path p.start (p.edges ++ edge_image F e)) (image-at x k)
      ∙ ap (path (node_image F (path_at G x).start)) (ap (λ (t : List ℕ). image (edge_image F) (path_at G x).edges ++ t) (sym (append-nil (edge_image F e))) ∙ sym (image-append (edge_image F) (path_at G x).edges (e ∷ [])))
      ∙ ap (path_image F) (sym v.is) in
      record {
        parent_below = v.below;
        last_in = v.edge;
        within = w.within;
        is = sym (number_at H (walk_from first rank y (edge_image F e)) w.below) ∙ ap (number_of H) b;
      }
