-- What judged mappings have, so that they can be composed; and that the images looked up and joined are the composite's.
use Prim.Native.Nat.{ℕ, ◌≤◌, ◌<◌}
use mathlib.Core.Path.{◌≡◌, sym, ap, ◌∙◌}
use mathlib.Core.List.{map}
use native.Mathlib.Omega.{arith}
use lib.ListN.{length, get_or}
use Rattle.theory.specs.Mapping.{image}
use Rattle.theory.proofs.Numbering.{tabulate-length, tabulate-get_or}
use Rattle.meaning.specs.Formats as formats
use Rattle.meaning.specs.Views.{node_image, edge_image, attribute_image}
use Rattle.meaning.specs.Composition as meaning
use Rattle.meaning.proofs.Tabulate.{tabulate-same, map-tabulate}
use Rattle.agreement.proofs.Composition.{parts_same, image-few}
use Rattle.schema.specs.declared.Schema.{Schema}
use Rattle.schema.specs.Decoded.{front_of, graph_of}
use Rattle.schema.proofs.GraphEdges.{edges-count}
use Rattle.paths.proofs.TablePaths.{formed}
use Rattle.mapping.specs.declared.Image.{Image}
use Rattle.mapping.specs.declared.Mapping.{Mapping}
use Rattle.mapping.specs.Decoded.{image_of, no_image, images_of, mapping_of, Short}
use Rattle.mapping.specs.Judged.{joined_images}
use Rattle.mapping.proofs.Viewing.{edge-at}
use Rattle.mapping.proofs.Sides.{joins-in, edge_low, images-joined}
use Rattle.delta.specs.Pulled.{Fitting}
use Rattle.delta.proofs.Images.{node_in, edge_joins, attribute-fits}
use Rattle.steps.proofs.Validity.{sound-valid}
use Rattle.compose.specs.Composed.{Below, Joinable, EdgesJoinable, AreJoined, AllSound}

module _ {s t u : Schema} {f g : Mapping} (x : AllSound s t u f g) where
  abbrev F : formats.Mapping
  F = mapping_of s f

  abbrev G : formats.Mapping
  G = mapping_of t g

  first_fits : Fitting s t f
  first_fits = record { source = x.source; target = x.middle; short = x.first.short; fits = x.first.fits }

  pub nodes-below : Below s.graph.nodes f.node t.graph.nodes
  nodes-below = record { each = node_in first_fits }

  pub attributes-below : Below s.attributes f.attribute t.attributes
  attributes-below = record { each = λ a h. (attribute-fits first_fits a h).attribute-in }

  module _ (e : ℕ) (h : e < s.graph.edges) where
    abbrev p : Image
    p = get_or f.edge e no_image

    abbrev start : ℕ
    start = get_or f.node (get_or s.graph.source e 0) 0

    images-are : joined_images g.edge (image_of p) ≡ image (edge_image G) (edge_image F e)
    images-are = images-joined t g start (image_of p) (edge_joins first_fits e h) ∙ ap (image (edge_image G)) (sym (edge-at s f e h))

    few : length (image (edge_image G) (edge_image F e)) ≤ 15
    few =
        image-few (sound-valid x.source x.middle x.first) (sound-valid x.middle x.target x.second) (formed x.target) x.target.limits.nodes e
        (rw (edges-count s.graph.edges s.graph.source s.graph.target) h)

    edge_in : (i : ℕ) → i < p.length → get_or p.edges i 0 < t.graph.edges
    edge_in i l =
        let k = joins-in (graph_of t.graph) start (image_of p) (edge_joins first_fits e h) i (rw (tabulate-length p.length (λ k. get_or p.edges k 0)) l) in
        edge_low t g (rw (tabulate-get_or p.length (λ k. get_or p.edges k 0) 0 i l) at k)

    edge-joinable : Joinable g.edge p
    edge-joinable = record { short = x.first.short.each e h; edges = λ i l. omega (arith, edge_in i l, x.middle.limits.edges); few = rw images-are few }

  pub edges-joinable : EdgesJoinable g.edge f.edge s.graph.edges
  edges-joinable = record { few = x.source.limits.edges; each = edge-joinable }

  -- the composite, by its three lists
  pub composed : (r : Mapping) → front_of s.graph.nodes r.node ≡ map (node_image G) F.nodes → AreJoined g.edge f.edge s.graph.edges r.edge
      → front_of s.attributes r.attribute ≡ map (attribute_image G) F.attributes → (mapping_of s r ≡ meaning.composite F G) × Short s.graph.edges r.edge
  composed r nodes edges attributes = (parts_same nodes images attributes, record { each = λ e h. (edges.each e h).short })
    where
      images : images_of s.graph.edges r.edge ≡ map (image (edge_image G)) F.edges
      images =
          tabulate-same s.graph.edges (λ e h. (edges.each e h).says ∙ images-are e h ∙ ap (image (edge_image G)) (edge-at s f e h))
          ∙ sym (map-tabulate (image (edge_image G)) s.graph.edges (λ e. image_of (get_or f.edge e no_image)))
