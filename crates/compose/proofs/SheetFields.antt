-- A mapping's sheet field by field: the images of edges one after the other, and the sheet of all three parts.
use Prim.Native.Nat.{ℕ, zero, suc, ◌+◌, ◌*◌, ◌≤◌, ◌<◌}
use mathlib.Core.Path.{◌≡◌, refl, sym, ap, ap₂, ◌∙◌}
use mathlib.Core.List.{List, [], ◌∷◌, ◌++◌, append-nil}
use native.Mathlib.Omega.{arith}
use native.Mathlib.Numerals.{add-one}
use lib.ListN.{length, drop, take, get_or, replicate}
use Rattle.std.specs.List.{sum_by}
use Rattle.std.proofs.lemmas.List.{get_or-take, length-take-le}
use Rattle.std.proofs.lemmas.List.Recursion.{is_sum_by}
use Rattle.bits.specs.Field.{bytes_for}
use Rattle.bits.specs.Pack.{total_width}
use Rattle.bits.specs.Put.{put_all}
use Rattle.bits.proofs.Writing.{put_all-append}
use Rattle.bits.proofs.Packing.{length-pack, total_width-append}
use Rattle.meaning.specs.Lists.{sum_of, concat_map}
use Rattle.meaning.specs.Formats.{fields_of, edges_fields, mapping_sheet}
use Rattle.meaning.proofs.Tabulate.{tabulate-more, tabulate-same}
use Rattle.meaning.proofs.PathLevels.{concat_map-append}
use Rattle.schema.specs.declared.Schema.{Schema}
use Rattle.schema.specs.Decoded.{front_of}
use Rattle.instance.proofs.Columns.{sum_of-more, sum_of-front, sum_of-few}
use Rattle.encoding.specs.Written.{Written}
use Rattle.encoding.proofs.Writing.{fields-width, packed, in_three, edges-width}
use Rattle.mapping.specs.declared.Image.{Image}
use Rattle.mapping.specs.declared.Mapping.{Mapping}
use Rattle.mapping.specs.Decoded.{image_of, no_image, images_of, mapping_of, Short}
use Rattle.compose.specs.Sheets.{images_bits, mapping_bits, mapping_bytes}

module _ (edge : List Image) where
  abbrev pub image_bits : ℕ → ℕ
  image_bits i = 4 + 5 * (get_or edge i no_image).length

  abbrev pub images_fields : ℕ → List (ℕ × ℕ)
  images_fields n = concat_map edges_fields (images_of n edge)

  pub bits-more : (n : ℕ) → images_bits (n + 1) edge ≡ images_bits n edge + image_bits n
  bits-more n = sum_of-more n image_bits

  pub bits-front : (n i : ℕ) → i < n → images_bits i edge + image_bits i ≤ images_bits n edge
  bits-front n i h = sum_of-front n image_bits i h

  -- 4 bits, and 15 edges of 5
  pub bits-few : (n : ℕ) → Short n edge → images_bits n edge ≤ 79 * n
  bits-few n u = sum_of-few 79 n image_bits (λ k h. let l = u.each k h in omega arith)

  fields-more : (n : ℕ) → images_fields (n + 1) ≡ images_fields n ++ edges_fields (image_of (get_or edge n no_image))
  fields-more n =
      ap images_fields (add-one n)
      ∙ ap (concat_map edges_fields) (tabulate-more n (λ e. image_of (get_or edge e no_image)))
      ∙ concat_map-append edges_fields (images_of n edge) (image_of (get_or edge n no_image) ∷ [])
      ∙ ap (λ (r : List (ℕ × ℕ)). images_fields n ++ r) (append-nil (edges_fields (image_of (get_or edge n no_image))))

  pub images-width : (n : ℕ) → total_width (images_fields n) ≡ images_bits n edge
  unfolding total_width
  images-width zero = refl
  images-width (suc n) =
      ap (λ (m : ℕ). total_width (images_fields m)) (sym (add-one n))
      ∙ ap total_width (fields-more n)
      ∙ total_width-append (images_fields n) (edges_fields (image_of (get_or edge n no_image)))
      ∙ ap₂ (λ (a b : ℕ). a + b) (images-width n) (edges-width (get_or edge n no_image).length (get_or edge n no_image).edges)
      ∙ sym (bits-more n) ∙ ap (λ (m : ℕ). images_bits m edge) (add-one n)

  -- one image more
  pub put-image : (s : List ℕ) (at n : ℕ) → put_all s at (images_fields (n + 1)) ≡ put_all (put_all s at (images_fields n)) (at + images_bits n edge) (edges_fields (image_of (get_or edge n no_image)))
  put-image s at n =
      ap (put_all s at) (fields-more n)
      ∙ put_all-append s at (images_fields n) (edges_fields (image_of (get_or edge n no_image)))
      ∙ ap (λ (w : ℕ). put_all (put_all s at (images_fields n)) (at + w) (edges_fields (image_of (get_or edge n no_image)))) (images-width n)

-- ---- images as a slice lends them
-- the sum of their bits
pub bits-sum : (l : List Image) → sum_by (λ i. 4 + 5 * i.length) l ≡ images_bits (length l) l
bits-sum l = sym (is_sum_by (λ l. images_bits (length l) l) (λ i. 4 + 5 * i.length) refl (λ x xs. refl) l)

-- the first n of an array
module _ (edge : List Image) (n : ℕ) (h : n ≤ length edge) where
  abbrev lent : List Image
  lent = take n edge

  pub lent-length : length lent ≡ n
  lent-length = length-take-le n edge h

  lent-at : (i : ℕ) → i < n → get_or lent i no_image ≡ get_or edge i no_image
  lent-at i l = get_or-take n edge i no_image l

  pub lent-bits : images_bits (length lent) lent ≡ images_bits n edge
  lent-bits = ap (λ (m : ℕ). images_bits m lent) lent-length ∙ ap sum_of (tabulate-same n (λ i l. ap (λ (x : Image). 4 + 5 * x.length) (lent-at i l)))

  pub lent-images : images_of (length lent) lent ≡ images_of n edge
  lent-images = ap (λ (m : ℕ). images_of m lent) lent-length ∙ tabulate-same n (λ i l. ap image_of (lent-at i l))

  pub lent-short : Short n edge → Short (length lent) lent
  lent-short u = record { each = λ i l. let k : i < n = omega (arith, l, lent-length) in rw (lent-at i k) (u.each i k) }

-- ---- nodes, edges and attributes
module _ (s : Schema) (f : Mapping) where
  abbrev node_fields : List (ℕ × ℕ)
  node_fields = fields_of 4 (front_of s.graph.nodes f.node)

  abbrev edge_fields : List (ℕ × ℕ)
  edge_fields = images_fields f.edge s.graph.edges

  abbrev attribute_fields : List (ℕ × ℕ)
  attribute_fields = fields_of 4 (front_of s.attributes f.attribute)

  nodes-width : total_width node_fields ≡ 4 * s.graph.nodes
  nodes-width = fields-width 4 s.graph.nodes (λ i. get_or f.node i 0)

  attributes-width : total_width attribute_fields ≡ 4 * s.attributes
  attributes-width = fields-width 4 s.attributes (λ i. get_or f.attribute i 0)

  sheet-width : total_width (node_fields ++ edge_fields ++ attribute_fields) ≡ mapping_bits s f
  sheet-width =
      total_width-append (node_fields ++ edge_fields) attribute_fields
      ∙ omega (arith, total_width-append node_fields edge_fields, nodes-width, images-width f.edge s.graph.edges, attributes-width)

  pub sheet-length : length (mapping_sheet (mapping_of s f)) ≡ mapping_bytes s f
  sheet-length = length-pack (node_fields ++ edge_fields ++ attribute_fields) ∙ ap bytes_for sheet-width

  pub sheet-written : (tray : List ℕ) {m p : ℕ} {a b c d : List ℕ} → m ≡ mapping_bytes s f → a ≡ replicate m 0 ++ drop m tray → b ≡ put_all a 0 node_fields
      → c ≡ put_all b (4 * s.graph.nodes) edge_fields → p ≡ 4 * s.graph.nodes + images_bits s.graph.edges f.edge → d ≡ put_all c p attribute_fields
      → Written (mapping_sheet (mapping_of s f)) tray m d
  sheet-written tray {m} {p} {a} {b} {c} {d} e ea eb ec ep ed =
      packed (node_fields ++ edge_fields ++ attribute_fields) tray d (e ∙ ap bytes_for (sym sheet-width))
      (ed ∙ rw (ep, ec, eb, ea, ← nodes-width, ← images-width f.edge s.graph.edges) (in_three (replicate m 0 ++ drop m tray) node_fields edge_fields attribute_fields))
