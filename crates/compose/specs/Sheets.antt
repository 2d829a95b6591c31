-- A mapping's sheet as it is written: its bits, and images one after the other.
use Rattle.std.specs.Prelude.{ℕ, ◌+◌, ◌*◌, ◌≤◌, ◌≡◌, List, length, get_or}
use Rattle.bits.specs.Field.{bytes_for}
use Rattle.bits.specs.Put.{put_all}
use Rattle.theory.specs.Numbering.{tabulate}
use Rattle.meaning.specs.Lists.{sum_of, concat_map}
use Rattle.meaning.specs.Formats.{edges_fields}
use Rattle.schema.specs.declared.Schema.{Schema}
use Rattle.mapping.specs.declared.Image.{Image}
use Rattle.mapping.specs.declared.Mapping.{Mapping}
use Rattle.mapping.specs.Decoded.{no_image, images_of, Short}

-- of the first n images
abbrev pub images_bits : ℕ → List Image → ℕ
images_bits n edge = sum_of (tabulate n (λ i. 4 + 5 * (get_or edge i no_image).length))

-- the bits and the bytes of a mapping's sheet
abbrev pub mapping_bits : Schema → Mapping → ℕ
mapping_bits s f = 4 * s.graph.nodes + images_bits s.graph.edges f.edge + 4 * s.attributes

abbrev pub mapping_bytes : Schema → Mapping → ℕ
mapping_bytes s f = bytes_for (mapping_bits s f)

-- there is room for n images from a position on
pub record ImagesFit (tray : List ℕ) (at : ℕ) (edge : List Image) (n : ℕ) : Type 0 where
  pub short : Short n edge
  pub few : n ≤ 32
  pub counted : at ≤ 64
  pub within : at + images_bits n edge ≤ 8 * length tray

pub record ImagesWritten (tray : List ℕ) (at : ℕ) (edge : List Image) (n next : ℕ) (out : List ℕ) : Type 0 where
  pub next_is : next ≡ at + images_bits n edge
  pub says : out ≡ put_all tray at (concat_map edges_fields (images_of n edge))
