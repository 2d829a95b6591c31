-- What a decoded mapping means, and what its decoders promise. S is the schema whose nodes, edges and attributes have images.
use Rattle.std.specs.Prelude.{ℕ, ◌+◌, ◌*◌, ◌≤◌, ◌<◌, ◌≡◌, Option, MatchOption, List, [], length, get_or, replicate}
use Rattle.theory.specs.Numbering.{tabulate}
use Rattle.meaning.specs.Sheet.{fails, reads, times}
use Rattle.meaning.specs.Formats as meaning
use Rattle.meaning.specs.Formats.{read_edges}
use Rattle.schema.specs.declared.Schema.{Schema}
use Rattle.schema.specs.Decoded.{front_of}
use Rattle.mapping.specs.declared.Image.{Image}
use Rattle.mapping.specs.declared.Mapping.{Mapping}
use Rattle.mapping.specs.declared.decode.ImageRead.{ImageRead}
use Rattle.mapping.specs.declared.decode.ImagesRead.{ImagesRead}

-- ---- what a struct means

abbrev pub image_of : Image → List ℕ
image_of i = front_of i.length i.edges

-- what stands past the end of an array of images
abbrev pub no_image : Image
no_image = record { length = 0; edges = [] }

abbrev pub images_of : ℕ → List Image → List (List ℕ)
images_of n l = tabulate n (λ e. image_of (get_or l e no_image))

abbrev pub mapping_of : Schema → Mapping → meaning.Mapping
mapping_of s f = record { nodes = front_of s.graph.nodes f.node; edges = images_of s.graph.edges f.edge; attributes = front_of s.attributes f.attribute }

abbrev pub empty_image : Image
empty_image = record { length = 0; edges = replicate 16 0 }

-- ---- what the decoders promise

-- an edge's image that was read
pub record ImageTaken (sheet : List ℕ) (at : ℕ) (r : ImageRead) : Type 0 where
  pub says : read_edges sheet at ≡ reads (image_of r.image) r.next
  pub inside : r.next ≤ 8 * length sheet
  pub near : r.next ≤ at + 79
  pub short : r.image.length ≤ 15

-- that image, if the bits do not end before it does
abbrev pub ImageFound : List ℕ → ℕ → Option ImageRead → Type 0
ImageFound sheet at r = MatchOption r (read_edges sheet at ≡ fails 1) (ImageTaken sheet at)

-- the images of an array have at most 15 edges
pub record Short (n : ℕ) (l : List Image) : Type 0 where
  pub each : (i : ℕ) → i < n → (get_or l i no_image).length ≤ 15

-- the images of n edges that were read
pub record ImagesTaken (sheet : List ℕ) (at n : ℕ) (r : ImagesRead) : Type 0 where
  pub says : times n read_edges sheet at ≡ reads (images_of n r.edge) r.next
  pub inside : r.next ≤ 8 * length sheet
  pub near : r.next ≤ at + 79 * n
  pub short : Short n r.edge

-- those images, if the bits do not end before they do
abbrev pub ImagesFound : List ℕ → ℕ → ℕ → Option ImagesRead → Type 0
ImagesFound sheet at n r = MatchOption r (times n read_edges sheet at ≡ fails 1) (ImagesTaken sheet at n)
