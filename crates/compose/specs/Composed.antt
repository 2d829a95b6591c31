-- Images of images, and joined images, as the loops make them.
use Rattle.std.specs.Prelude.{ℕ, ◌≤◌, ◌<◌, ◌≡◌, List, length, get_or}
use Rattle.schema.specs.declared.Schema.{Schema}
use Rattle.schema.specs.Judged as schemas
use Rattle.mapping.specs.declared.Image.{Image}
use Rattle.mapping.specs.declared.Mapping.{Mapping}
use Rattle.mapping.specs.Decoded.{image_of, no_image}
use Rattle.mapping.specs.Judged.{joined_images, Sound}

-- the first n numbers are below m
pub record Below (n : ℕ) (l : List ℕ) (m : ℕ) : Type 0 where
  pub each : (i : ℕ) → i < n → get_or l i 0 < m

-- a path whose edges have images, which joined have at most 15 edges
pub record Joinable (edge : List Image) (p : Image) : Type 0 where
  pub short : p.length ≤ 15
  pub edges : (i : ℕ) → i < p.length → get_or p.edges i 0 < 32
  pub few : length (joined_images edge (image_of p)) ≤ 15

pub record IsJoined (edge : List Image) (p r : Image) : Type 0 where
  pub says : image_of r ≡ joined_images edge (image_of p)
  pub short : r.length ≤ 15

-- n paths of that sort
pub record EdgesJoinable (edge paths : List Image) (n : ℕ) : Type 0 where
  pub few : n ≤ 32
  pub each : (i : ℕ) → i < n → Joinable edge (get_or paths i no_image)

pub record AreJoined (edge paths : List Image) (n : ℕ) (r : List Image) : Type 0 where
  pub each : (i : ℕ) → i < n → IsJoined edge (get_or paths i no_image) (get_or r i no_image)

-- three judged schemas with judged mappings between them
pub record AllSound (s t u : Schema) (f g : Mapping) : Type 0 where
  pub source : schemas.Sound s
  pub middle : schemas.Sound t
  pub target : schemas.Sound u
  pub first : Sound s t f
  pub second : Sound t u g
