-- Working arrays that do for the tables of a query.
use Prim.Native.Nat.{ℕ}
use mathlib.Core.Path.{◌≡◌, ◌∙◌}
use mathlib.Core.List.{List}
use native.Mathlib.Omega.{arith}
use lib.ListN.{length}
use Rattle.schema.specs.declared.Schema.{Schema}
use Rattle.instance.specs.Decoded.{RoomFor}
use Rattle.query.specs.declared.open.Query.{Query}
use Rattle.query.specs.Steps.{Rooms}

-- arrays of the same lengths
pub room-kept : {t : Schema} {l v l' v' : List ℕ} → RoomFor t l v → length l' ≡ length l → length v' ≡ length v → RoomFor t l' v'
room-kept R e d = record { for_links = omega (arith, e, R.for_links); for_values = omega (arith, d, R.for_values) }

pub rooms-kept : {q : Query} {a b l v r a' b' l' v' r' : List ℕ} → Rooms q a b l v r → length a' ≡ length a → length b' ≡ length b → length l' ≡ length l → length v' ≡ length v → length r' ≡ length r → Rooms q a' b' l' v' r'
rooms-kept R ea eb el ev er = record {
  run = room-kept R.run ea eb;
  joined = room-kept R.joined ea eb;
  pulled = room-kept R.pulled el ev;
  pushed = room-kept R.pushed el ev;
  families = er ∙ R.families;
}
