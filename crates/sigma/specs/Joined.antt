-- Joined lists as loops store them: for each node over d, ascending, its rows.
use Rattle.std.specs.Prelude.{ℕ, ◌+◌, ◌*◌, ◌<◌, ◌≡◌, List, length, get_or}
use Rattle.meaning.specs.Lists.{upto, filter, head_or}
use Rattle.schema.specs.declared.Schema.{Schema}
use Rattle.mapping.specs.declared.Mapping.{Mapping}
use Rattle.lifts.specs.Even.{is_over}
use Rattle.lifts.specs.Lifts.{joined_before}

-- P holds of each of n nodes over d
abbrev pub EachOver : List ℕ → ℕ → ℕ → (ℕ → Type 0) → Type 0
EachOver node d n P = (c : ℕ) → c < n → get_or node c 0 ≡ d → P c

-- the rows of the nodes below n over d stand in r from base on; g c has those of c
pub record JoinedStored (node counts : List ℕ) (d n : ℕ) (g : ℕ → ℕ → ℕ) (base : ℕ) (l r : List ℕ) : Type 0 where
  pub each : (c : ℕ) → c < n → get_or node c 0 ≡ d → (x : ℕ) → x < get_or counts c 0 → get_or r (base + joined_before node counts d c + x) 0 ≡ g c x
  pub below : (k : ℕ) → k < base → get_or r k 0 ≡ get_or l k 0
  pub long : length r ≡ length l

-- k such lists, 512 apart: list j is joined over home j
pub record JoinedColumns (node counts home : List ℕ) (n k : ℕ) (g : ℕ → ℕ → ℕ → ℕ) (l r : List ℕ) : Type 0 where
  pub each : (j : ℕ) → j < k → (c : ℕ) → c < n → get_or node c 0 ≡ get_or home j 0 → (x : ℕ) → x < get_or counts c 0
      → get_or r (512 * j + joined_before node counts (get_or home j 0) c + x) 0 ≡ g j c x
  pub long : length r ≡ length l

-- the attribute at c over b, and row x of its column
abbrev pub attribute_in : Schema → Mapping → ℕ → ℕ → ℕ
attribute_in s f b c = head_or 0 (filter (is_over s.node f.attribute c b) (upto s.attributes))

-- there is one at each node over d
pub record AttributesOver (s : Schema) (f : Mapping) (b d : ℕ) : Type 0 where
  pub each : (c : ℕ) → c < s.graph.nodes → get_or f.node c 0 ≡ d → attribute_in s f b c < s.attributes

abbrev pub value_over : Schema → Mapping → List ℕ → ℕ → ℕ → ℕ → ℕ
value_over s f values b c x = get_or values (512 * attribute_in s f b c + x) 0
