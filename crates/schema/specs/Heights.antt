-- What the heights of nodes rely on: the edges that leave a node, listed from the last to the first.
use Rattle.std.specs.Prelude.{ℕ, zero, suc, ◌-◌, ◌<◌, ◌≤◌, ◌≡◌, cond, length, get_or, eqb, Option}
use Rattle.std.proofs.Common.{Some, None}
use Rattle.meaning.specs.Schema.{Graph, source, target, height_over, height_within}
use Rattle.schema.specs.declared.heights.Leaving.{Leaving}

-- one more than the last edge below k that leaves node v, and 0 where none does
abbrev pub leaving_end : Graph → ℕ → ℕ → ℕ
leaving_end G v zero = 0
leaving_end G v (suc k) = cond (eqb (source G k) v) (suc k) (leaving_end G v k)

-- an edge by the one number that is larger, and none by 0
abbrev pub end_of : Option ℕ → ℕ
end_of None = 0
end_of (Some e) = suc e

-- the edges of a graph as they are listed: their targets, for each the last one before it that leaves its source, and for each node the last edge that leaves it
pub record Lists (G : Graph) (l : Leaving) : Type 0 where
  pub few : length G.edges ≤ 32
  pub to : (e : ℕ) → e < length G.edges → get_or l.target e 0 ≡ target G e
  pub low : (e : ℕ) → e < length G.edges → target G e < 16
  pub before : (e : ℕ) → e < length G.edges → end_of (get_or l.before e None) ≡ leaving_end G (source G e) e
  pub last : (v : ℕ) → v < 16 → end_of (get_or l.last v None) ≡ leaving_end G v (length G.edges)

-- edge e - 1 and the edges before it that leave its source
abbrev pub height_to : Graph → (ℕ → ℕ) → ℕ → ℕ
height_to G h e = height_over G h (source G (e - 1)) e

-- ---- of the lists of some graph a height is asked, and it is that in every graph of which they are the lists
pub record Node (l : Leaving) (depth node : ℕ) : Type 0 where
  pub graph : Graph
  pub lists : Lists graph l
  pub deep : depth ≤ 16
  pub low : node < 16

pub record Edges (l : Leaving) (depth : ℕ) (edge : Option ℕ) : Type 0 where
  pub graph : Graph
  pub lists : Lists graph l
  pub deep : depth < 16
  pub within : end_of edge ≤ length graph.edges

abbrev pub node_height : Leaving → ℕ → ℕ → ℕ → Type 0
node_height l depth node r = (G : Graph) → Lists G l → r ≡ height_within G depth node

abbrev pub edges_height : Leaving → ℕ → Option ℕ → ℕ → Type 0
edges_height l depth edge r = (G : Graph) → Lists G l → end_of edge ≤ length G.edges → r ≡ height_to G (height_within G depth) (end_of edge)
