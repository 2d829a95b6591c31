-- Paths by their numbers: where their rows lead in the joined lists.
use Rattle.std.specs.Prelude.{ℕ, ◌+◌, ◌*◌, ◌≤◌, ◌<◌, ◌≡◌, List, get_or}
use Rattle.theory.specs.Instance.{follow}
use Rattle.paths.specs.declared.Paths.{Paths}
use Rattle.instance.specs.Followed.{link_in}
use Rattle.instance.specs.Stored.{Leads}
use Rattle.mapping.specs.PathEdges.{path_edges}
use Rattle.lifts.specs.Lifts.{joined_before}

-- the place of the first row of path i's end in its joined list
abbrev pub end_row : Paths → List ℕ → List ℕ → ℕ → ℕ
end_row p node counts i = joined_before node counts (get_or node (get_or p.end i 0) 0) (get_or p.end i 0)

-- the place to which path i leads from row x
abbrev pub lift_row : Paths → List ℕ → List ℕ → List ℕ → ℕ → ℕ → ℕ
lift_row p node counts links i x = end_row p node counts i + follow (link_in links) (path_edges p i) x

-- what following path i from each of the first rows relies on
pub record LiftLeads (p : Paths) (node counts links : List ℕ) (i rows : ℕ) : Type 0 where
  pub below : i < 256
  pub short : get_or p.length i 0 ≤ 15
  pub end_in : get_or p.end i 0 < 16
  pub few : end_row p node counts i ≤ 512
  pub leads : Leads links (path_edges p i) rows

-- the same of the lifts of edge e at each node over d, where that of node c stands at 16 * e + c
pub record LiftsLead (p : Paths) (node counts lifts links : List ℕ) (n e d : ℕ) : Type 0 where
  pub each : (c : ℕ) → c < n → get_or node c 0 ≡ d → LiftLeads p node counts links (get_or lifts (16 * e + c) 0) (get_or counts c 0)
