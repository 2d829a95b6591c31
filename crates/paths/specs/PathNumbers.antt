-- What a table of paths holds: the paths of a graph, numbered in the paper's order, and how one leads to the next.
use Rattle.std.specs.Prelude.{ℕ, ◌+◌, List, [], ◌∷◌, length, take, eqb}
use Rattle.meaning.specs.Lists.{upto, filter, concat_map}
use Rattle.meaning.specs.Schema.{Graph, path, source, end, all_paths}
use Rattle.meaning.proofs.PathLevels.{followed}
use Rattle.agreement.specs.Paths.{number_of, path_at}

-- ---- a path without its last edge, and that edge: of the trivial path, itself and 0
abbrev pub initial : List ℕ → List ℕ
initial [] = []
initial (x ∷ []) = []
initial (x ∷ (y ∷ l)) = x ∷ initial (y ∷ l)

abbrev pub final : List ℕ → ℕ
final [] = 0
final (x ∷ []) = x
final (x ∷ (y ∷ l)) = final (y ∷ l)

-- ---- the columns of the table
abbrev pub start_of : Graph → ℕ → ℕ
start_of G i = (path_at G i).start

abbrev pub end_of : Graph → ℕ → ℕ
end_of G i = end G (path_at G i)

abbrev pub length_of : Graph → ℕ → ℕ
length_of G i = length (path_at G i).edges

abbrev pub parent_of : Graph → ℕ → ℕ
parent_of G i = number_of G (path (path_at G i).start (initial (path_at G i).edges))

abbrev pub last_of : Graph → ℕ → ℕ
last_of G i = final (path_at G i).edges

-- the number of the first path that is path i and one edge: before it stand the trivial paths and those that follow the paths before i
abbrev pub first_of : Graph → ℕ → ℕ
first_of G i = G.nodes + length (concat_map (followed G) (take i (all_paths G)))

-- the edges below k that leave node v
abbrev pub leaving_below : Graph → ℕ → ℕ → List ℕ
leaving_below G v k = filter (λ e. eqb (source G e) v) (upto k)

-- an edge's place among those that leave its source
abbrev pub rank_of : Graph → ℕ → ℕ
rank_of G e = length (leaving_below G (source G e) e)
