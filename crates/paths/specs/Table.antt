-- What the struct of a table of paths holds.
use Rattle.std.specs.Prelude.{ℕ, ◌+◌, ◌<◌, ◌≤◌, ◌≡◌, List, length, get_or}
use Rattle.meaning.specs.Schema.{Graph}
use Rattle.agreement.specs.Paths.{path_count}
use Rattle.paths.specs.declared.Paths.{Paths}
use Rattle.paths.specs.PathNumbers.{start_of, end_of, length_of, parent_of, last_of, first_of, rank_of}

-- the first n entries of an array of `size` entries are those of f
pub record Filled (size : ℕ) (f : ℕ → ℕ) (n : ℕ) (l : List ℕ) : Type 0 where
  pub each : (i : ℕ) → i < n → get_or l i 0 ≡ f i
  pub long : length l ≡ size

abbrev pub Ranked : Graph → List ℕ → Type 0
Ranked G l = Filled 32 (rank_of G) (length G.edges) l

pub record Trivial (n : ℕ) (t : Paths) : Type 0 where
  pub start : Filled 256 (λ i. i) n t.start
  pub end : Filled 256 (λ i. i) n t.end
  pub length : Filled 256 (λ i. 0) n t.length
  pub parent : Filled 256 (λ i. i) n t.parent
  pub last : Filled 256 (λ i. 0) n t.last
  pub first : Filled 257 (λ i. n) 1 t.first

-- the rows of the first n paths
pub record Columns (G : Graph) (n : ℕ) (t : Paths) : Type 0 where
  pub start : Filled 256 (start_of G) n t.start
  pub end : Filled 256 (end_of G) n t.end
  pub length : Filled 256 (length_of G) n t.length
  pub parent : Filled 256 (parent_of G) n t.parent
  pub last : Filled 256 (last_of G) n t.last

-- what walking the table relies on
pub record Index (G : Graph) (first rank : List ℕ) : Type 0 where
  pub few : path_count G ≤ 256
  pub edges : length G.edges ≤ 32
  pub firsts : (i : ℕ) → i ≤ path_count G → get_or first i 0 ≡ first_of G i
  pub ranks : (e : ℕ) → e < length G.edges → get_or rank e 0 ≡ rank_of G e

-- a whole table of paths
pub record IsTable (G : Graph) (t : Paths) : Type 0 where
  pub counted : t.count ≡ path_count G
  pub few : t.count ≤ 256
  pub columns : Columns G t.count t
  pub first : Filled 257 (first_of G) (t.count + 1) t.first
  pub rank : Ranked G t.rank
