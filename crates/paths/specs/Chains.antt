-- Chains through a column of numbers: from each place to the next one that holds the same number.
use Rattle.std.specs.Prelude.{ℕ, ◌+◌, ◌-◌, ◌<◌, ◌≤◌, ◌≡◌, cond, List, length, get_or, eqb, Option, Some, None}

-- the first n numbers of a column are those of nodes
pub record Small (column : List ℕ) (n : ℕ) : Type 0 where
  pub few : n ≤ 256
  pub long : n ≤ length column
  pub each : (i : ℕ) → i < n → get_or column i 0 < 16

-- of n places, none from place i on holds v
pub record Nowhere (column : List ℕ) (v i n : ℕ) : Type 0 where
  pub none : (j : ℕ) → j < n → i ≤ j → get_or column j 0 ≡ v → ⊥

-- place k is the first of them that does
pub record FirstAt (column : List ℕ) (v i n k : ℕ) : Type 0 where
  pub later : i ≤ k
  pub within : k < n
  pub none : (j : ℕ) → j < k → i ≤ j → get_or column j 0 ≡ v → ⊥
  pub holds : get_or column k 0 ≡ v

abbrev pub NextAt : List ℕ → ℕ → ℕ → ℕ → Option ℕ → Type 0
NextAt column v i n None = Nowhere column v i n
NextAt column v i n (Some k) = FirstAt column v i n k

-- of n places those from place i on are chained
pub record Chained (column : List ℕ) (n i : ℕ) (next first : List (Option ℕ)) : Type 0 where
  pub after : (j : ℕ) → i ≤ j → j < n → NextAt column (get_or column j 0) (j + 1) n (get_or next j None)
  pub begins : (v : ℕ) → v < 16 → NextAt column v i n (get_or first v None)

-- the first place of all, or the one after the place before i
abbrev pub next_place : List (Option ℕ) → List (Option ℕ) → ℕ → ℕ → Option ℕ
next_place next first v i = cond (eqb i 0) (get_or first v None) (get_or next (i - 1) None)
