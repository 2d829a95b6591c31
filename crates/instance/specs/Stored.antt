-- Columns as loops store them in a working array.
use Rattle.std.specs.Prelude.{ℕ, ◌+◌, ◌*◌, ◌<◌, ◌≡◌, List, length, get_or}
use Rattle.theory.specs.Instance.{follow}
use Rattle.instance.specs.Followed.{link_in, Stays}

-- g 0, g 1, .. g (n - 1) stand at the front of an array of 16
pub record Counts (n : ℕ) (g : ℕ → ℕ) (r : List ℕ) : Type 0 where
  pub each : (c : ℕ) → c < n → get_or r c 0 ≡ g c
  pub long : length r ≡ 16

-- edges lead each of the first rows to a row, which is one of at most 512
pub record Leads (links es : List ℕ) (rows : ℕ) : Type 0 where
  pub stays : (x : ℕ) → x < rows → Stays links es x
  pub few : (x : ℕ) → x < rows → follow (link_in links) es x < 512

-- g 0, g 1, .. g (n - 1) are stored in l from base on, which gives r
pub record Stored (g : ℕ → ℕ) (n base : ℕ) (l r : List ℕ) : Type 0 where
  pub each : (i : ℕ) → i < n → get_or r (base + i) 0 ≡ g i
  pub below : (k : ℕ) → k < base → get_or r k 0 ≡ get_or l k 0
  pub long : length r ≡ length l

-- n numbers of a list from a place on are stored in l from base on, which gives r, and nothing else changes
pub record Copied (list : List ℕ) (place n base : ℕ) (l r : List ℕ) : Type 0 where
  pub each : (i : ℕ) → i < n → get_or r (base + i) 0 ≡ get_or list (place + i) 0
  pub other : (k : ℕ) → ((i : ℕ) → i < n → k ≡ base + i → ⊥) → get_or r k 0 ≡ get_or l k 0
  pub long : length r ≡ length l

-- n columns stand in r, 512 apart: column k has a row for each number below rows k
pub record ColumnsStored (n : ℕ) (rows : ℕ → ℕ) (g : ℕ → ℕ → ℕ) (l r : List ℕ) : Type 0 where
  pub each : (k : ℕ) → k < n → (x : ℕ) → x < rows k → get_or r (512 * k + x) 0 ≡ g k x
  pub long : length r ≡ length l
