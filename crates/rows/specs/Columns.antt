-- Columns in a working array, 512 apart, after a row was put behind them or taken out of them.
use Rattle.std.specs.Prelude.{ℕ, ◌+◌, ◌*◌, ◌<◌, ◌≤◌, ◌≡◌, List, ◌++◌, length, get_or}
use Rattle.meaning.specs.Rows.{at_table, moved_down}
use Rattle.agreement.specs.Changes.{skipping}
use Rattle.instance.specs.Decoded.{rows_of, column_of}

-- ---- numbers behind others

-- n columns can be put behind n others: together column k has at most 512 rows
pub record Joins (n : ℕ) (home counts rows list l : List ℕ) : Type 0 where
  pub homes : n ≤ length home
  pub counted : (k : ℕ) → k < n → get_or home k 0 < length counts
  pub more : (k : ℕ) → k < n → get_or home k 0 < length rows
  pub few : (k : ℕ) → k < n → rows_of home counts k + rows_of home rows k ≤ 512
  pub list_long : 512 * n ≤ length list
  pub long : 512 * n ≤ length l

-- behind the columns of l stand those of the list
pub record Joined (n : ℕ) (home counts rows list l r : List ℕ) : Type 0 where
  pub each : (k : ℕ) → k < n → column_of r (512 * k) (rows_of home counts k + rows_of home rows k) ≡ column_of l (512 * k) (rows_of home counts k) ++ column_of list (512 * k) (rows_of home rows k)
  pub long : length r ≡ length l

-- ---- numbers taken out

-- place x is taken out of n + 1 numbers from base on
pub record TakenOut (l : List ℕ) (base n x : ℕ) (r : List ℕ) : Type 0 where
  pub each : (i : ℕ) → i < n → get_or r (base + i) 0 ≡ get_or l (base + skipping x i) 0
  pub other : (k : ℕ) → ((i : ℕ) → i < n → k ≡ base + i → ⊥) → get_or r k 0 ≡ get_or l k 0
  pub long : length r ≡ length l

-- n columns of the given rows; those of table c have one row more, and place x
pub record OneMore (n : ℕ) (home counts : List ℕ) (c x : ℕ) (l : List ℕ) : Type 0 where
  pub homes : n ≤ length home
  pub counted : (k : ℕ) → k < n → get_or home k 0 < length counts
  pub few : (k : ℕ) → k < n → rows_of home counts k ≤ 512
  pub one_more : (k : ℕ) → k < n → get_or home k 0 ≡ c → rows_of home counts k < 512
  pub place : (k : ℕ) → k < n → get_or home k 0 ≡ c → x ≤ rows_of home counts k
  pub long : 512 * n ≤ length l

-- place x is taken out of each column of table c
pub record RowTaken (n : ℕ) (home counts : List ℕ) (c x : ℕ) (l r : List ℕ) : Type 0 where
  pub each : (k : ℕ) → k < n → (i : ℕ) → i < rows_of home counts k → get_or r (512 * k + i) 0 ≡ get_or l (512 * k + at_table c (get_or home k 0) (skipping x) i) 0
  pub long : length r ≡ length l

-- ---- numbers moved down

-- of n numbers from base on, those above x
pub record MovedDown (l : List ℕ) (base n x : ℕ) (r : List ℕ) : Type 0 where
  pub each : (i : ℕ) → i < n → get_or r (base + i) 0 ≡ moved_down x (get_or l (base + i) 0)
  pub other : (k : ℕ) → ((i : ℕ) → i < n → k ≡ base + i → ⊥) → get_or r k 0 ≡ get_or l k 0
  pub long : length r ≡ length l

-- in each column whose links lead to table c
pub record LinksMoved (n : ℕ) (source target counts : List ℕ) (c x : ℕ) (l r : List ℕ) : Type 0 where
  pub each : (k : ℕ) → k < n → (i : ℕ) → i < rows_of source counts k → get_or r (512 * k + i) 0 ≡ at_table c (get_or target k 0) (moved_down x) (get_or l (512 * k + i) 0)
  pub long : length r ≡ length l
