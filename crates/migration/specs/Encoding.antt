-- What C learns of a call: the number that an export gives, taken apart as include/migration.h does, is the call's outcome; and a tray of the
-- header's byte lengths holds every result.
use Rattle.std.specs.Prelude.{ℕ, ◌/◌, ◌%◌, ◌≤◌, ◌≡◌, cond, List, length, ltb}
use Rattle.meaning.specs.Formats.{max_instance_bytes, max_mapping_bytes}
use Rattle.meaning.specs.Calls.{Outcome, refused, accepted, ◌>>=◌, check_schema, check_mapping, check_instance, path_question, path_chain, delta_tables, sigma_tables, pi_tables, sheet_of, check_pushed, check_raw, pushed_to_raw, raw_to_pushed, in_tray}
use Rattle.meaning.specs.Query.{query_tables}
use Rattle.meaning.specs.Changes.{Sheets, addition_sheets, withdrawal_sheets, add_row, withdraw_row}
use Rattle.meaning.specs.Composition as composition
use Rattle.migration.specs.Answers.{encoded, checked, lengths_number}

-- below 2^32 a result; else the number in bits 8 to 15, the place in bits 0 to 7
abbrev pub decoded : ℕ → Outcome ℕ
decoded n = cond (ltb n 4294967296) (accepted n) (refused (n / 256 % 256) (n % 256))

abbrev pub Says : Outcome ℕ → Type 0
Says o = decoded (encoded o) ≡ o

-- a result of two byte lengths: the first is the number without its 16 low bits, which are the second
abbrev pub decoded_lengths : ℕ → Outcome (ℕ × ℕ)
decoded_lengths n = do
  k ← decoded n
  accepted (k / 65536, k % 65536)

abbrev pub SaysLengths : Outcome (ℕ × ℕ) → Type 0
SaysLengths o = decoded_lengths (encoded (lengths_number o)) ≡ o

pub record ExportsSay : Type 0 where
  pub check-schema : (s : List ℕ) → Says (checked (check_schema s))
  pub check-mapping : (s t f : List ℕ) → Says (checked (check_mapping s t f))
  pub check-instance : (s i : List ℕ) → Says (checked (check_instance s i))
  pub first-path : (s p tray : List ℕ) → Says (in_tray tray (path_question s p)).answer
  pub path-chain : (s p q tray : List ℕ) → Says (in_tray tray (path_chain s p q)).answer
  pub delta : (s t f j tray : List ℕ) → Says (in_tray tray (sheet_of (delta_tables s t f j))).answer
  pub sigma : (s t f i tray : List ℕ) → Says (in_tray tray (sheet_of (sigma_tables s t f i))).answer
  pub pi : (s t f i tray : List ℕ) → Says (in_tray tray (sheet_of (pi_tables s t f i))).answer
  pub query : (s1 s2 s3 s4 f g h i tray : List ℕ) → Says (in_tray tray (sheet_of (query_tables s1 s2 s3 s4 f g h i))).answer
  pub add-row : (s t f run : List ℕ) (n c : ℕ) (row pushed : List ℕ) → SaysLengths (add_row s t f run n c row pushed).answer
  pub withdraw-row : (s t f run : List ℕ) (n c r : ℕ) (pushed : List ℕ) → SaysLengths (withdraw_row s t f run n c r pushed).answer
  pub compose : (s t u f g tray : List ℕ) → Says (in_tray tray (composition.compose s t u f g)).answer
  pub check-pushed : (s t f i j k : List ℕ) → Says (checked (check_pushed s t f i j k))
  pub check-raw : (s t f i j k : List ℕ) → Says (checked (check_raw s t f i j k))
  pub pushed-to-raw : (s t f i j k tray : List ℕ) → Says (in_tray tray (pushed_to_raw s t f i j k)).answer
  pub raw-to-pushed : (s t f i j k tray : List ℕ) → Says (in_tray tray (raw_to_pushed s t f i j k)).answer

-- ---- byte lengths

-- 8 bits, and 15 edges of 5
abbrev pub max_path_bytes : ℕ
max_path_bytes = 11

-- 512 rows of 9 bits
abbrev pub max_matching_bytes : ℕ
max_matching_bytes = 576

-- 8 bits, and 255 steps of 10
abbrev pub max_chain_bytes : ℕ
max_chain_bytes = 320

-- a result has at most n bytes
abbrev pub Within : ℕ → Outcome (List ℕ) → Type 0
Within n o = (bytes : List ℕ) → o ≡ accepted bytes → length bytes ≤ n

-- both results of a change have at most n bytes each
abbrev pub BothWithin : ℕ → Outcome Sheets → Type 0
BothWithin n o = (x : Sheets) → o ≡ accepted x → (length x.run ≤ n) × (length x.pushed ≤ n)

pub record ResultsWithin : Type 0 where
  pub first-path : (s p : List ℕ) → Within max_path_bytes (path_question s p)
  pub path-chain : (s p q : List ℕ) → Within max_chain_bytes (path_chain s p q)
  pub delta : (s t f j : List ℕ) → Within max_instance_bytes (sheet_of (delta_tables s t f j))
  pub sigma : (s t f i : List ℕ) → Within max_instance_bytes (sheet_of (sigma_tables s t f i))
  pub pi : (s t f i : List ℕ) → Within max_instance_bytes (sheet_of (pi_tables s t f i))
  pub query : (s1 s2 s3 s4 f g h i : List ℕ) → Within max_instance_bytes (sheet_of (query_tables s1 s2 s3 s4 f g h i))
  pub row_added : (s t f i : List ℕ) (c : ℕ) (row : List ℕ) → BothWithin max_instance_bytes (addition_sheets s t f i c row)
  pub row_withdrawn : (s t f i : List ℕ) (c r : ℕ) → BothWithin max_instance_bytes (withdrawal_sheets s t f i c r)
  pub compose : (s t u f g : List ℕ) → Within max_mapping_bytes (composition.compose s t u f g)
  pub pushed-to-raw : (s t f i j k : List ℕ) → Within max_matching_bytes (pushed_to_raw s t f i j k)
  pub raw-to-pushed : (s t f i j k : List ℕ) → Within max_matching_bytes (raw_to_pushed s t f i j k)
