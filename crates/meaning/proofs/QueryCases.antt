-- A query (document 02, C-15), computed: two dents and a loss, each joined with the weld behind its joint, and united into one list of digs.
use Prim.Native.Nat.{ℕ}
use mathlib.Core.Path.{◌≡◌, refl}
use mathlib.Core.List.{List, [], ◌∷◌, ◌++◌, map}
use lib.ListN.{replicate, take}
use Rattle.bits.specs.Field.{field, bit, tail_ok}
use Rattle.bits.specs.Pack.{pack, gather, bits_of, digits, number, total_width}
use native.Mathlib.Decide.{ℕ_discrete, dec_le}
use Rattle.theory.specs.Numbering.{sum}
use Rattle.meaning.specs.Calls.{refused, accepted, delta_tables, sigma_tables, pi_tables, sheet_of, ◌>>=◌, in_tray}
use Rattle.meaning.specs.Query.{query_tables}
use Rattle.meaning.specs.Program.{codes, dig}
use Rattle.meaning.proofs.Cases.{bytes, told}
use Rattle.meaning.proofs.MoreCases.{Example, example, lent, prints}

-- ---- sheets

-- the four schemas
abbrev pub vendor : List ℕ
vendor = 0x20 ∷ 0x63 ∷ 0x00 ∷ 0x04 ∷ 0x84 ∷ 0x4C ∷ 0x04 ∷ 0x58 ∷ 0x84 ∷ []

abbrev pub needed : List ℕ
needed = 0x28 ∷ 0x82 ∷ 0x00 ∷ 0x04 ∷ 0x50 ∷ 0x8C ∷ 0xD0 ∷ 0x04 ∷ 0x84 ∷ []

abbrev pub joins : List ℕ
joins = 0x18 ∷ 0x42 ∷ 0x00 ∷ 0x08 ∷ 0x48 ∷ 0x04 ∷ 0x44 ∷ []

abbrev pub digs : List ℕ
digs = 0x10 ∷ 0x21 ∷ 0x00 ∷ 0x04 ∷ 0x04 ∷ []

-- F, G and H
abbrev pub from_vendor : List ℕ
from_vendor = 0x01 ∷ 0x21 ∷ 0x31 ∷ 0x00 ∷ 0x88 ∷ 0x42 ∷ 0x22 ∷ 0x02 ∷ []

abbrev pub to_joins : List ℕ
to_joins = 0x00 ∷ 0x11 ∷ 0x20 ∷ 0x10 ∷ 0x00 ∷ 0x84 ∷ 0x04 ∷ []

abbrev pub to_digs : List ℕ
to_digs = 0x00 ∷ 0x11 ∷ 0x00 ∷ 0x80 ∷ 0x00 ∷ []

abbrev pub run : List ℕ
run = 0x00 ∷ 0x80 ∷ 0x20 ∷ 0x04 ∷ 0x02 ∷ 0x00 ∷ 0x80 ∷ 0x00 ∷ 0x20 ∷ 0x10 ∷ 0x00 ∷ 0x00 ∷ 0x00 ∷ 0x15 ∷ 0xE0 ∷ 0x00 ∷ 0x00 ∷ 0x09 ∷ 0x60 ∷ 0x00 ∷ 0x00 ∷ 0x02 ∷ 0xF8 ∷ 0x00 ∷ 0x00 ∷ 0x03 ∷ 0xF8 ∷ 0x00 ∷ 0x00 ∷ 0x16 ∷ 0x08 ∷ []

-- the digs
abbrev pub dug_run : List ℕ
dug_run = 0x00 ∷ 0xC0 ∷ 0x20 ∷ 0x00 ∷ 0x04 ∷ 0x00 ∷ 0x00 ∷ 0x00 ∷ 0x05 ∷ 0x78 ∷ 0x00 ∷ 0x00 ∷ 0x02 ∷ 0x58 ∷ 0x00 ∷ 0x00 ∷ 0x05 ∷ 0x82 ∷ []

-- each after its byte length
abbrev pub input : List ℕ
input =
    (0 ∷ 9 ∷ vendor) ++ (0 ∷ 9 ∷ needed) ++ (0 ∷ 7 ∷ joins) ++ (0 ∷ 5 ∷ digs) ++ (0 ∷ 8 ∷ from_vendor) ++ (0 ∷ 7 ∷ to_joins) ++ (0 ∷ 5 ∷ to_digs) ++ (0 ∷ 31 ∷ run)

-- ---- the table

abbrev pub query_cases : List Example
query_cases =
    example "a query" (told bytes (sheet_of (query_tables vendor needed joins digs from_vendor to_joins to_digs run))) (accepted (bytes dug_run)) ∷
    example "the three calls in turn" (told bytes (do
      d ← sheet_of (delta_tables needed vendor from_vendor run)
      p ← sheet_of (pi_tables needed joins to_joins d)
      sheet_of (sigma_tables joins digs to_digs p))) (accepted (bytes dug_run)) ∷
    example "a tray of 18 bytes" (lent (in_tray (replicate 18 0) (sheet_of (query_tables vendor needed joins digs from_vendor to_joins to_digs run)))) (accepted (bytes dug_run)) ∷
    example "a tray of 17 bytes" (lent (in_tray (replicate 17 0) (sheet_of (query_tables vendor needed joins digs from_vendor to_joins to_digs run)))) (refused 16 0) ∷
    example "printed" (prints (dig input)) (prints (codes "tables 2 rows 5\n0 0 0 700\n0 1 1 300\n0 2 0 705\n1 0\n1 1\n")) ∷
    example "no input" (prints (dig [])) (prints (codes "refused 1 1\n")) ∷
    example "the run is cut" (prints (dig (take 96 input))) (prints (codes "refused 1 8\n")) ∷
    example "a byte behind the fourth schema, and F is cut" (told bytes (sheet_of (query_tables vendor needed joins (digs ++ (0 ∷ [])) (take 7 from_vendor) to_joins to_digs run))) (refused 2 4) ∷
    example "the second schema in the third's place" (told bytes (sheet_of (query_tables vendor needed needed digs from_vendor to_joins to_digs run))) (refused 7 6) ∷
    example "a byte behind H, and the run is cut" (told bytes (sheet_of (query_tables vendor needed joins digs from_vendor to_joins (to_digs ++ (0 ∷ [])) (take 3 run)))) (refused 2 7) ∷
    []

pub query-cases-hold : map (λ c. c.yields) query_cases ≡ map (λ c. c.paper) query_cases
unfolding field bit tail_ok pack gather bits_of digits number total_width sum ℕ_discrete dec_le
query-cases-hold = refl
