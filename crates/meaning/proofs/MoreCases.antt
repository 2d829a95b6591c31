-- The other runs of document 01, case 11 as document 02, C-12, has it, its traps and its program, and first paths (C-14), computed: a second table.
use Prim.Native.Nat.{ℕ}
use Prim.Native.String.{String}
use mathlib.Core.Path.{◌≡◌, refl}
use mathlib.Core.List.{List, [], ◌∷◌, ◌++◌, map}
use lib.ListN.{replicate, take}
use Rattle.bits.specs.Field.{field, bit, tail_ok}
use Rattle.bits.specs.Pack.{pack, gather, bits_of, digits, number, total_width}
use native.Mathlib.Decide.{ℕ_discrete, dec_le}
use Rattle.theory.specs.Numbering.{sum, locate}
use Rattle.theory.specs.Sigma.{share}
use Rattle.theory.specs.Matching.{partners}
use Rattle.meaning.specs.Calls.{Outcome, refused, accepted, check_schema, check_instance, path_question, delta_tables, sigma_tables, pi_tables, sheet_of, pushed_to_raw, raw_to_pushed, Lent, in_tray}
use Rattle.meaning.specs.Program.{codes, push}
use Rattle.meaning.proofs.Examples.{vendor, operator, vendor_to_operator, run, pushed_run, book, pushed_list, raw_list, point, short_rule, long_rule, cd, abf, cdf}
use Rattle.meaning.proofs.ChainCases.{two_rules, ac, ae}
use Rattle.meaning.proofs.Cases.{Answer, bytes, counts, checked, told, counts_of}

-- ---- sheets

-- case 10: a chain of 7 nodes with doubled edges and 9 lone nodes
abbrev pub doubled_chain : List ℕ
doubled_chain = 0x81 ∷ 0x80 ∷ 0x00 ∷ 0x04 ∷ 0x04 ∷ 0x48 ∷ 0x48 ∷ 0x8C ∷ 0x8C ∷ 0xD0 ∷ 0xD1 ∷ 0x15 ∷ 0x15 ∷ 0x59 ∷ 0x58 ∷ []

-- and one edge between two lone nodes
abbrev pub doubled_chain_and_edge : List ℕ
doubled_chain_and_edge = 0x81 ∷ 0xA0 ∷ 0x00 ∷ 0x04 ∷ 0x04 ∷ 0x48 ∷ 0x48 ∷ 0x8C ∷ 0x8C ∷ 0xD0 ∷ 0xD1 ∷ 0x15 ∷ 0x15 ∷ 0x59 ∷ 0x59 ∷ 0xE0 ∷ []

-- case 11: one node with a clock
abbrev pub clock : List ℕ
clock = 0x08 ∷ 0x01 ∷ 0x00 ∷ 0x08 ∷ []

-- two nodes without edges
abbrev pub two_points : List ℕ
two_points = 0x10 ∷ 0x00 ∷ 0x00 ∷ []

-- 16 nodes without edges
abbrev pub points : List ℕ
points = 0x80 ∷ 0x00 ∷ 0x00 ∷ []

-- two nodes and five edges from 0 to 1
abbrev pub five_edges : List ℕ
five_edges = 0x10 ∷ 0xA0 ∷ 0x00 ∷ 0x04 ∷ 0x04 ∷ 0x04 ∷ 0x04 ∷ 0x04 ∷ []

-- two dents and a loss at station 700 of one joint
abbrev pub equal_rows : List ℕ
equal_rows = 0x00 ∷ 0x80 ∷ 0x10 ∷ 0x04 ∷ 0x00 ∷ 0x00 ∷ 0x00 ∷ 0x00 ∷ 0x00 ∷ 0x01 ∷ 0x5E ∷ 0x00 ∷ 0x00 ∷ 0x01 ∷ 0x5E ∷ 0x00 ∷ 0x00 ∷ 0x01 ∷ 0x5E ∷ 0x00 ∷ []

-- one node with a station
abbrev pub station : List ℕ
station = 0x08 ∷ 0x01 ∷ 0x00 ∷ 0x04 ∷ []

-- one row, with the largest value
abbrev pub largest_value : List ℕ
largest_value = 0x00 ∷ 0x7F ∷ 0xFF ∷ 0xFF ∷ 0xFF ∷ 0xC0 ∷ []

-- edges 0 to 1, 1 to 2 and 0 to 2, with the first two followed equal to the third
abbrev pub triangle : List ℕ
triangle = 0x18 ∷ 0x60 ∷ 0x04 ∷ 0x04 ∷ 0x48 ∷ 0x08 ∷ 0x08 ∷ 0x01 ∷ 0x01 ∷ 0x10 ∷ []

abbrev pub two_sides : List ℕ
two_sides = 0x02 ∷ 0x00 ∷ 0x40 ∷ []

abbrev pub third_side : List ℕ
third_side = 0x01 ∷ 0x10 ∷ []

-- ---- the table

pub record Example : Type 0 where
  pub name : String
  pub yields : Outcome Answer
  pub paper : Outcome Answer

abbrev pub example : String → Outcome Answer → Outcome Answer → Example
example n y p = record { name = n; yields = y; paper = p }

module _ {A : Type 0} where
  abbrev pub check : Outcome A → Outcome Answer
  check o = told (λ _. checked) o

-- the tray as far as the answer's length
abbrev pub lent : Lent → Outcome Answer
lent l = told (λ n. bytes (take n l.tray)) l.answer

abbrev pub prints : List ℕ → Outcome Answer
prints text = accepted (bytes text)

abbrev pub more_cases : List Example
more_cases =
    example "case 10: 256 paths" (check (check_schema doubled_chain)) (accepted checked) ∷
    example "case 10: 257 paths" (check (check_schema doubled_chain_and_edge)) (refused 6 1) ∷
    example "case 11: 512 rows" (check (check_instance point (0x80 ∷ 0x00 ∷ []))) (accepted checked) ∷
    example "case 11: 513 rows" (check (check_instance point (0x80 ∷ 0x40 ∷ []))) (refused 3 2) ∷
    example "case 11: clock 720" (check (check_instance clock (0x00 ∷ 0x40 ∷ 0x00 ∷ 0x00 ∷ 0xB4 ∷ 0x00 ∷ []))) (accepted checked) ∷
    example "case 11: clock 721" (check (check_instance clock (0x00 ∷ 0x40 ∷ 0x00 ∷ 0x00 ∷ 0xB4 ∷ 0x40 ∷ []))) (refused 10 2) ∷
    example "case 11: clock 0" (check (check_instance clock (0x00 ∷ 0x40 ∷ 0x00 ∷ 0x00 ∷ 0x00 ∷ 0x00 ∷ []))) (refused 10 2) ∷
    example "case 12: 17 bytes" (lent (in_tray (replicate 17 0) (sheet_of (sigma_tables vendor operator vendor_to_operator run)))) (refused 16 0) ∷
    example "case 12: 18 bytes" (lent (in_tray (replicate 18 0) (sheet_of (sigma_tables vendor operator vendor_to_operator run)))) (accepted (bytes pushed_run)) ∷
    example "case 7: the first of abf and cdf" (told bytes (path_question short_rule cdf)) (accepted (bytes abf)) ∷
    example "and of abf" (told bytes (path_question short_rule abf)) (accepted (bytes abf)) ∷
    example "case 8: cd stands for itself" (told bytes (path_question long_rule cd)) (accepted (bytes cd)) ∷
    example "a path that two steps make" (told bytes (path_question two_rules ae)) (accepted (bytes ac)) ∷
    example "the shorter path stands first" (told bytes (path_question triangle two_sides)) (accepted (bytes third_side)) ∷
    example "the trivial path at 2" (told bytes (path_question triangle (0x20 ∷ []))) (accepted (bytes (0x20 ∷ []))) ∷
    example "an edge from another node" (told bytes (path_question triangle (0x11 ∷ 0x00 ∷ []))) (refused 4 2) ∷
    example "a tray of 2 bytes for 2" (lent (in_tray (replicate 2 0) (path_question triangle two_sides))) (accepted (bytes third_side)) ∷
    example "a tray of 1 byte for 2" (lent (in_tray (replicate 1 0) (path_question triangle two_sides))) (refused 16 0) ∷
    example "the base example printed" (prints (push ((0 ∷ 7 ∷ vendor) ++ (0 ∷ 5 ∷ operator) ++ (0 ∷ 5 ∷ vendor_to_operator) ++ (0 ∷ 20 ∷ run))))
    (prints (codes "tables 2 rows 5\n0 0 1 700\n0 1 0 300\n0 2 1 705\n1 0\n1 1\n")) ∷
    example "no input" (prints (push [])) (prints (codes "refused 1 1\n")) ∷
    example "a length of 256 and 7 bytes" (prints (push (1 ∷ 0 ∷ vendor))) (prints (codes "refused 1 2\n")) ∷
    example "ten digits" (prints (push ((0 ∷ 4 ∷ station) ++ (0 ∷ 4 ∷ station) ++ (0 ∷ 1 ∷ 0x00 ∷ []) ++ (0 ∷ 6 ∷ largest_value)))) (prints (codes "tables 1 rows 1\n0 0 4294967295\n")) ∷
    example "case 3's pushed matching turned" (told bytes (pushed_to_raw vendor operator vendor_to_operator run book pushed_list)) (accepted (bytes raw_list)) ∷
    example "and turned back" (told bytes (raw_to_pushed vendor operator vendor_to_operator run book raw_list)) (accepted (bytes pushed_list)) ∷
    example "equal raw rows are kept" (told counts_of (sigma_tables vendor operator vendor_to_operator equal_rows)) (accepted (counts (3 ∷ 1 ∷ []))) ∷
    example "a table without components" (told counts_of (pi_tables point two_points (0x10 ∷ []) (0x00 ∷ 0x80 ∷ []))) (accepted (counts (1 ∷ 2 ∷ []))) ∷
    example "80 components" (told counts_of (pi_tables points five_edges (replicate 8 0x11) (replicate 20 0))) (refused 14 0) ∷
    example "300 rows twice" (told counts_of (delta_tables two_points point (0x00 ∷ []) (0x4B ∷ 0x00 ∷ []))) (refused 15 0) ∷
    []

pub more-cases-hold : map (λ r. r.yields) more_cases ≡ map (λ r. r.paper) more_cases
unfolding field bit tail_ok pack gather bits_of digits number total_width sum locate share partners ℕ_discrete dec_le
more-cases-hold = refl
