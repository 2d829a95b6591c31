-- The tests of each kind of sheet, in order: 1 inside the leading counts, 3, 1 in the rest, 2, then upward from 4 (document 01, 'Why a sheet is sent back'); of an added row 1, 2, 9, 10, 11
-- (document 02, C-16).
use Rattle.std.specs.Prelude.{ℕ, not, List, [], ◌∷◌, map, length, leb}
use Rattle.std.proofs.Math.Option.{Option, none, some}
use Rattle.bits.specs.Field as bits
use Rattle.meaning.specs.Lists.{sum_of}
use Rattle.meaning.specs.Schema.{Path, Graph, Schema, is_path, has_loop}
use Rattle.meaning.specs.Sheet.{Read, fails, reads, Reader, ◌>>=◌, give, times, field}
use Rattle.meaning.specs.Formats.{Mapping, Instance, max_rows, counts_in_limits, read_edges, read_path, read_counts, read_lists, read_links, read_values, kinds}
use Rattle.meaning.specs.Category.{Category}
use Rattle.meaning.specs.Judge.{is_well_formed, has_few_paths, images_fit, keeps_equations, links_in_range, values_in_range, obeys_equations}
use Rattle.meaning.specs.Matching.{is_matching}
use Rattle.meaning.specs.Rows.{one_row, row_links_in_range, row_obeys_equations}
use Rattle.agreement.specs.Tests.{Refusal, Tests, done, test, holds}

-- what was read, and the position behind it
abbrev pub what_read : {A : Type 0} → Read A → Option (A × ℕ)
what_read (fails n) = none
what_read (reads a q) = some (a, q)

-- the numbers of a sheet's tests, at its place
abbrev pub placed : ℕ → List ℕ → List Refusal
placed place ns = map (λ n. (n, place)) ns

-- ---- path

abbrev pub path_numbers : List ℕ
path_numbers = 1 ∷ 2 ∷ 4 ∷ []

abbrev pub path_tests : (place : ℕ) → Graph → List ℕ → Tests Path (placed place path_numbers)
path_tests place G s =
    test (1, place) (what_read (read_path s 0)) (λ p.
    test (2, place) (holds (bits.tail_ok s p.1)) (λ _.
    test (4, place) (holds (is_path G p.0)) (λ _.
    done p.0)))

-- ---- schema

abbrev pub schema_numbers : List ℕ
schema_numbers = 1 ∷ 3 ∷ 1 ∷ 2 ∷ 4 ∷ 5 ∷ 6 ∷ []

abbrev pub schema_tests : (place : ℕ) → List ℕ → Tests Schema (placed place schema_numbers)
schema_tests place s =
    test (1, place) (what_read (read_counts s 0)) (λ c.
    test (3, place) (holds (counts_in_limits c.0)) (λ _.
    test (1, place) (what_read (read_lists c.0 s c.1)) (λ S.
    test (2, place) (holds (bits.tail_ok s S.1)) (λ _.
    test (4, place) (holds (is_well_formed S.0)) (λ _.
    test (5, place) (holds (not (has_loop S.0.graph))) (λ _.
    test (6, place) (holds (has_few_paths S.0.graph)) (λ _.
    done S.0)))))))

-- ---- mapping

abbrev pub mapping_numbers : List ℕ
mapping_numbers = 1 ∷ 2 ∷ 7 ∷ 8 ∷ []

-- all images, before the sheet's end
abbrev pub read_images : Schema → Reader Mapping
read_images S = do
  ns ← times S.graph.nodes (field 4)
  es ← times (length S.graph.edges) read_edges
  as' ← times (length S.attributes) (field 4)
  give (record { nodes = ns; edges = es; attributes = as' })

abbrev pub mapping_tests : (place : ℕ) → Category → Category → List ℕ → Tests Mapping (placed place mapping_numbers)
mapping_tests place S T s =
    test (1, place) (what_read (read_images S.schema s 0)) (λ F.
    test (2, place) (holds (bits.tail_ok s F.1)) (λ _.
    test (7, place) (holds (images_fit S.schema T.schema F.0)) (λ _.
    test (8, place) (holds (keeps_equations S T F.0)) (λ _.
    done F.0))))

-- ---- instance

abbrev pub instance_numbers : List ℕ
instance_numbers = 1 ∷ 3 ∷ 1 ∷ 2 ∷ 9 ∷ 10 ∷ 11 ∷ []

-- all links and values, before the sheet's end
abbrev pub read_links_values : Schema → List ℕ → Reader Instance
read_links_values S counts = do
  ls ← read_links S counts
  vs ← read_values S counts
  give (record { counts = counts; links = ls; values = vs })

abbrev pub instance_tests : (place : ℕ) → Schema → List ℕ → Tests Instance (placed place instance_numbers)
instance_tests place S s =
    test (1, place) (what_read (times S.graph.nodes (field 10) s 0)) (λ c.
    test (3, place) (holds (leb (sum_of c.0) max_rows)) (λ _.
    test (1, place) (what_read (read_links_values S c.0 s c.1)) (λ I.
    test (2, place) (holds (bits.tail_ok s I.1)) (λ _.
    test (9, place) (holds (links_in_range S I.0)) (λ _.
    test (10, place) (holds (values_in_range kinds S I.0)) (λ _.
    test (11, place) (holds (obeys_equations S I.0)) (λ _.
    done I.0)))))))

-- ---- matching

abbrev pub matching_numbers : List ℕ
matching_numbers = 1 ∷ 2 ∷ 17 ∷ []

abbrev pub matching_tests : (place : ℕ) → Schema → Instance → Instance → List ℕ → Tests (List ℕ) (placed place matching_numbers)
matching_tests place S A B s =
    test (1, place) (what_read (times (sum_of A.counts) (field 9) s 0)) (λ l.
    test (2, place) (holds (bits.tail_ok s l.1)) (λ _.
    test (17, place) (holds (is_matching S A B l.0)) (λ _.
    done l.0)))

-- ---- an added row (document 02, C-16)

abbrev pub row_sheet_numbers : List ℕ
row_sheet_numbers = 1 ∷ 2 ∷ 9 ∷ 10 ∷ 11 ∷ []

abbrev pub row_sheet_tests : (place : ℕ) → Schema → Instance → ℕ → List ℕ → Tests Instance (placed place row_sheet_numbers)
row_sheet_tests place S I c s =
    test (1, place) (what_read (read_links_values S (one_row S c) s 0)) (λ R.
    test (2, place) (holds (bits.tail_ok s R.1)) (λ _.
    test (9, place) (holds (row_links_in_range S I R.0)) (λ _.
    test (10, place) (holds (values_in_range kinds S R.0)) (λ _.
    test (11, place) (holds (row_obeys_equations S I c R.0)) (λ _.
    done R.0)))))
