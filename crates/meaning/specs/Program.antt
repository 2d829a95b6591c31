-- The programs push and dig: what they print, of what they read (document 01, 'Runs to check against'; document 02, C-15).
use Rattle.std.specs.Prelude.{ℕ, zero, suc, ◌+◌, ◌*◌, ◌/◌, ◌%◌, true, false, List, [], ◌∷◌, ◌++◌, map, take, drop, ltb}
use Prim.Native.Char.{code}
use Prim.Native.String.{String, [] as no_text, ◌∷◌ as ◌before◌}
use Rattle.meaning.specs.Lists.{upto, concat_map, sum_of}
use Rattle.meaning.specs.Schema.{Schema, leaving}
use Rattle.meaning.specs.Formats.{Instance}
use Rattle.meaning.specs.Views.{rows, link, value}
use Rattle.meaning.specs.Evenness.{attributes_at}
use Rattle.meaning.specs.Calls.{Outcome, refused, accepted, Migrated, sigma_tables}
use Rattle.meaning.specs.Query.{query_tables}

-- ---- input: sheets, each after its 16-bit byte length, most significant byte first

-- a length of fewer than two bytes counts as 0
abbrev pub announced : List ℕ → ℕ
announced [] = 0
announced (a ∷ []) = 0
announced (a ∷ b ∷ rest) = 256 * a + b

-- bytes that the input lacks are lacking in the sheet
abbrev pub first_sheet : List ℕ → List ℕ
first_sheet input = take (announced input) (drop 2 input)

abbrev pub later_sheets : List ℕ → List ℕ
later_sheets input = drop (announced input) (drop 2 input)

-- what follows the first n sheets
abbrev pub after_sheets : ℕ → List ℕ → List ℕ
after_sheets zero input = input
after_sheets (suc n) input = after_sheets n (later_sheets input)

-- the sheet after the first n
abbrev pub sheet : ℕ → List ℕ → List ℕ
sheet n input = first_sheet (after_sheets n input)

-- the first sheet with its byte length
abbrev pub first_frame : List ℕ → List ℕ
first_frame input = take (2 + announced input) input

-- what is read of an input: the first n sheets with their byte lengths; bytes after them are not read
abbrev pub frames : ℕ → List ℕ → List ℕ
frames zero input = []
frames (suc n) input = first_frame input ++ frames n (later_sheets input)

-- ---- output

-- a text's characters as bytes
abbrev pub codes : String → List ℕ
codes no_text = []
codes (c before s) = code c ∷ codes s

abbrev pub space : ℕ
space = code " "

abbrev pub newline : ℕ
newline = code "\n"

-- the digit of a number below 10
abbrev pub digit : ℕ → ℕ
digit n = code "0" + n

-- the decimal digits of n, which has at most fuel + 1
abbrev pub digits_within : ℕ → ℕ → List ℕ
digits_within zero n = digit (n % 10) ∷ []
digits_within (suc fuel) n = elim (ltb n 10) [ true ↦ digit n ∷ [] | false ↦ digits_within fuel (n / 10) ++ (digit (n % 10) ∷ []) ]

-- a value is below 2 ^ 32, and has at most 10 digits
abbrev pub decimal : ℕ → List ℕ
decimal n = digits_within 9 n

-- a line: its parts with one space between them, and a newline
abbrev pub line : List (List ℕ) → List ℕ
line [] = newline ∷ []
line (w ∷ []) = w ++ (newline ∷ [])
line (w ∷ v ∷ ws) = w ++ (space ∷ line (v ∷ ws))

-- a row: table, row, link targets, values
abbrev pub row_line : Schema → Instance → ℕ → ℕ → List ℕ
row_line T J d r = line (map decimal (d ∷ r ∷ (map (λ e. link J e r) (leaving T.graph d) ++ map (λ b. value J b r) (attributes_at T d))))

-- the lines of all rows, tables in order
abbrev pub row_lines : Schema → Instance → List ℕ
row_lines T J = concat_map (λ d. concat_map (row_line T J d) (rows J d)) (upto T.graph.nodes)

-- a header with tables and rows, then the rows
abbrev pub printed : Migrated → List ℕ
printed m =
    line (codes "tables" ∷ decimal m.schema.graph.nodes ∷ codes "rows" ∷ decimal (sum_of m.tables.counts) ∷ []) ++
    row_lines m.schema m.tables

abbrev pub shown : Outcome Migrated → List ℕ
shown (refused n place) = line (codes "refused" ∷ decimal n ∷ decimal place ∷ [])
shown (accepted m) = printed m

-- ---- programs

-- the sheets S, T, mapping and run; bytes after the fourth sheet are not read
abbrev pub push : List ℕ → List ℕ
push input = shown (sigma_tables (sheet 0 input) (sheet 1 input) (sheet 2 input) (sheet 3 input))

-- the four schemas, F, G, H and the run, as push reads its sheets, and in that program's lines
abbrev pub dig : List ℕ → List ℕ
dig input = shown (query_tables (sheet 0 input) (sheet 1 input) (sheet 2 input) (sheet 3 input) (sheet 4 input) (sheet 5 input) (sheet 6 input) (sheet 7 input))
