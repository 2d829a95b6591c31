-- Where sheets lie in an input, by meaning's framing.
use Rattle.std.specs.Prelude.{ℕ, ◌+◌, ◌-◌, ◌≤◌, ◌≡◌, List, length, take, drop}
use Rattle.meaning.specs.Program.{announced, first_sheet, later_sheets, sheet}
use Rattle.text.specs.declared.framing.Part.{Part}

-- the largest byte length
abbrev pub max_sheet_bytes : ℕ
max_sheet_bytes = 65535

-- the most bytes of a sheet with its byte length
abbrev pub max_frame_bytes : ℕ
max_frame_bytes = 2 + max_sheet_bytes

-- r is the byte length at a position
pub record LengthFound (input : List ℕ) (at r : ℕ) : Type 0 where
  pub is : r ≡ announced (drop at input)
  pub within : r ≤ max_sheet_bytes

-- what `&input[start..end]` holds
abbrev pub part_of : List ℕ → Part → List ℕ
part_of input p = take (p.end - p.start) (drop p.start input)

-- the bounds under which a part can be lent
pub record LiesIn (input : List ℕ) (p : Part) : Type 0 where
  pub ordered : p.start ≤ p.end
  pub inside : p.end ≤ length input

-- p is the first sheet of the input from a position on, and later sheets follow it
pub record SheetFound (input : List ℕ) (at : ℕ) (p : Part) : Type 0 where
  pub lies : LiesIn input p
  pub onward : at ≤ p.end
  pub sheet : part_of input p ≡ first_sheet (drop at input)
  pub later : drop p.end input ≡ later_sheets (drop at input)

-- p is the sheet after the first n
pub record NthFound (input : List ℕ) (n : ℕ) (p : Part) : Type 0 where
  pub lies : LiesIn input p
  pub is : part_of input p ≡ sheet n input
