-- Text written into a lent buffer, piece after piece.
use Rattle.std.specs.Prelude.{ℕ, ◌+◌, ◌≤◌, ◌≡◌, List, [], ◌∷◌, ◌++◌, length}
use Rattle.std.proofs.lemmas.List.Edits.{sets}
use Rattle.meaning.specs.Program.{codes, space, newline, decimal}

-- a buffer has room for a text from a position on
pub record Room (l : List ℕ) (at : ℕ) (text : List ℕ) : Type 0 where
  pub room : at + length text ≤ length l

-- the text is stored in l from a position on, which gives m, and ends at r
pub record Appended (l : List ℕ) (at : ℕ) (text : List ℕ) (r : ℕ) (m : List ℕ) : Type 0 where
  pub next : r ≡ at + length text
  pub bytes : m ≡ sets l at text

-- ---- pieces of a line, shut so that a proof computes no digits of a variable

unfoldable pub digits : ℕ → List ℕ
digits n = decimal n

-- a part of a line behind another
unfoldable pub part : ℕ → List ℕ
part n = space ∷ digits n

-- four pieces and a newline
unfoldable pub line_of : List ℕ → List ℕ → List ℕ → List ℕ → List ℕ
line_of a b c d = a ++ (b ++ (c ++ (d ++ (newline ∷ []))))

-- the first line of an accepted result, and the line of a refusal
abbrev pub header_text : ℕ → ℕ → List ℕ
header_text tables rows = line_of (codes "tables") (part tables) (space ∷ codes "rows") (part rows)

abbrev pub refusal_text : ℕ → ℕ → List ℕ
refusal_text number place = line_of (codes "refused") (part number) (part place) []
