-- A text that a program prints, in a lent buffer.
use Rattle.std.specs.Prelude.{ℕ, cond, List, ◌++◌, length, drop, leb}
use Rattle.text.specs.Written.{max_text_bytes}

-- its length and the buffer with the text in front, where the buffer holds every text; else 0, and the buffer as it was
abbrev pub printed_into : List ℕ → List ℕ → ℕ × List ℕ
printed_into old text = cond (leb max_text_bytes (length old)) (length text, text ++ drop (length text) old) (0, old)
