-- `text::lines::put_word` meets its contract: the word is copied.
use native.Mathlib.Omega.{arith}
use Rattle.text.proofs.Appending.{appended-word}
use Rattle.text.proofs.lines.put_word.Goals as goal

pub returns : goal.returns
returns c = appended-word _ _ _ _ _ c.requires c.copy_from_slice.ensures.after (omega arith)
