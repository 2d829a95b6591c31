-- `encoding::paths::write_small` meets its contract.
use Prim.Native.Nat.{ℕ}
use mathlib.Core.Path.{ap, ◌∙◌}
use mathlib.Core.List.{List}
use borrow.Author.Rules.{rules}
use Rattle.bits.specs.Put.{put_all}
use Rattle.meaning.specs.Formats.{fields_of}
use Rattle.encoding.proofs.Writing.{column-front}
use Rattle.encoding.proofs.paths.write_small.Goals as goal

pub returns : goal.returns
returns c =
    let a = c.args in
    let same = column-front a.n a.l.now c.map-column.result (λ i h. search rules) in
    c.write_column.ensures ∙ ap (λ (l : List ℕ). put_all a.tray.now a.at (fields_of a.width l)) same
