-- `lifts::even::image_classes` meets its contract.
use Prim.Native.Nat.{ℕ}
use mathlib.Core.Path.{ap, ◌∙◌}
use native.Mathlib.Omega.{arith}
use lib.ListN.{get_or}
use Rattle.mapping.proofs.ImageTable.{image-class}
use Rattle.lifts.proofs.even.image_classes.Goals as goal

pub returns : goal.returns
returns c =
    let v = c.loop-i.invariant in
    record {
      each = λ i l. v.each i (omega arith) ∙ ap (λ (x : ℕ). get_or c.args.target_paths.class x 0) (c.path_images-path.ensures.each i l) ∙ (image-class c.requires i l).is;
      long = v.long;
    }
