-- `mapping::decode::read_images` meets its contract.
use Prim.Native.Nat.{◌≤◌, ◌<◌}
use mathlib.Core.Path.{◌≡◌, ap, ◌∙◌}
use native.Mathlib.Omega.{arith}
use lib.ListN.{length, length-set}
use lib.Seq.{get_or-set_same, get_or-set_other}
use Rattle.meaning.proofs.Reading.{under-step}
use Rattle.meaning.proofs.Tabulate.{tabulate-store, filled}
use Rattle.mapping.specs.Decoded.{image_of, no_image}
use Rattle.mapping.proofs.decode.read_images.Goals as goal

pub loop-i-preserved : goal.loop-i-preserved
loop-i-preserved c =
    let v = c.loop-i in
    let k = v.invariant in
    let r = c.in_ok-read in
    let l : v.i < length v.edge = omega (arith, k.long, c.requires.1, c.loop-i-test.true) in
    record {
      inside = r.ensures.inside;
      near = omega (arith, r.ensures.near, k.near);
      read_so_far = rw (tabulate-store v.i
          (λ j h. ap image_of (get_or-set_other v.edge v.i j _ _ (λ q. let z : j ≡ v.i = q in omega arith)))
          (ap image_of (get_or-set_same v.edge v.i _ _ l)))
          (under-step k.read_so_far c.loop-i-test.true r.ensures.says);
      short = record { each = filled (λ _ w. w.length ≤ 15) no_image v.edge v.i l r.ensures.short k.short.each };
      long = length-set v.edge v.i _ ∙ k.long;
    }
