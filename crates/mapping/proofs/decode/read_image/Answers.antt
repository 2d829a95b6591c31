-- `mapping::decode::read_image` meets its contract.
use Prim.Native.Nat.{◌+◌, ◌*◌, ◌≤◌, ◌<◌}
use mathlib.Core.Path.{◌≡◌, sym, ◌∙◌}
use native.Mathlib.Omega.{arith}
use borrow.Author.Tests.{ltb-true, ltb-false}
use lib.ListN.{length}
use Rattle.bits.specs.Field.{field}
use Rattle.bits.proofs.Reading.{field_below}
use Rattle.meaning.proofs.Tabulate.{tabulate-same}
use Rattle.mapping.proofs.Decoding.{edges-cut, edges-read}
use Rattle.mapping.proofs.decode.read_image.Goals as goal

pub returns-then-lacks_at-2 : goal.returns-then-lacks_at-2
returns-then-lacks_at-2 c =
    let g : c.args.at + 4 ≤ 8 * length c.args.sheet.now = ltb-false _ _ (sym c.lacks_at.ensures ∙ c.if-lacks_at.false) in
    let h : 8 * length c.args.sheet.now < c.args.at + 4 + 5 * c.from-n.result = ltb-true _ _ (sym c.lacks_at-2.ensures ∙ c.if-lacks_at-2.true) in
    edges-cut c.args.sheet.now c.args.at g (omega (arith, h, c.from-n.ensures, c.small-length.ensures))

pub column-edges-requires : goal.column-edges-requires
column-edges-requires c =
    let k : c.from-n.result ≡ field c.args.sheet.now c.args.at 4 = c.from-n.ensures ∙ c.small-length.ensures in
    let b = field_below c.args.sheet.now c.args.at 4 in
    let h : c.args.at + 4 + 5 * c.from-n.result ≤ 8 * length c.args.sheet.now = ltb-false _ _ (sym c.lacks_at-2.ensures ∙ c.if-lacks_at-2.false) in
    record { few = omega arith; narrow = omega arith; counted = let g = c.requires.counted in omega arith; within = λ i l. omega arith }

pub returns : goal.returns
returns c =
    let k : c.from-n.result ≡ field c.args.sheet.now c.args.at 4 = c.from-n.ensures ∙ c.small-length.ensures in
    let b = field_below c.args.sheet.now c.args.at 4 in
    let h : c.args.at + 4 + 5 * c.from-n.result ≤ 8 * length c.args.sheet.now = ltb-false _ _ (sym c.lacks_at-2.ensures ∙ c.if-lacks_at-2.false) in
    record {
      says = rw (← c.from-n.ensures, tabulate-same c.from-n.result c.column-edges.ensures.each, k) (edges-read c.args.sheet.now c.args.at (omega arith));
      inside = h;
      near = omega arith;
      short = omega (arith, c.from-n.ensures);
    }
