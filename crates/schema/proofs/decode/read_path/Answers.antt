-- `schema::decode::read_path` meets its contract, by how far the bits go.
use Prim.Native.Nat.{◌+◌, ◌*◌, ◌≤◌, ◌<◌}
use mathlib.Core.Path.{◌≡◌, sym, ◌∙◌}
use native.Mathlib.Omega.{arith}
use borrow.Author.Tests.{ltb-true, ltb-false}
use lib.ListN.{length}
use Rattle.bits.proofs.Reading.{field_below}
use Rattle.meaning.proofs.Tabulate.{tabulate-same}
use Rattle.meaning.proofs.Formats.{path-short, path-cut, path-read}
use Rattle.schema.proofs.decode.read_path.Goals as goal

pub returns-then-lacks_at : goal.returns-then-lacks_at
returns-then-lacks_at c =
    path-short c.args.s.now c.args.at c.requires.inside (ltb-true _ _ (sym c.lacks_at.ensures ∙ c.if-lacks_at.true))

pub returns-then-lacks_at-2 : goal.returns-then-lacks_at-2
returns-then-lacks_at-2 c =
    let k = c.small-length.ensures in
    let n : c.from-n.result ≡ c.small-length.result = c.from-n.ensures in
    let g : c.args.at + 8 ≤ 8 * length c.args.s.now = ltb-false _ _ (sym c.lacks_at.ensures ∙ c.if-lacks_at.false) in
    let h : 8 * length c.args.s.now < c.args.at + 8 + 5 * c.from-n.result = ltb-true _ _ (sym c.lacks_at-2.ensures ∙ c.if-lacks_at-2.true) in
    path-cut c.args.s.now c.args.at g (omega arith)

pub column-edges-requires : goal.column-edges-requires
column-edges-requires c =
    let k = c.small-length.ensures in
    let n : c.from-n.result ≡ c.small-length.result = c.from-n.ensures in
    let b = field_below c.args.s.now (c.args.at + 4) 4 in
    let h : c.args.at + 8 + 5 * c.from-n.result ≤ 8 * length c.args.s.now = ltb-false _ _ (sym c.lacks_at-2.ensures ∙ c.if-lacks_at-2.false) in
    record { few = omega arith; narrow = omega arith; counted = let g = c.requires.counted in omega arith; within = λ i l. omega arith }

pub returns : goal.returns
returns c =
    let k = c.small-length.ensures in
    let n : c.from-n.result ≡ c.small-length.result = c.from-n.ensures in
    let b = field_below c.args.s.now (c.args.at + 4) 4 in
    let h : c.args.at + 8 + 5 * c.from-n.result ≤ 8 * length c.args.s.now = ltb-false _ _ (sym c.lacks_at-2.ensures ∙ c.if-lacks_at-2.false) in
    record {
      says = path-read c.args.s.now c.args.at (omega arith) ∙ sym (rw (tabulate-same c.small-length.result (rw n at c.column-edges.ensures.each), n, k, c.small-start.ensures));
      inside = h;
      near = omega arith;
      short = omega arith;
    }
