-- `mapping::decode::decode_mapping` meets its contract.
use Prim.Native.Nat.{◌+◌, ◌*◌, ◌<◌}
use mathlib.Core.Path.{◌≡◌, sym, ap, ◌∙◌}
use mathlib.Core.Bool.{true, false}
use native.Mathlib.Omega.{arith}
use lib.ListN.{length}
use borrow.Author.Rules.{rules}
use borrow.Author.Tests.{ltb-true, tests}
use Rattle.bits.specs.Field.{tail_ok}
use Rattle.meaning.specs.Sheet.{judged}
use Rattle.meaning.proofs.Tabulate.{tabulate-same}
use Rattle.mapping.specs.Decoded.{ImagesTaken}
use Rattle.mapping.proofs.Decoding.{mapping-short, mapping-fails, mapping-cut, mapping-tail, mapping-read}
use Rattle.mapping.proofs.decode.decode_mapping.Goals.{In_ok-images}
use Rattle.mapping.proofs.decode.decode_mapping.Goals as goal

-- the edge images lie in the sheet
taken : (c : In_ok-images) → ImagesTaken c.args.sheet.now (4 * c.args.s.graph.nodes) c.args.s.graph.edges c.in_ok-images.images
taken c = search rules

pub returns-then-lacks_at-clause-says : goal.returns-then-lacks_at-clause-says
returns-then-lacks_at-clause-says c =
    let a = c.args in
    let h : 8 * length a.sheet.now < 0 + 4 * a.s.graph.nodes = ltb-true _ _ (sym c.lacks_at.ensures ∙ c.if-lacks_at.true) in
    sym (ap judged (mapping-short a.s a.sheet.now (omega arith)))

pub returns-in_err-images-clause-says : goal.returns-in_err-images-clause-says
returns-in_err-images-clause-says c =
    let cut = mapping-fails c.args.s c.args.sheet.now (search (rules, tests)) {number = 1} in
    search (rules, cut)

pub returns-then-lacks_at-2-clause-says : goal.returns-then-lacks_at-2-clause-says
returns-then-lacks_at-2-clause-says c =
    let a = c.args in
    let r = taken (goal.at.returns-then-lacks_at-2-clause-says c).In_ok-images in
    let h : 8 * length a.sheet.now < c.in_ok-images.images.next + 4 * a.s.attributes = ltb-true _ _ (sym c.lacks_at-2.ensures ∙ c.if-lacks_at-2.true) in
    sym (ap judged (mapping-cut a.s a.sheet.now (search (rules, tests)) r.says r.inside h))

pub returns-then-not-ends_after-clause-says : goal.returns-then-not-ends_after-clause-says
returns-then-not-ends_after-clause-says c =
    let a = c.args in
    let r = taken (goal.at.returns-then-not-ends_after-clause-says c).In_ok-images in
    let t : tail_ok a.sheet.now (c.in_ok-images.images.next + 4 * a.s.attributes) ≡ false = sym c.ends_after.ensures ∙ c.if-not-ends_after.true in
    sym (ap judged (mapping-tail a.s a.sheet.now (search (rules, tests)) r.says (search (rules, tests)) t))

pub returns : goal.returns
returns c =
    let a = c.args in
    let r = taken (goal.at.returns c).In_ok-images in
    let t : tail_ok a.sheet.now (c.in_ok-images.images.next + 4 * a.s.attributes) ≡ true = sym c.ends_after.ensures ∙ c.if-not-ends_after.false in
    record {
      says = rw (tabulate-same a.s.graph.nodes c.column-node.ensures.each, tabulate-same a.s.attributes c.column-attribute.ensures.each) (sym (ap judged (mapping-read a.s a.sheet.now (search (rules, tests)) r.says (search (rules, tests)) t)));
      short = r.short;
    }
