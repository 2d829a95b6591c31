-- `schema::decode::decode_body` meets its contract: where the edges and attributes lie in the sheet, the equations decide, then the tail.
use Prim.Native.Nat.{◌+◌, ◌*◌, ◌<◌}
use mathlib.Core.Path.{sym, ap, ◌∙◌}
use native.Mathlib.Omega.{arith}
use lib.ListN.{length}
use borrow.Author.Rules.{rules}
use borrow.Author.Tests.{ltb-true, tests}
use Rattle.meaning.specs.Sheet.{judged}
use Rattle.meaning.proofs.Formats.{read_body-cut}
use Rattle.schema.specs.Decoded.{counts_of}
use Rattle.schema.proofs.Decoding.{kept-start, kept_more, kept-cut, kept-tail, kept-read, kept-limits}
use Rattle.schema.proofs.decode.decode_body.Goals as goal

pub returns-then-lacks_at-clause-says : goal.returns-then-lacks_at-clause-says
returns-then-lacks_at-clause-says c =
    let h : 8 * length c.args.s.now < 0 + (22 + 8 * c.args.c.edges + 8 * c.args.c.attributes) = ltb-true _ _ (sym c.lacks_at.ensures ∙ c.if-lacks_at.true) in
    sym (ap judged (read_body-cut c.args.s.now 22 (counts_of c.args.c) c.requires.0 (omega arith)))

pub loop-i-init : goal.loop-i-init
loop-i-init c = kept-start c.read_tables-t.ensures (search (rules, tests))

pub returns-in_err-equation-clause-says : goal.returns-in_err-equation-clause-says
returns-in_err-equation-clause-says c = let cut = kept-cut c.loop-i.invariant c.loop-i-test.true in search (rules, cut)

pub loop-i-preserved : goal.loop-i-preserved
loop-i-preserved c = kept_more c.loop-i.invariant c.loop-i-test.true (search rules) c.requires.1.equations

pub returns-then-not-ends_at-clause-says : goal.returns-then-not-ends_at-clause-says
returns-then-not-ends_at-clause-says c = kept-tail c.loop-i.invariant c.loop-i-test.false (sym c.ends_at.ensures ∙ c.if-not-ends_at.true)

pub returns : goal.returns
returns c = record {
  says = kept-read c.loop-i.invariant c.loop-i-test.false (sym c.ends_at.ensures ∙ c.if-not-ends_at.false);
  limits = kept-limits c.loop-i.invariant c.loop-i-test.false c.requires.1;
}
