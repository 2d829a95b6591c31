-- `instance::decode::decode_instance` meets its contract.
use Prim.Native.Nat.{◌+◌, ◌*◌, ◌≤◌, ◌<◌}
use mathlib.Core.Path.{sym, ap, ◌∙◌}
use native.Mathlib.Omega.{arith}
use lib.ListN.{length}
use borrow.Author.Tests.{ltb-true, ltb-false}
use Rattle.meaning.specs.Lists.{sum_of}
use Rattle.meaning.specs.Sheet.{judged}
use Rattle.schema.specs.Decoded.{schema_of}
use Rattle.instance.specs.Decoded.{counts_in}
use Rattle.instance.proofs.Decoding.{instance-short, instance-count, instance-tables}
use Rattle.instance.proofs.decode.decode_instance.Goals as goal

pub returns-then-lacks_at-clause-says : goal.returns-then-lacks_at-clause-says
returns-then-lacks_at-clause-says c =
    let h : 8 * length c.args.s.now < 0 + 10 * c.args.schema.graph.nodes = ltb-true _ _ (sym c.lacks_at.ensures ∙ c.if-lacks_at.true) in
    sym (ap judged (instance-short (schema_of c.args.schema) c.args.s.now (omega arith)))

pub returns-then-total-gt-ROWS-clause-says : goal.returns-then-total-gt-ROWS-clause-says
returns-then-total-gt-ROWS-clause-says c =
    let h : 0 + 10 * c.args.schema.graph.nodes ≤ 8 * length c.args.s.now = ltb-false _ _ (sym c.lacks_at.ensures ∙ c.if-lacks_at.false) in
    let f : 512 < sum_of (counts_in c.args.schema.graph.nodes c.args.s.now) = rw c.read_counts-counts.ensures at (rw c.total.ensures at c.if-total-gt-ROWS.true) in
    sym (ap judged (instance-count (schema_of c.args.schema) c.args.s.now (omega arith) f))

pub returns-clause-says : goal.returns-clause-says
returns-clause-says c =
    let h : 0 + 10 * c.args.schema.graph.nodes ≤ 8 * length c.args.s.now = ltb-false _ _ (sym c.lacks_at.ensures ∙ c.if-lacks_at.false) in
    let e = c.read_counts-counts.ensures in
    let r = rw e at c.decode_tables.ensures.says in
    let f : sum_of (counts_in c.args.schema.graph.nodes c.args.s.now) ≤ 512 = rw e at (rw c.total.ensures at c.if-total-gt-ROWS.false) in
    r ∙ sym (ap judged (instance-tables (schema_of c.args.schema) c.args.s.now (omega arith) f))
