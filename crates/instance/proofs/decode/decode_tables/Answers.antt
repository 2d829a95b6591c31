-- `instance::decode::decode_tables` meets its contract.
use mathlib.Core.Path.{◌≡◌, refl, sym, ap, ◌∙◌}
use mathlib.Core.Bool.{true, false}
use native.Mathlib.Omega.{arith}
use lib.ListN.{length}
use borrow.Author.Rules.{rules}
use Rattle.bits.specs.Field.{tail_ok}
use Rattle.meaning.specs.Sheet.{judged}
use Rattle.instance.proofs.Decoding.{link-columns, value-columns, links-cut, values-cut, tables-tail, tables-read}
use Rattle.instance.proofs.decode.decode_tables.Goals.{Start}
use Rattle.instance.proofs.decode.decode_tables.Goals as goal

source-long : (c : Start) → length c.args.schema.graph.source ≡ 32
source-long c = search rules

node_long : (c : Start) → length c.args.schema.node ≡ 16
node_long c = search rules

counts_long : (c : Start) → length c.args.counts ≡ 16
counts_long c = search rules

pub read_columns-requires : goal.read_columns-requires
read_columns-requires c =
    let A = c.requires.0 in
    let e = A.limits.edges in
    let n = A.limits.nodes in
    (omega arith, record { inside = c.requires.2; counted = omega arith }, link-columns c.args.schema A c.args.counts c.requires.4 (counts_long (goal.at.read_columns-requires c).Start) (source-long (goal.at.read_columns-requires c).Start), omega (arith, c.requires.1.for_links))

pub returns-in_err-middle-clause-says : goal.returns-in_err-middle-clause-says
returns-in_err-middle-clause-says c =
    let u = rw c.in_err-middle.ensures.ok_part at c.read_columns.ensures in
    let cut = sym (ap judged (links-cut c.args.schema c.requires.0 c.args.counts c.args.s.now _ u)) in
    search (rules, cut)

pub read_columns-requires-2 : goal.read_columns-requires-2
read_columns-requires-2 c =
    let A = c.requires.0 in
    let u = rw c.in_ok-middle.ensures.ok_part at c.read_columns.ensures in
    let e = A.limits.edges in
    let n = A.limits.nodes in
    let m = A.limits.attributes in
    (omega arith, record { inside = u.inside; counted = omega (arith, u.near) }, value-columns c.args.schema A c.args.counts c.requires.4 (counts_long (goal.at.read_columns-requires-2 c).Start) (node_long (goal.at.read_columns-requires-2 c).Start), omega (arith, c.requires.1.for_values))

pub returns-in_err-end-clause-says : goal.returns-in_err-end-clause-says
returns-in_err-end-clause-says c =
    let u = rw c.in_ok-middle.ensures.ok_part at c.read_columns.ensures in
    let v = rw c.in_err-end.ensures.ok_part at c.read_columns-2.ensures in
    let cut = sym (ap judged (values-cut c.args.schema c.requires.0 c.args.counts c.args.s.now _ u v)) in
    search (rules, cut)

pub returns-then-not-ends_at-clause-says : goal.returns-then-not-ends_at-clause-says
returns-then-not-ends_at-clause-says c =
    let u = rw c.in_ok-middle.ensures.ok_part at c.read_columns.ensures in
    let v = rw c.in_ok-end.ensures.ok_part at c.read_columns-2.ensures in
    let t : tail_ok c.args.s.now c.in_ok-end.end ≡ false = sym c.ends_at.ensures ∙ c.if-not-ends_at.true in
    sym (ap judged (tables-tail c.args.schema c.requires.0 c.args.counts c.args.s.now _ u v t))

pub returns-clause-says : goal.returns-clause-says
returns-clause-says c =
    let u = rw c.in_ok-middle.ensures.ok_part at c.read_columns.ensures in
    let v = rw c.in_ok-end.ensures.ok_part at c.read_columns-2.ensures in
    let t : tail_ok c.args.s.now c.in_ok-end.end ≡ true = sym c.ends_at.ensures ∙ c.if-not-ends_at.false in
    sym (ap judged (tables-read c.args.schema c.requires.0 c.args.counts c.args.s.now _ u v (record { counts = c.args.counts }) refl t))
