-- `instance::tables::table_list` meets its contract.
use Prim.Native.Nat.{ℕ, ◌<◌}
use mathlib.Core.Path.{◌≡◌, ap, ◌∙◌}
use native.Mathlib.Omega.{arith}
use lib.ListN.{get_or, length-set, length-take}
use Rattle.std.proofs.Common.{get_or-take}
use Rattle.meaning.proofs.Tabulate.{filled}
use Rattle.instance.specs.declared.tables.Table.{Table}
use Rattle.instance.specs.Tables.{no_table}
use Rattle.instance.proofs.Columns.{sum_of-more}
use Rattle.instance.proofs.TableList.{table_at, laid}
use Rattle.instance.proofs.tables.table_list.Goals as goal

pub loop-c-preserved : goal.loop-c-preserved
loop-c-preserved c =
    let counts = c.args.counts.now in
    let l = c.loop-c in
    let v = l.invariant in
    let h : l.c < c.args.n = omega (arith, length-take c.args.n counts) in
    rw get_or-take (record {
      few = omega (arith, c.type_inv.counts l.c, v.few);
      so_far = omega (arith, v.so_far, sum_of-more l.c (λ k. get_or counts k 0));
      each = filled {A = Table} (λ k x. x ≡ table_at counts k) no_table l.list l.c (omega (arith, v.long)) (ap (λ (x : ℕ). record { first = x; count = get_or counts l.c 0 }) v.so_far) v.each;
      long = length-set l.list l.c _ ∙ v.long;
    })

pub returns : goal.returns
returns c =
    let counts = c.args.counts.now in
    laid counts c.args.n c.loop-c.list (λ k h. c.loop-c.invariant.each k (omega (arith, length-take c.args.n counts, c.loop-c-test.false)))
