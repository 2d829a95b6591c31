-- `sigma::sigma_counts` meets its contract.
use Prim.Native.Nat.{◌≤◌}
use mathlib.Core.Path.{refl}
use native.Mathlib.Omega.{arith}
use borrow.Author.Rules.{rules}
use Rattle.std.proofs.lemmas.List.{places}
use Rattle.sigma.proofs.Joining.{joined-few}
use Rattle.sigma.proofs.sigma_counts.Goals as goal

pub overflow_cast-count : goal.overflow_cast-count
overflow_cast-count c =
    let h : c.rows_before.result ≤ 512 = rw c.rows_before.ensures (joined-few c.args.f.node c.args.run.counts c.loop-d.d c.args.s.graph.nodes c.requires.2.rows) in
    omega (arith, h)

pub returns : goal.returns
returns c = record {
  counts = record {
    each = λ i h. let v = c.loop-d.invariant i (search (rules, places)) in search (rules, places);
    long = search (rules, places);
  };
}
