-- `schema::decode::read_graph` meets its contract. The invariant: the first i edges are read.
use mathlib.Core.Path.{◌≡◌, refl, ap, ◌∙◌}
use Prim.Native.Nat.{ℕ}
use native.Mathlib.Omega.{arith}
use Rattle.bits.specs.Field.{field}
use Rattle.meaning.specs.Schema as meaning
use Rattle.schema.proofs.Decoding.{column-start, column-more, pairs}
use Rattle.schema.proofs.decode.read_graph.Goals as goal

pub loop-i-init : goal.loop-i-init
loop-i-init c = (column-start _ 22 8 4 32, column-start _ 26 8 4 32)

pub loop-i-preserved : goal.loop-i-preserved
loop-i-preserved c =
    let v = c.loop-i in (
      column-more v.invariant.0 (omega arith) c.small.ensures,
      column-more v.invariant.1 (omega arith) (c.small-in-loop-i.ensures ∙ ap (λ (q : ℕ). field c.args.s.now q 4) (omega arith)),
    )

pub returns : goal.returns
returns c =
    let v = c.loop-i in
    let e : v.i ≡ c.args.edges = omega arith in
    record { nodes = refl; edges = refl; says = rw e at (pairs {A = meaning.Edge} (λ x y. record { source = x; target = y }) refl v.invariant.0 v.invariant.1) }
