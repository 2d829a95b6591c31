-- `instance::range::column_within` meets its contract.
use Prim.Native.Nat.{◌+◌, ◌-◌, ◌<◌}
use mathlib.Core.Path.{sym, ap₂, ◌∙◌}
use mathlib.Core.Bool.{Bool, ◌&&◌}
use lib.ListN.{get_or, drop}
use Rattle.std.proofs.Common.{arith, length-take, get_or-take, get_or-drop}
use Rattle.meaning.specs.Formats.{within}
use Rattle.meaning.proofs.Tabulate.{all_more}
use Rattle.instance.specs.Ranges.{range_of}
use Rattle.instance.proofs.range.column_within.Goals as goal

pub loop-x-preserved : goal.loop-x-preserved
loop-x-preserved c =
    let a = c.args in
    let i = c.loop-x.x-index in
    let h : i < a.base + a.n - a.base = omega (arith, length-take (a.base + a.n - a.base) (drop a.base a.l.now)) in
    let e = rw (get_or-take, get_or-drop) at c.within-so_far.ensures in
    ap₂ (λ (p q : Bool). p && q) c.loop-x.invariant e ∙ sym (all_more (within (range_of a.range)) i (λ r. get_or a.l.now (a.base + r) 0))
