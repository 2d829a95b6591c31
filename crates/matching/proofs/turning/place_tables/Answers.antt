-- `matching::turning::place_tables` meets its contract.
use Prim.Native.Nat.{◌<◌}
use native.Mathlib.Omega.{arith}
use borrow.Author.Rules.{rules}
use Rattle.std.proofs.lemmas.List.{places, get_or-take}
use Rattle.matching.proofs.Placing.{placing-start, placing-more}
use Rattle.matching.proofs.turning.place_tables.Goals as goal

pub loop-c-init : goal.loop-c-init
loop-c-init c = placing-start _ _ _ (search rules) (search rules)

pub loop-c-preserved : goal.loop-c-preserved
loop-c-preserved c =
    let t : c.loop-c.c < c.args.n = search (rules, places) in
    let e = rw get_or-take at c.from-d.ensures in
    rw e (placing-more c.loop-c.invariant (c.requires.tables c.loop-c.c t) (omega (arith, c.requires.few)))
