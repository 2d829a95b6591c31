-- `schema::count::sum_nodes` meets its contract. The invariant: the numbers so far are summed.
use Prim.Native.Nat.{ℕ, ◌+◌, ◌-◌, ◌<◌, ◌≤◌}
use mathlib.Core.Path.{◌≡◌, ◌∙◌}
use mathlib.Core.List.{List}
use native.Mathlib.Omega.{arith}
use lib.ListN.{length, get_or, take, drop}
use Rattle.std.proofs.Common.{length-take, length-drop, get_or-take, get_or-drop}
use Rattle.meaning.proofs.PathCounts.{total-more}
use Rattle.schema.specs.Counted.{row}
use Rattle.schema.proofs.count.sum_nodes.Goals as goal

-- the row that is lent
module _ (t : List ℕ) (at n : ℕ) (room : at + n ≤ length t) where
  long : length (take (at + n - at) (drop at t)) ≡ n
  long = simp (length-take, length-drop) (omega arith)

  item : (i : ℕ) → i < n → get_or (take (at + n - at) (drop at t)) i 0 ≡ row t at i
  item i l = let m : i < at + n - at = omega arith in rw (get_or-take, get_or-drop)

pub overflow_add-sum : goal.overflow_add-sum
overflow_add-sum c =
    let a = c.args in
    let r : a.at + a.nodes ≤ length a.tally.now = omega (arith, c.requires.0, c.requires.1.0) in
    let l : c.loop-paths.paths-index < a.nodes = omega (arith, long a.tally.now a.at a.nodes r) in
    let x = c.requires.1.1.each c.loop-paths.paths-index l in
    omega (arith, item a.tally.now a.at a.nodes r c.loop-paths.paths-index l, c.loop-paths.invariant)

pub loop-paths-preserved : goal.loop-paths-preserved
loop-paths-preserved c =
    let a = c.args in
    let r : a.at + a.nodes ≤ length a.tally.now = omega (arith, c.requires.0, c.requires.1.0) in
    let l : c.loop-paths.paths-index < a.nodes = omega (arith, long a.tally.now a.at a.nodes r) in
    c.capped-sum.ensures ∙ rw (item a.tally.now a.at a.nodes r c.loop-paths.paths-index l, c.loop-paths.invariant, total-more (row a.tally.now a.at) c.loop-paths.paths-index) (omega arith)

pub returns : goal.returns
returns c =
    let a = c.args in
    let r : a.at + a.nodes ≤ length a.tally.now = omega (arith, c.requires.0, c.requires.1.0) in
    let e : c.loop-paths.paths-index ≡ a.nodes = omega (arith, long a.tally.now a.at a.nodes r) in
    rw e at c.loop-paths.invariant
