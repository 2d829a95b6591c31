-- `sigma::columns::join` meets its contract.
use Prim.Native.Nat.{ℕ, ◌+◌}
use mathlib.Core.Path.{◌≡◌}
use lib.ListN.{get_or}
use Rattle.instance.specs.Stored.{Stored}
use Rattle.lifts.specs.Lifts.{joined_before}
use Rattle.sigma.specs.Joined.{EachOver, JoinedStored}
use Rattle.sigma.proofs.columns.join.Given as goal

abbrev pub invariant-loop-c : goal.invariant-loop-c
invariant-loop-c g l =
    (l.place ≡ l.base + joined_before l.node l.counts l.d l.c)
    × ((h : ℕ → ℕ → ℕ) → EachOver l.node l.d l.n (λ c. (place : ℕ) (o p : _) → goal.F-post g l.fill c (get_or l.counts c 0) o place tt p → Stored (h c) (get_or l.counts c 0) place o.now p.now) → JoinedStored l.node l.counts l.d l.c h l.base l.initial.out l.out)
