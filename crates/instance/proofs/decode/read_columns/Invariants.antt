-- `instance::decode::read_columns` meets its contract.
use Prim.Native.Nat.{ℕ, ◌+◌, ◌*◌, ◌≤◌}
use mathlib.Core.Path.{◌≡◌}
use mathlib.Core.List.{List}
use lib.ListN.{length}
use Rattle.meaning.specs.Sheet.{times, field}
use Rattle.meaning.proofs.Reading.{Turned}
use Rattle.instance.specs.Decoded.{rows_of, columns_of}
use Rattle.instance.proofs.decode.read_columns.Given as goal

-- the first k columns are read, and the next stands at p
pub record Going (s : List ℕ) (at width n : ℕ) (home counts out₀ out : List ℕ) (k p : ℕ) : Type 0 where
  pub inside : p ≤ 8 * length s
  pub near : p ≤ at + 16384 * k
  pub so_far : Turned {A = ℕ} (λ j. times (rows_of home counts j) (field width)) n (λ j. j) s at (columns_of k (rows_of home counts) out) k p
  pub long : length out ≡ length out₀

abbrev pub invariant-loop-k : goal.invariant-loop-k
invariant-loop-k l = Going l.s l.at l.width l.n l.home l.counts l.initial.out l.out l.k l.p
