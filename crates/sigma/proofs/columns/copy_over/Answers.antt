-- `sigma::columns::copy_over` meets its contract.
use Prim.Native.Nat.{◌<◌}
use native.Mathlib.Omega.{arith}
use Rattle.instance.proofs.Storing.{copied-stored}
use Rattle.sigma.proofs.Joining.{head_or-low}
use Rattle.sigma.proofs.columns.copy_over.Goals.{After-first_over-a}
use Rattle.sigma.proofs.columns.copy_over.Goals as goal

low : (c : After-first_over-a) → c.first_over-a.result < 16
low c = rw c.first_over-a.ensures (head_or-low _ 16 _ c.requires.0 (omega arith))

pub overflow_mul-a : goal.overflow_mul-a
overflow_mul-a c = omega (arith, low c)

pub copy_column-requires : goal.copy_column-requires
copy_column-requires c = let p = c.requires in (omega (arith, c.first_over-a.ensures, p.3), p.4)

pub returns : goal.returns
returns c = rw c.first_over-a.ensures at (copied-stored c.copy_column.ensures)
