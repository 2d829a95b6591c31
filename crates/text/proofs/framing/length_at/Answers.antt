-- `text::framing::length_at` meets its contract.
use native.Mathlib.Omega.{arith}
use Rattle.text.proofs.SheetParts.{length_some}
use Rattle.text.proofs.framing.length_at.Goals as goal

pub returns : goal.returns
returns c = record {
  is = let e = length_some c.args.input.now c.args.at c.requires in omega arith;
  within = omega arith;
}
