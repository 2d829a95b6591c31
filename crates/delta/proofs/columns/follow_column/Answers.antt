-- `delta::columns::follow_column` meets its contract.
use borrow.Author.Rules.{rules}
use Rattle.std.proofs.lemmas.List.{places}
use Rattle.delta.proofs.columns.follow_column.Goals as goal

pub returns : goal.returns
returns c = record {
  each = λ i h. let v = c.loop-x.invariant i (search (rules, places)) in search (rules, places);
  below = λ k h. search (rules, places);
  long = search (rules, places);
}
