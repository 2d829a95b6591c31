-- `instance::decode::read_counts` meets its contract.
use native.Mathlib.Nat.{zero-add}
use lib.ListN.{get_or}
use mathlib.Core.Path.{sym, ap, ◌∙◌}
use Prim.Native.Nat.{ℕ}
use Rattle.meaning.proofs.Tabulate.{tabulate-same}
use Rattle.instance.proofs.decode.read_counts.Goals as goal

pub returns : goal.returns
returns c =
    let r = c.read_column in
    tabulate-same c.args.n (λ i l. ap (λ (k : ℕ). get_or r.new.out k 0) (sym (zero-add i)) ∙ r.ensures.each i l)
