-- `compose::writing::images_bits` meets its contract.
use Rattle.std.proofs.Common.{◌≡◌, ◌+◌, ◌*◌, ◌∙◌, rules}
use Rattle.std.proofs.iter.runs.Made.{chains}
use Rattle.std.specs.List.{sum_by}
use Rattle.compose.proofs.SheetFields.{bits-sum}
use Rattle.compose.proofs.writing.images_bits.Goals as goal

pub returns : goal.returns
returns c =
    let e : c.sum.result ≡ sum_by (λ i. 4 + 5 * i.length) c.args.images.now = search (rules, chains) in
    e ∙ bits-sum c.args.images.now
