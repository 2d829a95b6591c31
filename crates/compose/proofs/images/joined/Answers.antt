-- `compose::images::joined` meets its contract.
use Rattle.std.proofs.Common.{◌≡◌, ◌+◌, ◌-◌, refl, arith}
use Rattle.compose.proofs.Joining.{written-behind}
use Rattle.compose.proofs.images.joined.Goals as goal

pub returns : goal.returns
returns c =
    let a = c.args in
    let k : c.from-from.result + c.from-n.result - c.from-from.result ≡ c.from-n.result = omega arith in
    (rw (k, c.copy_from_slice.ensures.after, c.from-from.ensures, c.from-n.ensures) (written-behind a.a.length a.b.length a.a.edges a.b.edges (omega arith) (omega arith)), refl)
