-- `mapping::attributes::count_to` meets its contract.
use Rattle.std.proofs.Common.{◌≡◌, ◌∙◌, ◌≤◌, take, length, eqb, rules, arith}
use Rattle.std.proofs.iter.runs.Made.{chains}
use Rattle.std.specs.List.{count_by}
use Rattle.mapping.proofs.Chains.{front, count-is}
use Rattle.mapping.proofs.attributes.count_to.Goals as goal

pub returns : goal.returns
returns c =
    let a = c.args in
    let e : c.count.result ≡ count_by (eqb a.b) (take a.n a.image.now) = search (rules, chains) in
    let l : a.n ≤ length a.image.now = omega arith in
    e ∙ count-is (eqb a.b) (take a.n a.image.now) ∙ rw (front a.n a.image.now 0 l)
