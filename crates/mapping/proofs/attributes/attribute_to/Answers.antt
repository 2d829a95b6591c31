-- `mapping::attributes::attribute_to` meets its contract.
use Rattle.std.proofs.Common.{ℕ, ap, Option, unwrap_or, ◌≡◌, ◌≤◌, ◌∙◌, take, length, eqb, rules, arith}
use Rattle.std.proofs.lemmas.Iterator.{YieldsList-from_slice}
use Rattle.std.proofs.lemmas.Iterator.Search.{position_from_yields_List}
use Rattle.meaning.specs.Lists.{position}
use borrow.Author.Tests.{tests}
use Rattle.mapping.proofs.Chains.{front, position-or}
use Rattle.mapping.proofs.attributes.attribute_to.Goals as goal

pub returns : goal.returns
returns c =
    let a = c.args in
    let e = position_from_yields_List (eqb a.b) _ _ c.position.result c.position.ensures.ran (YieldsList-from_slice (take a.n a.image.now) (search rules)) (λ x b q k. search (rules, tests)) in
    let l : a.n ≤ length a.image.now = omega arith in
    let n : length (take a.n a.image.now) ≡ a.n = omega arith in
    c.unwrap_or.ensures
    ∙ ap (λ (o : Option ℕ). unwrap_or o a.n) e
    ∙ position-or (eqb a.b) (take a.n a.image.now) a.n n
    ∙ ap (position (eqb a.b)) (front a.n a.image.now 0 l)
