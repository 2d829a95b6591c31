-- `instance::follow::agree` meets its contract.
use Rattle.std.proofs.Common.{arith, rules, refl, ◌∙◌}
use lib.Dec.{eqb}
use borrow.Author.Tests.{tests}
use Rattle.theory.specs.Instance.{follow}
use Rattle.schema.specs.Decoded.{front_of}
use Rattle.instance.specs.Followed.{link_in}
use Rattle.std.proofs.lemmas.Iterator.{YieldsList-from_range}
use Rattle.std.proofs.lemmas.Iterator.Search.{all_from_yields_List}
use Rattle.instance.proofs.Chains.{all-below}
use Rattle.instance.proofs.follow.agree.Goals as goal

pub returns : goal.returns
returns c =
    let a = c.args in
    all_from_yields_List
    (λ x. eqb (follow (link_in a.links.now) (front_of a.m a.left.now) x) (follow (link_in a.links.now) (front_of a.n a.right.now) x))
    _ _ c.all.result c.all.ensures.ran (YieldsList-from_range 0 a.rows a.rows refl (omega arith)) (λ x b q k. search (rules, tests))
    ∙ all-below _ a.rows
