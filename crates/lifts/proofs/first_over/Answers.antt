-- `lifts::first_over` meets its contract.
use Rattle.std.proofs.Common.{◌≡◌, ℕ, ap, arith, rules, refl, ◌∙◌}
use borrow.Author.Tests.{tests}
use Rattle.std.specs.Prelude.{Option, unwrap_or, Some, None}
use Rattle.std.specs.Option.{option_map}
use Rattle.std.proofs.lemmas.Iterator.{YieldsList-from_range}
use Rattle.std.proofs.lemmas.Iterator.Search.{find_from_yields_List}
use Rattle.lifts.specs.Even.{is_over}
use Rattle.lifts.proofs.Chains.{first_below}
use Rattle.lifts.proofs.first_over.Goals as goal

same : (o : Option ℕ) → o ≡ option_map (λ x. x) o
same None = refl
same (Some x) = refl

pub returns : goal.returns
returns c =
    let a = c.args in
    let e = find_from_yields_List (is_over a.home.now a.image.now a.c a.b) _ _ c.find.result c.find.ensures.ran (YieldsList-from_range 0 a.n a.n refl (omega arith)) (λ x b q k. search (rules, tests)) in
    c.unwrap_or.ensures ∙ ap (λ (o : Option ℕ). unwrap_or o a.none) (same c.find.result ∙ e) ∙ first_below (is_over a.home.now a.image.now a.c a.b) a.none a.n
