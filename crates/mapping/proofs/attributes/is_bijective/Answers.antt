-- `mapping::attributes::is_bijective` meets its contract: the chain counts for each attribute of T.
use Rattle.std.proofs.Common.{ℕ, ◌∙◌, refl, length, eqb, rules, arith}
use Rattle.std.proofs.lemmas.Iterator.{YieldsList-from_range}
use Rattle.std.proofs.lemmas.Iterator.Search.{all_from_yields_List}
use borrow.Author.Tests.{tests}
use Rattle.meaning.specs.Lists.{filter}
use Rattle.meaning.proofs.Tabulate.{upto-tabulate}
use Rattle.schema.specs.Decoded.{front_of}
use Rattle.schema.proofs.Chains.{all-range}
use Rattle.mapping.proofs.Viewing.{attributes-count}
use Rattle.mapping.proofs.attributes.is_bijective.Goals as goal

pub returns : goal.returns
returns c =
    let a = c.args in
    let test = λ (b : ℕ). eqb (length (filter (eqb b) (front_of a.s.attributes a.f.attribute))) 1 in
    let e = all_from_yields_List test _ _ c.all.result c.all.ensures.ran (YieldsList-from_range 0 a.t.attributes a.t.attributes refl (omega arith)) (λ x b q k. search (rules, tests)) in
    e ∙ all-range test test a.t.attributes (λ i. i) (λ i. refl) ∙ rw (attributes-count a.t, upto-tabulate a.t.attributes)
