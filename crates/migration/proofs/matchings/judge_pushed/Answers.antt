-- `migration::matchings::judge_pushed` meets its contract.
use mathlib.Core.Path.{ap, ◌∙◌}
use mathlib.Core.List.{List}
use Prim.Native.Nat.{ℕ}
use Rattle.meaning.specs.Formats.{Instance}
use Rattle.meaning.specs.Matching.{judge_matching}
use Rattle.meaning.specs.Calls.{Outcome, ◌>>=◌, at, judge_pushed}
use Rattle.steps.specs.Answers.{outcome_of}
use Rattle.migration.specs.Sides.{inputs_of, sides_of}
use Rattle.migration.proofs.Judging.{size-told, pushed-comparable, same-partners}
use borrow.Author.Rules.{rules}
use Rattle.migration.proofs.matchings.judge_pushed.Goals as goal

pub judge_matching-requires : goal.judge_matching-requires
judge_matching-requires c = let z = c.requires in pushed-comparable z.0 c.sigma-pushed.ensures (search rules) z.1.book z.2

pub returns : goal.returns
returns c =
    let a = c.args in
    let x = a.x in
    let y = inputs_of x.opened.now x.sides x.run_links.now x.run_values.now x.book_links.now x.book_values.now in
    let d = c.delta_counts-counted in
    let p = c.sigma-pushed in
    let j = c.judge_matching in
    ap (λ (l : List ℕ). outcome_of (λ _. l) j.result) (same-partners c.requires.0 p.ensures j.new.list)
    ∙ j.ensures
    ∙ ap (λ (A : Instance). at 6 (judge_matching y.m.T A y.book a.sheet.now)) p.ensures.says
    ∙ ap (λ (o : Outcome (Unit {0})). o >>= λ _. judge_pushed (sides_of y) a.sheet.now) c.in_ok-check_rows.ensures
    ∙ size-told c.requires.0 d.result d.ensures.says (λ z. judge_pushed z a.sheet.now)
