-- `migration::matchings::judge_raw` meets its contract.
use mathlib.Core.Path.{ap, ◌∙◌}
use Rattle.meaning.specs.Formats.{Instance}
use Rattle.meaning.specs.Matching.{judge_matching}
use Rattle.meaning.specs.Calls.{Outcome, ◌>>=◌, at, judge_raw}
use Rattle.migration.specs.Sides.{inputs_of, sides_of}
use Rattle.migration.proofs.Judging.{size-told}
use Rattle.migration.proofs.matchings.judge_raw.Goals as goal

pub returns : goal.returns
returns c =
    let a = c.args in
    let x = a.x in
    let y = inputs_of x.opened.now x.sides x.run_links.now x.run_values.now x.book_links.now x.book_values.now in
    let d = c.delta-pulled in
    c.judge_matching.ensures
    ∙ ap (λ (B : Instance). at 6 (judge_matching y.m.S y.run B a.sheet.now)) d.ensures.says
    ∙ ap (λ (o : Outcome (Unit {0})). o >>= λ _. judge_raw (sides_of y) a.sheet.now) c.in_ok-check_rows.ensures
    ∙ size-told c.requires.0 d.result (ap (λ (J : Instance). J.counts) d.ensures.says) (λ z. judge_raw z a.sheet.now)
