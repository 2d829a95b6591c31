-- `chain::levels::mark_places` meets its contract. The invariant: the first b landings are marked.
use mathlib.Core.Path.{◌≡◌, ◌∙◌}
use native.Mathlib.Omega.{arith}
use Rattle.std.specs.Prelude.{unwrap_or}
use Rattle.chain.specs.Levels.{mark}
use Rattle.chain.proofs.Marking.{places-more, places-done}
use Rattle.chain.proofs.levels.mark_places.Goals.{in-Some, in_default}
use Rattle.chain.proofs.levels.mark_places.Goals as goal

pub loop-b-preserved : goal.loop-b-preserved
loop-b-preserved c =
    let m : c.match-landing.of ≡ mark c.args.k (unwrap_or c.landing.result 256) c.loop-b.of =
    elim c.match-landing.branch [ in-Some w ↦ rw w.in-Some.is (w.of-is ∙ w.mark_path.ensures) | in_default w ↦ rw w.in_default.is w.of-is ] in
    places-more c.loop-b.invariant (omega arith) c.landing.ensures m

pub returns-after-landing : goal.returns-after-landing
returns-after-landing c =
    let m : c.match-landing.of ≡ mark c.args.k (unwrap_or c.landing.result 256) c.loop-b.of =
    elim c.match-landing.branch [ in-Some w ↦ rw w.in-Some.is (w.of-is ∙ w.mark_path.ensures) | in_default w ↦ rw w.in_default.is w.of-is ] in
    places-done (places-more c.loop-b.invariant (omega arith) c.landing.ensures m) (omega arith)
