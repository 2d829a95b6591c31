-- `query::tables::join_and_push` meets its contract.
use mathlib.Core.Path.{subst, ◌∙◌}
use Rattle.std.proofs.lemmas.Result.{err_from_is_err_and}
use Rattle.steps.specs.declared.open.Opened.{Opened}
use Rattle.steps.specs.Migrated.{Migrates}
use Rattle.steps.specs.Runs.{pushed_run, run_input_of}
use Rattle.pi.specs.Tables.{ListsPi}
use Rattle.pi.proofs.Tables.{lists-pi}
use Rattle.query.proofs.Joining.{pi-ready, families-listed, families-pushable, families-pushed, families-stopped}
use Rattle.query.proofs.Rooms.{room-kept}
use Rattle.query.proofs.tables.join_and_push.Goals.{After-list_families-listing}
use Rattle.query.proofs.tables.join_and_push.Goals as goal

-- the families are those of Pi
lists : (c : After-list_families-listing) → (let a = c.args in let q = a.q.now in ListsPi q.second.schema q.third.schema q.third.paths q.g a.pulled a.k.now a.links.now a.values.now c.list_families-listing.result c.list_families-listing.new.rows)
lists c = let z = c.requires in lists-pi (pi-ready z.0 z.1.pulled) c.list_families-listing.ensures (c.list_families-listing.auto.rows ∙ z.1.families)

pub list_families-listing-requires : goal.list_families-listing-requires
list_families-listing-requires c = let z = c.requires in let P = pi-ready z.0 z.1.pulled in (P.mapped, P.linked, P.gathered, z.1.families)

pub returns-in_err-check_listed : goal.returns-in_err-check_listed
returns-in_err-check_listed c =
    let p = err_from_is_err_and c.from_residual.result c.from_residual.ensures.1 in
    rw (p.1, p.2) record { says = families-stopped c.requires.0 (lists (goal.at.returns-in_err-check_listed c).After-list_families-listing) c.in_err-check_listed.ensures; writable = tt }

pub join-joined-requires : goal.join-joined-requires
join-joined-requires c = let z = c.requires in (families-listed z.0 (lists (goal.at.join-joined-requires c).After-list_families-listing) c.in_ok-check_listed.ensures, z.1.joined)

pub push_run-requires : goal.push_run-requires
push_run-requires c =
    let z = c.requires in
    let j = c.join-joined in
    rw c.between-along_h.ensures (families-pushable z.0 (lists (goal.at.push_run-requires c).After-list_families-listing) c.in_ok-check_listed.ensures j.ensures, room-kept z.1.joined j.auto.found j.auto.read, z.1.pushed)

pub returns : goal.returns
returns c =
    let j = c.join-joined in
    let p = c.push_run in
    families-pushed c.requires.0 (lists (goal.at.returns c).After-list_families-listing) c.in_ok-check_listed.ensures j.ensures
    (subst (λ (o : Opened). Migrates p.result p.new.links p.new.values (pushed_run (run_input_of o j.result j.new.found j.new.read))) c.between-along_h.ensures p.ensures)
