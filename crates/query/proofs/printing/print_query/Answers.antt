-- `query::printing::print_query` meets its contract.
use mathlib.Core.Path.{sym, ◌∙◌, ap}
use Rattle.agreement.proofs.Query.{query_agrees}
use Rattle.steps.proofs.Texts.{printable}
use Rattle.meaning.specs.Calls.{Outcome}
use Rattle.meaning.specs.Query as queries
use Rattle.query.specs.Steps.{answered}
use Rattle.query.proofs.printing.print_query.Goals as goal

pub print-text-requires : goal.print-text-requires
print-text-requires g c =
    let z = c.requires in
    let F = z.0 in
    let i = c.args.i.now in
    let told = ap (λ (X : Outcome queries.Query). answered X i) F.says in
    (printable c.query_tables-migrated.ensures (λ N e. let a = query_agrees F.s1 F.s2 F.s3 F.s4 F.f F.g F.h i (sym told ∙ e) in (a.q.S4, a.lendable)), z.2)
