-- `migration::printing::print_sigma` meets its contract.
use mathlib.Core.Path.{sym, ◌∙◌}
use Rattle.agreement.proofs.Agrees.{sigma_agrees}
use Rattle.migration.proofs.Pushing.{sigma-told}
use Rattle.steps.proofs.Texts.{printable}
use Rattle.migration.proofs.printing.print_sigma.Goals as goal

pub print-text-requires : goal.print-text-requires
print-text-requires g c =
    let z = c.requires in
    let F = z.0 in
    let i = c.args.i.now in
    let told = sigma-told F.s F.t F.f i F.says in
    (printable c.sigma_tables-migrated.ensures (λ N e. let a = sigma_agrees F.s F.t F.f i (sym told ∙ e) in (a.T, a.lendable)), z.2)
