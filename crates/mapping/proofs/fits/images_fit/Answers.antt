-- `mapping::fits::images_fit` meets its contract.
use Rattle.std.proofs.Common.{sym, ◌∙◌}
use Rattle.schema.proofs.Decoding.{no_bool}
use Rattle.mapping.proofs.Fitting.{nodes-in, fits_by}
use Rattle.mapping.proofs.fits.images_fit.Goals.{then-nodes_fit, else-nodes_fit}
use Rattle.mapping.proofs.fits.images_fit.Goals as goal

pub edges_fit-requires : goal.edges_fit-requires
edges_fit-requires c = let p = c.requires in (p.0, p.1, nodes-in (sym c.nodes_fit.ensures ∙ c.if-nodes_fit.true), p.2)

pub returns-then-edges_fit : goal.returns-then-edges_fit
returns-then-edges_fit c =
    let a = c.args in
    elim c.if-nodes_fit.branch [
      | then-nodes_fit w ↦ rw (fits_by a.s a.t a.f, sym c.nodes_fit.ensures ∙ w.if-nodes_fit.true, sym w.edges_fit.ensures ∙ sym w.value-is ∙ c.if-edges_fit.true) c.attributes_fit.ensures
      | else-nodes_fit w ↦ absurd (no_bool (sym w.if-nodes_fit.false ∙ sym w.value-is ∙ c.if-edges_fit.true))
    ]

pub returns-else-edges_fit : goal.returns-else-edges_fit
returns-else-edges_fit c =
    let a = c.args in
    elim c.if-nodes_fit.branch [
      | then-nodes_fit w ↦ rw (fits_by a.s a.t a.f, sym c.nodes_fit.ensures ∙ w.if-nodes_fit.true, sym w.edges_fit.ensures ∙ sym w.value-is ∙ c.if-edges_fit.false) c.if-edges_fit.false
      | else-nodes_fit w ↦ rw (fits_by a.s a.t a.f, sym c.nodes_fit.ensures ∙ w.if-nodes_fit.false) c.if-edges_fit.false
    ]
