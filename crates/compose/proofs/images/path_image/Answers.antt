-- `compose::images::path_image` meets its contract.
use Prim.Native.Nat.{ℕ, ◌<◌}
use mathlib.Core.Path.{◌≡◌, sym, ap, ◌∙◌}
use native.Mathlib.Omega.{arith}
use lib.ListN.{length, get_or, take}
use Rattle.std.proofs.lemmas.List.{get_or-take}
use Rattle.mapping.specs.Decoded.{image_of}
use Rattle.compose.proofs.Joining.{image-length, joined_to, joined-more, room}
use Rattle.compose.proofs.images.path_image.Goals.{In-loop-e}
use Rattle.compose.proofs.images.path_image.Goals as goal

-- ---- the edge that is next
module _ (c : In-loop-e) where
  here : c.loop-e.e-index < c.args.p.length
  here = omega (arith, c.loop-e-test.true, c.from-n.ensures)

  edge-is : {e : ℕ} → e ≡ get_or (take c.from-n.result c.args.p.edges) c.loop-e.e-index 0 → e ≡ get_or c.args.p.edges c.loop-e.e-index 0
  edge-is r = r ∙ get_or-take c.from-n.result c.args.p.edges c.loop-e.e-index 0 (omega (arith, here, c.from-n.ensures))

pub joined-image-requires : goal.joined-image-requires
joined-image-requires c =
    let a = c.args in
    let l = c.loop-e in
    let p = (goal.at.joined-image-requires c).In-loop-e in
    let r = room a.edge.now a.p.edges (here p) c.requires.few l.image l.invariant in
    rw (edge-is p c.from.ensures) (omega (arith, r))

pub loop-e-preserved : goal.loop-e-preserved
loop-e-preserved c =
    let a = c.args in
    let l = c.loop-e in
    let p = (goal.at.loop-e-preserved c).In-loop-e in
    c.joined-image.ensures.0 ∙ rw (l.invariant, edge-is p c.from.ensures) (sym (joined-more a.edge.now a.p.edges l.e-index))

pub returns : goal.returns
returns c =
    let a = c.args in
    let l = c.loop-e in
    let q : l.e-index ≡ a.p.length = omega (arith, c.loop-e-test.false, l.auto.e-index-end, c.from-n.ensures, c.requires.short) in
    let e : image_of l.image ≡ joined_to a.edge.now a.p.edges a.p.length = l.invariant ∙ ap (joined_to a.edge.now a.p.edges) q in
    record { says = e; short = let n = image-length l.image in let m = ap length e in omega (arith, c.requires.few) }
