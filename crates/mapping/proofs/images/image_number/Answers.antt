-- `mapping::images::image_number` meets its contract. The invariant: from path x on, the images of the edges from the next on lead to the same number.
use Prim.Native.Nat.{ℕ, ◌+◌, ◌<◌, ◌≤◌}
use mathlib.Core.Path.{◌≡◌, sym, ap, ◌∙◌, subst}
use mathlib.Core.List.{List, ◌∷◌}
use native.Mathlib.Omega.{arith}
use lib.ListN.{get_or, take, drop}
use Rattle.std.proofs.lemmas.List.{get_or-take}
use Rattle.meaning.proofs.Tabulate.{rest_more, rest-done}
use Rattle.schema.specs.Decoded.{path_of, front_of}
use Rattle.paths.specs.PathWalks.{walk_from, WalkIn}
use Rattle.paths.proofs.PathWalks.{walk-append, within-append}
use Rattle.mapping.specs.Decoded.{image_of, no_image}
use Rattle.mapping.specs.Judged.{joined_images}
use Rattle.mapping.proofs.images.image_number.Goals.{In-loop-e}
use Rattle.mapping.proofs.images.image_number.Goals as goal

-- ---- the edge that is next
module _ (c : In-loop-e) {e : ℕ} (read : e ≡ get_or (take c.from-n.result c.args.p.edges) c.loop-e.e-index 0) where
  abbrev edges : List ℕ
  edges = (path_of c.args.p).edges

  abbrev i : ℕ
  i = c.loop-e.e-index

  here : i < c.args.p.length
  here = omega (arith, c.loop-e-test.true, c.from-n.ensures)

  edge-is : e ≡ get_or c.args.p.edges i 0
  edge-is = read ∙ get_or-take c.from-n.result c.args.p.edges i 0 (omega (arith, here, c.from-n.ensures))

  short : (get_or c.args.edge e no_image).length ≤ 15
  short = rw edge-is (c.requires.images i here)

  next : drop i edges ≡ e ∷ drop (i + 1) edges
  next = rest_more (λ k. get_or c.args.p.edges k 0) c.args.p.length i here ∙ ap (λ (d : ℕ). d ∷ drop (i + 1) edges) (sym edge-is)

  -- its image stays in the table, and so does what follows
  parts : WalkIn c.args.first.now c.args.rank.now c.loop-e.x (image_of (get_or c.args.edge e no_image))
      × WalkIn c.args.first.now c.args.rank.now (walk_from c.args.first.now c.args.rank.now c.loop-e.x (image_of (get_or c.args.edge e no_image))) (joined_images c.args.edge (drop (i + 1) edges))
  parts =
      let a = c.args in
      within-append a.first.now a.rank.now c.loop-e.x (image_of (get_or a.edge e no_image)) (joined_images a.edge (drop (i + 1) edges))
      (subst (λ (l : List ℕ). WalkIn a.first.now a.rank.now c.loop-e.x (joined_images a.edge l)) next c.loop-e.invariant.1)

  -- one edge more
  more : {length x : ℕ} → length ≡ (get_or c.args.edge e no_image).length → x ≡ walk_from c.args.first.now c.args.rank.now c.loop-e.x (front_of length (get_or c.args.edge e no_image).edges) →
      (walk_from c.args.first.now c.args.rank.now (get_or c.args.node.now c.args.p.start 0) (joined_images c.args.edge edges) ≡ walk_from c.args.first.now c.args.rank.now x (joined_images c.args.edge (drop (i + 1) edges)))
      × WalkIn c.args.first.now c.args.rank.now x (joined_images c.args.edge (drop (i + 1) edges))
  more {length} {x} l h =
      let a = c.args in
      let v = c.loop-e in
      let w : x ≡ walk_from a.first.now a.rank.now v.x (image_of (get_or a.edge e no_image)) = h ∙ rw l in (
        v.invariant.0 ∙ ap (λ (l : List ℕ). walk_from a.first.now a.rank.now v.x (joined_images a.edge l)) next ∙ walk-append a.first.now a.rank.now v.x (image_of (get_or a.edge e no_image)) (joined_images a.edge (drop (i + 1) edges)) ∙ rw w,
        rw w parts.1,
      )

pub walk-x-requires : goal.walk-x-requires
walk-x-requires c =
    let p = (goal.at.walk-x-requires c).In-loop-e in
    rw c.from-in-loop-e-2.ensures (let s = short p c.from-in-loop-e.ensures in omega arith, (parts p c.from-in-loop-e.ensures).0)

pub loop-e-preserved : goal.loop-e-preserved
loop-e-preserved c = more (goal.at.loop-e-preserved c).In-loop-e c.from-in-loop-e.ensures c.from-in-loop-e-2.ensures c.walk-x.ensures

pub returns : goal.returns
returns c =
    let a = c.args in
    let v = c.loop-e in
    let l : a.p.length ≤ v.e-index = omega (arith, c.loop-e-test.false, c.from-n.ensures, c.requires.short) in
    sym (v.invariant.0 ∙ ap (λ (l : List ℕ). walk_from a.first.now a.rank.now v.x (joined_images a.edge l)) (rest-done (λ k. get_or a.p.edges k 0) a.p.length v.e-index l))
