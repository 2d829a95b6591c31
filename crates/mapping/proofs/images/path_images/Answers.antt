-- `mapping::images::path_images` meets its contract. The invariant: the first k numbers are those of the images.
use Prim.Native.Nat.{ℕ, ◌<◌, ◌≤◌}
use mathlib.Core.Path.{◌≡◌, ◌∙◌}
use native.Mathlib.Omega.{arith}
use lib.ListN.{get_or}
use Rattle.paths.specs.Table.{Filled}
use Rattle.paths.proofs.Filling.{filled_more}
use Rattle.mapping.proofs.ImageTable.{Numbered, number_low, Turn, longer-image, numbered}
use Rattle.schema.specs.Decoded.{schema_of, front_of}
use Rattle.mapping.specs.Decoded.{mapping_of, no_image}
use Rattle.paths.specs.PathWalks.{walk_from}
use Rattle.mapping.specs.Judged.{image_number}
use Rattle.mapping.proofs.images.path_images.Goals.{In-loop-k, Start, then-k-s, else-k-s}
use Rattle.mapping.proofs.images.path_images.Goals as goal

-- ---- the number of a path's image
abbrev number : Start → ℕ → ℕ
number c = image_number (schema_of c.args.s) (schema_of c.args.t) (mapping_of c.args.s c.args.f)

module _ (c : In-loop-k) (long : c.args.s.graph.nodes ≤ c.loop-k.k) where
  turn : Turn c.requires c.loop-k.k
  turn = longer-image c.requires c.loop-k.k long c.loop-k-test.true

  module _ (n : ℕ → ℕ) (filled : Filled 256 n c.loop-k.k c.loop-k.path) {parent start : ℕ} (p : parent ≡ get_or c.args.source_paths.parent c.loop-k.k 0) (s : start ≡ get_or c.loop-k.path parent 0) where
    -- where the walk begins
    begins : start ≡ n (get_or c.args.source_paths.parent c.loop-k.k 0)
    begins = s ∙ rw p (filled.each (get_or c.args.source_paths.parent c.loop-k.k 0) turn.parent_below)

    -- and where it ends
    walked : Numbered c.args.s.graph.nodes c.args.source_paths.count c.args.source_paths.parent c.args.source_paths.last c.args.target_paths.first c.args.target_paths.rank c.args.f.node c.args.f.edge n →
        {last length w : ℕ} → last ≡ get_or c.args.source_paths.last c.loop-k.k 0 → length ≡ (get_or c.args.f.edge last no_image).length →
        w ≡ walk_from c.args.target_paths.first c.args.target_paths.rank start (front_of length (get_or c.args.f.edge last no_image).edges) → w ≡ n c.loop-k.k
    walked r e l h = h ∙ rw (begins, l, e) (r.longer c.loop-k.k long c.loop-k-test.true)

pub bounds-edge-last : goal.bounds-edge-last
bounds-edge-last c = let f = (turn (goal.at.bounds-edge-last c).In-loop-k c.if-k-s.false).last_in in let k = c.requires.schemas.source.limits.edges in let e = c.from-last.ensures in omega arith

pub walk-requires : goal.walk-requires
walk-requires c =
    let p = (goal.at.walk-requires c).In-loop-k in
    let n = number (goal.at.walk-requires c).Start in
    let f = turn p c.if-k-s.false in
    let e = begins p c.if-k-s.false n (c.loop-k.invariant n (numbered c.requires)) c.from-parent.ensures c.from-start.ensures in
    rw (c.from-n.ensures, e, c.from-last.ensures) (let s = f.short in omega arith, f.within)

pub overflow_cast-path : goal.overflow_cast-path
overflow_cast-path c =
    let p = (goal.at.overflow_cast-path c).In-loop-k in
    let n = number (goal.at.overflow_cast-path c).Start in
    let e = walked p c.if-k-s.false n (c.loop-k.invariant n (numbered c.requires)) c.from-parent.ensures c.from-start.ensures (numbered c.requires) c.from-last.ensures c.from-n.ensures c.walk.ensures in
    omega (arith, e, number_low c.requires c.loop-k.k c.loop-k-test.true)

pub loop-k-preserved : goal.loop-k-preserved
loop-k-preserved c = λ n r.
    let p = (goal.at.loop-k-preserved c).In-loop-k in
    let i = c.loop-k.invariant n r in
    let l : c.loop-k.k < 256 = omega (arith, c.loop-k-test.true, c.requires.schemas.source-paths.table.few) in
    elim c.if-k-s.branch [
      | then-k-s w ↦ rw w.path-is (filled_more i l (r.trivial c.loop-k.k w.if-k-s.true))
      | else-k-s w ↦ rw w.path-is (filled_more i l (walked p w.if-k-s.false n i w.from-parent.ensures w.from-start.ensures r w.from-last.ensures w.from-n.ensures w.walk.ensures))
    ]

pub returns : goal.returns
returns c =
    let e : c.loop-k.k ≡ c.args.source_paths.count = omega (arith, c.loop-k-test.false, c.loop-k.auto.k-end) in
    rw e at (c.loop-k.invariant (number (goal.at.returns c).Start) (numbered c.requires))
