-- A walk of the table leads to the path with the walked edges behind it.
use Prim.Native.Nat.{ℕ, ◌+◌, ◌<◌}
use mathlib.Core.Path.{◌≡◌, refl, sym, ap, ◌∙◌, subst}
use mathlib.Core.Bool.{true, false, ◌&&◌}
use mathlib.Core.List.{List, [], ◌∷◌, ◌++◌, append_assoc, append-nil}
use native.Mathlib.Omega.{arith}
use lib.ListN.{length, get_or}
use lib.Dec.{ltb, eqb}
use borrow.Author.Tests.{ltb-true, eqb-true}
use Rattle.theory.specs.Schema.{endpoint}
use Rattle.meaning.specs.Schema.{Graph, Path, path, source, target, joins, is_path, has_loop}
use Rattle.meaning.proofs.Tabulate.{and_both}
use Rattle.agreement.specs.Paths.{path_count, path_at}
use Rattle.paths.specs.PathNumbers.{start_of, end_of, first_of, rank_of}
use Rattle.paths.specs.Table.{Index}
use Rattle.paths.specs.PathWalks.{walk_from, WalkIn}
use Rattle.paths.proofs.PathNumbers.{trivial-at, trivial-count, next-at}
use Rattle.paths.proofs.Filling.{next_row}

-- ---- edges walked in two parts
module _ (first rank : List ℕ) where
  pub walk-append : (x : ℕ) (a b : List ℕ) → walk_from first rank x (a ++ b) ≡ walk_from first rank (walk_from first rank x a) b
  walk-append x [] b = refl
  walk-append x (e ∷ a) b = walk-append (get_or first x 0 + get_or rank e 0) a b

  pub within-append : (x : ℕ) (a b : List ℕ) → WalkIn first rank x (a ++ b) → WalkIn first rank x a × WalkIn first rank (walk_from first rank x a) b
  within-append x [] b w = (tt, w)
  within-append x (e ∷ a) b w = let v = within-append (get_or first x 0 + get_or rank e 0) a b w.2 in ((w.0, w.1, v.0), v.1)

-- ---- where a walk leads
module _ (G : Graph) (acyclic : has_loop G ≡ false) {first rank : List ℕ} (index : Index G first rank) where
  -- path r is path x with edges behind it
  pub record Reached (x : ℕ) (es : List ℕ) (r : ℕ) : Type 0 where
    pub within : WalkIn first rank x es
    pub below : r < path_count G
    pub is : path_at G r ≡ path (start_of G x) ((path_at G x).edges ++ es)

  pub walk-reaches : (x : ℕ) (es : List ℕ) → x < path_count G → joins G (end_of G x) es ≡ true → Reached x es (walk_from first rank x es)
  walk-reaches x [] h j = record { within = tt; below = h; is = ap (path (start_of G x)) (sym (append-nil (path_at G x).edges)) }
  walk-reaches x (e ∷ es) h j =
      let a = and_both (ltb e (length G.edges) && eqb (source G e) (end_of G x)) (joins G (target G e) es) j in
      let b = and_both (ltb e (length G.edges)) (eqb (source G e) (end_of G x)) a.0 in
      let l : e < length G.edges = ltb-true e (length G.edges) b.0 in
      let n = next-at G acyclic x e h l (eqb-true (source G e) (end_of G x) b.1) in
      let z : get_or first x 0 + get_or rank e 0 ≡ first_of G x + rank_of G e = omega (arith, index.firsts x (omega arith), index.ranks e l) in
      let r = next_row G (first_of G x + rank_of G e) x e h n.1 in
      let w = walk-reaches (get_or first x 0 + get_or rank e 0) es (rw z n.0) (rw (z, r.end) a.1) in
      record {
        within = (omega (arith, index.few), omega (arith, index.edges), w.within);
        below = w.below;
        is = w.is ∙ ap (λ (y : ℕ). path (start_of G y) ((path_at G y).edges ++ es)) z ∙ ap (λ (p : Path). path p.start (p.edges ++ es)) n.1 ∙ ap (path (start_of G x)) (append_assoc (path_at G x).edges (e ∷ []) es);
      }

  -- from the trivial path at its start, a path's edges lead to its number
  pub record Numbered (p : Path) (r : ℕ) : Type 0 where
    pub within : WalkIn first rank p.start p.edges
    pub below : r < path_count G
    pub is : path_at G r ≡ p

  pub walk-number : (p : Path) → is_path G p ≡ true → Numbered p (walk_from first rank p.start p.edges)
  walk-number p h =
      let a = and_both (ltb p.start G.nodes) (joins G p.start p.edges) h in
      let s : p.start < G.nodes = ltb-true p.start G.nodes a.0 in
      let t = trivial-at G acyclic p.start s in
      let w = walk-reaches p.start p.edges (omega (arith, trivial-count G acyclic)) (subst (λ (q : Path). joins G (endpoint (target G) q.start q.edges) p.edges ≡ true) (sym t) a.1) in
      record {
        within = w.within;
        below = w.below;
        is = w.is ∙ ap (λ (q : Path). path q.start (q.edges ++ p.edges)) t;
      }
