-- The fronts of a path, by their numbers in a table of paths, and the edges behind a front.
use Prim.Native.Nat.{ℕ, zero, suc, ◌+◌, ◌-◌, ◌<◌, ◌≤◌}
use mathlib.Core.Path.{◌≡◌, sym, ap, ◌∙◌}
use mathlib.Core.Bool.{false}
use mathlib.Core.List.{List, [], ◌∷◌, ◌++◌}
use native.Mathlib.Omega.{arith}
use lib.ListN.{length, get_or, take, drop, length-append, length-drop}
use lib.Seq.{take_all, take-suc, take-append-le, get_or-drop, ext_get_or}
use Rattle.theory.specs.Numbering.{tabulate}
use Rattle.theory.proofs.Numbering.{tabulate-length, tabulate-get_or}
use Rattle.meaning.specs.Schema.{Graph, Path, path, has_loop}
use Rattle.meaning.proofs.Tabulate.{tabulate-same}
use Rattle.agreement.specs.Paths.{path_count, path_at}
use Rattle.paths.specs.declared.Paths.{Paths}
use Rattle.paths.specs.Table.{IsTable}
use Rattle.paths.specs.PathNumbers.{final, start_of, length_of, parent_of, last_of}
use Rattle.paths.proofs.PathNumbers.{not-trivial}
use Rattle.paths.proofs.PathParents.{parents, final-one}
use Rattle.chain.specs.Places.{ancestor, Prefixes, rest_edges}

-- path y is the front of path x with i edges
pub record Front (G : Graph) (x i y : ℕ) : Type 0 where
  pub below : y < path_count G
  pub is : path_at G y ≡ path (start_of G x) (take i (path_at G x).edges)

-- what stands in a list from place i on
from_place : (i : ℕ) (l : List ℕ) → tabulate (length l - i) (λ j. get_or l (i + j) 0) ≡ drop i l
from_place i l =
    let n = tabulate-length (length l - i) (λ j. get_or l (i + j) 0) in
    ext_get_or 0 _ _ (n ∙ sym (length-drop i l)) (λ j h. tabulate-get_or (length l - i) (λ k. get_or l (i + k) 0) 0 j (omega arith) ∙ sym (get_or-drop i l j 0))

module _ (G : Graph) (acyclic : has_loop G ≡ false) (p : Paths) (table : IsTable G p) where
  ancestor-front : (k i x : ℕ) → x < path_count G → length_of G x ≡ i + k → Front G x i (ancestor p.parent x k)
  ancestor-front zero i x h e = record { below = h; is = ap (path (start_of G x)) (sym (take_all i (path_at G x).edges (omega arith))) }
  ancestor-front (suc k) i x h e =
      let f = parents G acyclic x (not-trivial G acyclic x (i + k) (omega arith)) h in
      let y = parent_of G x in
      let b : y < path_count G = omega (arith, f.below) in
      let s = ap (λ (q : Path). q.start) f.is in
      let a : (path_at G x).edges ≡ (path_at G y).edges ++ (last_of G x ∷ []) = ap (λ (q : Path). q.edges) f.is in
      let n : length_of G y ≡ i + k = omega (arith, ap length a, length-append (path_at G y).edges (last_of G x ∷ []), e) in
      let r = ancestor-front k i y b n in
      let c : take i (path_at G y).edges ≡ take i (path_at G x).edges = sym (ap (take i) a ∙ take-append-le i (path_at G y).edges (last_of G x ∷ []) (omega arith)) in
      rw (table.columns.parent.each x (omega (arith, table.counted))) (record { below = r.below; is = r.is ∙ λ j. path (sym s j) (c j) })

  module _ (x : ℕ) (x_in : x < p.count) (prefix : List ℕ) (fronts : Prefixes p.parent x (get_or p.length x 0) prefix) where
    abbrev es : List ℕ
    es = (path_at G x).edges

    size : get_or p.length x 0 ≡ length es
    size = table.columns.length.each x x_in

    pub front_at : (i : ℕ) → i ≤ get_or p.length x 0 → Front G x i (get_or prefix i 0)
    front_at i h =
        let k : ℕ = get_or p.length x 0 - i in
        let e : i + k ≡ get_or p.length x 0 = omega arith in
        rw (fronts.each i k e) (ancestor-front k i x (omega (arith, table.counted)) (omega (arith, e, size)))

    -- the edge by which a front goes on
    last-at : (i : ℕ) → i < get_or p.length x 0 → get_or p.last (get_or prefix (suc i) 0) 0 ≡ get_or es i 0
    last-at i h =
        let f = front_at (suc i) h in
        let a : take (suc i) es ≡ take i es ++ (get_or es i 0 ∷ []) = take-suc es i 0 (omega (arith, size)) in
        table.columns.last.each (get_or prefix (suc i) 0) (omega (arith, f.below, table.counted))
        ∙ ap (λ (q : Path). final q.edges) f.is ∙ ap final a ∙ final-one (take i es) (get_or es i 0)

    pub rest-edges : (i : ℕ) → i ≤ get_or p.length x 0 → rest_edges p.last prefix i (get_or p.length x 0) ≡ drop i es
    rest-edges i h =
        tabulate-same (get_or p.length x 0 - i) (λ j l. let z : i + suc j ≡ suc (i + j) = omega arith in ap (λ (y : ℕ). get_or p.last (get_or prefix y 0) 0) z ∙ last-at (i + j) (omega arith))
        ∙ ap (λ (n : ℕ). tabulate (n - i) (λ j. get_or es (i + j) 0)) size ∙ from_place i es
