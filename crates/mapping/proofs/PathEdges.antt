-- The edges that a table of paths gives for a path, taken from the last back to the first, are the path's.
use Prim.Native.Nat.{ℕ, zero, suc, ◌+◌, ◌-◌, ◌≤◌, ◌<◌}
use mathlib.Core.Path.{◌≡◌, refl, sym, ap, ap₂, ◌∙◌}
use mathlib.Core.Bool.{false}
use mathlib.Core.List.{List, [], ◌∷◌, ◌++◌, append_assoc}
use native.Mathlib.Omega.{arith}
use lib.ListN.{length, get_or, set, length-append, length-set}
use lib.Seq.{get_or-set_same, get_or-set_other}
use Rattle.theory.specs.Numbering.{tabulate}
use Rattle.meaning.specs.Schema.{Graph, Path, has_loop}
use Rattle.meaning.proofs.Tabulate.{tabulate-same}
use Rattle.agreement.specs.Paths.{path_count, path_at}
use Rattle.paths.specs.declared.Paths.{Paths}
use Rattle.paths.specs.Table.{IsTable}
use Rattle.paths.specs.PathNumbers.{length_of, parent_of, last_of}
use Rattle.paths.proofs.PathNumbers.{not-trivial}
use Rattle.paths.proofs.PathParents.{parents}
use Rattle.mapping.specs.PathEdges.{edges_back, path_edges}

-- of the n edges of path i those from k on stand in their places, and path x has the first k
pub record Walked (last parent : List ℕ) (i n : ℕ) (edges : List ℕ) (k x : ℕ) : Type 0 where
  pub taken : ℕ
  pub sum : k + taken ≡ n
  pub few : n ≤ 15
  pub long : length edges ≡ 16
  pub low : x < 256
  pub so : edges_back last parent i n ≡ edges_back last parent x k ++ tabulate taken (λ j. get_or edges (k + j) 0)

module _ {last parent : List ℕ} {i n : ℕ} where
  module _ {edges : List ℕ} {k x : ℕ} (u : Walked last parent i n edges k x) where
    abbrev v : ℕ
    v = get_or last x 0

    abbrev new : List ℕ
    new = set edges (k - 1) v

    abbrev old : ℕ → ℕ
    old j = get_or edges (k + j) 0

    rest : 0 < k → v ∷ tabulate u.taken old ≡ tabulate (suc u.taken) (λ j. get_or new (k - 1 + j) 0)
    rest h =
        let z : k - 1 + 0 ≡ k - 1 = omega arith in
        let a : v ≡ get_or new (k - 1 + 0) 0 = sym (ap (λ (y : ℕ). get_or new y 0) z ∙ get_or-set_same edges (k - 1) v 0 (omega (arith, u.sum, u.few, u.long))) in
        ap₂ (λ (y : ℕ) (t : List ℕ). y ∷ t) a (tabulate-same u.taken (λ j l. one j))
      where
        one : (j : ℕ) → old j ≡ get_or new (k - 1 + suc j) 0
        one j =
            let e : k - 1 + suc j ≡ k + j = omega arith in
            sym (ap (λ (y : ℕ). get_or new y 0) e ∙ get_or-set_other edges (k - 1) (k + j) v 0 (λ q. let w : k + j ≡ k - 1 = q in omega arith))

    pub walked_more : 0 < k → {y : ℕ} → y ≡ get_or parent x 0 → y < 256 → Walked last parent i n new (k - 1) y
    walked_more h {y} e b =
        let q : k ≡ suc (k - 1) = omega arith in
        record {
          taken = suc u.taken;
          sum = omega (arith, u.sum);
          few = u.few;
          long = length-set edges (k - 1) v ∙ u.long;
          low = b;
          so = u.so
              ∙ ap (λ (z : ℕ). edges_back last parent x z ++ tabulate u.taken old) q
              ∙ append_assoc (edges_back last parent (get_or parent x 0) (k - 1)) (v ∷ []) (tabulate u.taken old)
              ∙ ap₂ (λ (z : ℕ) (t : List ℕ). edges_back last parent z (k - 1) ++ t) (sym e) (rest h);
        }

-- ---- the table of a schema's paths
no_edges : (l : List ℕ) → length l ≡ 0 → [] ≡ l
no_edges [] e = refl
no_edges (x ∷ l) e = absurd (omega arith)

module _ (G : Graph) (acyclic : has_loop G ≡ false) where
  module _ (last parent : List ℕ) (L : (i : ℕ) → i < path_count G → get_or last i 0 ≡ last_of G i) (P : (i : ℕ) → i < path_count G → get_or parent i 0 ≡ parent_of G i) where
    edges-back : (n i : ℕ) → i < path_count G → length_of G i ≡ n → edges_back last parent i n ≡ (path_at G i).edges
    edges-back zero i h e = no_edges (path_at G i).edges e
    edges-back (suc n) i h e =
        let f = parents G acyclic i (not-trivial G acyclic i n e) h in
        let a : (path_at G i).edges ≡ (path_at G (parent_of G i)).edges ++ (last_of G i ∷ []) = ap (λ (q : Path). q.edges) f.is in
        let z : length_of G i ≡ length ((path_at G (parent_of G i)).edges ++ (last_of G i ∷ [])) = ap (λ (l : List ℕ). length l) a in
        let y = length-append (path_at G (parent_of G i)).edges (last_of G i ∷ []) in
        let m : length_of G (parent_of G i) ≡ n = omega (arith, z, y, e) in
        let b : parent_of G i < i = f.below in
        let k : parent_of G i < path_count G = omega (arith, b, h) in
        rw (L i h, P i h) (ap (λ (l : List ℕ). l ++ (last_of G i ∷ [])) (edges-back n (parent_of G i) k m) ∙ sym a)

  -- a table's edges of a path are the path's
  pub edges_are : {paths : Paths} → IsTable G paths → (i : ℕ) → i < path_count G → path_edges paths i ≡ (path_at G i).edges
  edges_are {paths} T i h = edges-back paths.last paths.parent (λ k l. T.columns.last.each k (rw T.counted l)) (λ k l. T.columns.parent.each k (rw T.counted l)) (get_or paths.length i 0) i h (sym (T.columns.length.each i (rw T.counted h)))
