-- The counts of paths, capped at 257, length by length.
use Prim.Native.Nat.{ℕ, zero, suc, ◌+◌, ◌-◌, ◌*◌, ◌<◌, ◌≤◌, min}
use mathlib.Core.Path.{◌≡◌, refl, sym, ap, ◌∙◌}
use mathlib.Core.Bool.{Bool, true, false, ◌||◌}
use mathlib.Core.List.{List, [], ◌∷◌, map}
use native.Mathlib.Omega.{arith}
use native.Mathlib.Numerals.{add-one, unary_clauses}
use lib.ListN.{length, get_or, set, replicate, length-set}
use lib.Dec.{eqb, ltb}
use lib.Seq.{get_or-set_same, get_or-set_other}
use borrow.Author.Tests.{eqb-true, eqb-false, lt-ltb, le-ltb, ltb-true, ltb-false}
use Rattle.meaning.specs.Lists.{upto, any, sum_of, concat_map}
use Rattle.meaning.specs.Schema.{Graph, Path, source, target, leaving, edge_lists, paths_of_length, all_paths, has_path_of, has_loop}
use Rattle.meaning.proofs.PathCounts.{sum_edges, total, total-more, sum_edges-skip, sum_edges-here, edge_lists-more, level, levels}
use Rattle.meaning.proofs.PathLevels.{followed, paths_of_length-longer}
use Rattle.schema.specs.declared.Graph as declared
use Rattle.schema.specs.Decoded.{graph_of}
use Rattle.schema.specs.Counted.{Fit, row, Few, Blank, First, Next}
use Rattle.schema.proofs.GraphEdges.{edges-count, source-at, target_at}

-- ---- loops show in counts

some_or : (a b : ℕ) → (ltb 0 a || ltb 0 b) ≡ ltb 0 (a + b)
some_or a b = go (ltb 0 a) refl (ltb 0 b) refl
  where
    go : (s : Bool) → ltb 0 a ≡ s → (t : Bool) → ltb 0 b ≡ t → (s || t) ≡ ltb 0 (a + b)
    go true p t q = let h = ltb-true 0 a p in sym (lt-ltb 0 (a + b) (omega arith))
    go false p true q = let h = ltb-true 0 b q in sym (lt-ltb 0 (a + b) (omega arith))
    go false p false q = let h = ltb-false 0 a p in let k = ltb-false 0 b q in sym (le-ltb 0 (a + b) (omega arith))

any-count : (f : ℕ → Bool) (h : ℕ → ℕ) → ((x : ℕ) → f x ≡ ltb 0 (h x)) → (l : List ℕ) → any f l ≡ ltb 0 (sum_of (map h l))
any-count f h e [] = refl
any-count f h e (x ∷ l) = rw (e x, any-count f h e l) (some_or (h x) (sum_of (map h l)))

path-count : (G : Graph) (k n : ℕ) → has_path_of G k n ≡ ltb 0 (length (edge_lists G k n))
path-count G zero n = refl
path-count G (suc k) n = any-count (λ e. has_path_of G k (target G e)) (λ e. length (edge_lists G k (target G e))) (λ e. path-count G k (target G e)) (leaving G n) ∙ ap (ltb 0) (sym (edge_lists-more G k n))

pub loop-count : (G : Graph) → has_loop G ≡ ltb 0 (length (paths_of_length G G.nodes))
loop-count G = any-count (has_path_of G G.nodes) (λ n. length (edge_lists G G.nodes n)) (path-count G G.nodes) (upto G.nodes) ∙ ap (ltb 0) (sym (level G G.nodes))

-- ---- capped sums

total-capped : (f g : ℕ → ℕ) (n : ℕ) → ((i : ℕ) → i < n → f i ≡ min 257 (g i)) → min 257 (total f n) ≡ min 257 (total g n)
total-capped f g zero h = refl
total-capped f g (suc n) h =
    let a : total f (suc n) ≡ total f n + f n = rw add-one at (total-more f n) in
    let b : total g (suc n) ≡ total g n + g n = rw add-one at (total-more g n) in
    let c = total-capped f g n (λ i l. h i (omega arith)) in
    let d = h n (omega arith) in
    rw (a, b, d) (omega arith)

sum_edges-capped : (G : Graph) (f g : ℕ → ℕ) (n k : ℕ) → ((e : ℕ) → e < k → f (target G e) ≡ min 257 (g (target G e))) → min 257 (sum_edges G f n k) ≡ min 257 (sum_edges G g n k)
sum_edges-capped G f g n zero h = refl
sum_edges-capped G f g n (suc k) h = go (eqb (source G k) n) refl (sum_edges-capped G f g n k (λ e l. h e (omega arith))) (h k (omega arith))
  where
    go : (t : Bool) → eqb (source G k) n ≡ t → min 257 (sum_edges G f n k) ≡ min 257 (sum_edges G g n k) → f (target G k) ≡ min 257 (g (target G k)) → min 257 (sum_edges G f n (suc k)) ≡ min 257 (sum_edges G g n (suc k))
    go true e c d =
        let q = eqb-true (source G k) n e in
        let a : sum_edges G f n (suc k) ≡ sum_edges G f n k + f (target G k) = rw add-one at (sum_edges-here G f n k q) in
        let b : sum_edges G g n (suc k) ≡ sum_edges G g n k + g (target G k) = rw add-one at (sum_edges-here G g n k q) in
        rw (a, b, d) (omega arith)
    go false e c d =
        let q = eqb-false (source G k) n e in
        let a : sum_edges G f n (suc k) ≡ sum_edges G f n k = rw add-one at (sum_edges-skip G f n k q) in
        let b : sum_edges G g n (suc k) ≡ sum_edges G g n k = rw add-one at (sum_edges-skip G g n k q) in
        rw (a, b) c

-- ---- where a length has no paths, no longer one has any

nothing : (l : List Path) → length l ≡ 0 → l ≡ []
nothing [] h = refl
nothing (p ∷ l) h = absurd (omega arith)

none-longer : (G : Graph) (k : ℕ) → length (paths_of_length G k) ≡ 0 → (d : ℕ) → length (paths_of_length G (k + d)) ≡ 0
none-longer G k h d = ap length (go d)
  where
    go : (d : ℕ) → paths_of_length G (k + d) ≡ []
    go zero = simp unary_clauses (nothing (paths_of_length G k) h)
    go (suc d) = simp unary_clauses (paths_of_length-longer G (k + d) ∙ ap (concat_map (followed G)) (go d))

total-rest : (f : ℕ → ℕ) (k : ℕ) → ((d : ℕ) → f (k + d) ≡ 0) → (d : ℕ) → total f (k + d) ≡ total f k
total-rest f k h zero = simp unary_clauses refl
total-rest f k h (suc d) =
    let a : total f (suc (k + d)) ≡ total f (k + d) + f (k + d) = rw add-one at (total-more f (k + d)) in
    let b = total-rest f k h d in
    let c = h d in
    simp unary_clauses (a ∙ rw (b, c) (omega arith))

-- ---- an empty tally
zeros : (n i : ℕ) → get_or {A = ℕ} (replicate n 0) i 0 ≡ 0
zeros zero i = refl
zeros (suc n) zero = refl
zeros (suc n) (suc i) = zeros n i

pub blank-start : (n : ℕ) → Blank (replicate n 0) 0
blank-start n = record { each = λ i l. zeros n i }

-- ---- the row of the next length: the first e edges have handed their targets' numbers on
pub record Handed (g : declared.Graph) (t : List ℕ) (at e : ℕ) (l : List ℕ) : Type 0 where
  pub some : e ≤ g.edges
  pub long : length l ≡ 272
  pub behind : (n : ℕ) → n < 16 → row l at n ≡ row t at n
  pub each : (n : ℕ) → n < g.nodes → row l (at + 16) n ≡ min 257 (sum_edges (graph_of g) (row t at) n e)
  pub blank : Blank l (at + 32)

pub handed-start : (g : declared.Graph) {t : List ℕ} {at : ℕ} → length t ≡ 272 → Blank t (at + 16) → Handed g t at 0 t
handed-start g {t} {at} long b = record {
  some = omega arith;
  long = long;
  behind = λ n l. refl;
  each = λ n l. b.each (at + 16 + n) (omega arith);
  blank = record { each = λ i l. b.each i (omega arith) };
}

pub handed-more : {g : declared.Graph} {t l : List ℕ} {at e sum : ℕ} → Fit g → at + 32 ≤ 272 → Handed g t at e l → e < g.edges
    → sum ≡ min 257 (row l (at + 16) (get_or g.source e 0) + row l at (get_or g.target e 0)) → Handed g t at (e + 1) (set l (at + 16 + get_or g.source e 0) sum)
handed-more {g} {t} {l} {at} {e} {sum} f room h less q = record {
  some = omega arith;
  long = length-set l (at + 16 + get_or g.source e 0) sum ∙ h.long;
  behind = λ n k. get_or-set_other l (at + 16 + get_or g.source e 0) (at + n) sum 0 (λ r. let z : at + n ≡ at + 16 + get_or g.source e 0 = r in omega arith) ∙ h.behind n k;
  each = λ n k. go n k (eqb n (get_or g.source e 0)) refl;
  blank = record { each = λ i k. get_or-set_other l (at + 16 + get_or g.source e 0) i sum 0 (λ r. let z : i ≡ at + 16 + get_or g.source e 0 = r in omega (arith, f.nodes, f.sources e less)) ∙ h.blank.each i k };
}
  where
    go : (n : ℕ) → n < g.nodes → (b : Bool) → eqb n (get_or g.source e 0) ≡ b → row (set l (at + 16 + get_or g.source e 0) sum) (at + 16) n ≡ min 257 (sum_edges (graph_of g) (row t at) n (e + 1))
    go n k true p =
        let i : n ≡ get_or g.source e 0 = eqb-true n (get_or g.source e 0) p in
        let s = sum_edges-here (graph_of g) (row t at) n e (source-at g.edges g.source g.target e less ∙ sym i) in
        let a : row t at (target (graph_of g) e) ≡ row t at (get_or g.target e 0) = ap (row t at) (target_at g.edges g.source g.target e less) in
        let b = h.each n k in
        let d = h.behind (get_or g.target e 0) (omega (arith, f.nodes, f.targets e less)) in
        let c : sum ≡ min 257 (row l (at + 16) n + row l at (get_or g.target e 0)) = rw (← i) at q in
        ap (row (set l (at + 16 + get_or g.source e 0) sum) (at + 16)) i ∙ get_or-set_same l (at + 16 + get_or g.source e 0) sum 0 (omega (arith, h.long, f.nodes, f.sources e less)) ∙ c ∙ rw (b, d, s, a) (omega arith)
    go n k false p =
        let i : n ≡ get_or g.source e 0 → ⊥ = eqb-false n (get_or g.source e 0) p in
        get_or-set_other l (at + 16 + get_or g.source e 0) (at + 16 + n) sum 0 (λ r. i (let z : at + 16 + n ≡ at + 16 + get_or g.source e 0 = r in omega arith))
        ∙ h.each n k ∙ ap (min 257) (sym (sum_edges-skip (graph_of g) (row t at) n e (λ r. i (sym r ∙ source-at g.edges g.source g.target e less))))

-- ---- the count: the paths of fewer than k edges are counted, and those of k edges tallied
pub record Levels (g : declared.Graph) (t : List ℕ) (sum k : ℕ) : Type 0 where
  pub some : k ≤ g.nodes
  pub tally : (n : ℕ) → n < g.nodes → row t (16 * k) n ≡ min 257 (length (edge_lists (graph_of g) k n))
  pub blank : Blank t (16 * k + 16)
  pub so_far : sum ≡ min 257 (total (λ j. length (paths_of_length (graph_of g) j)) k)

pub levels-start : (g : declared.Graph) {t : List ℕ} → First g.nodes t → Levels g t 0 0
levels-start g {t} f = record {
  some = omega arith;
  tally = λ n l. let place : 0 + n ≡ n = omega arith in ap (λ (i : ℕ). get_or t i 0) place ∙ f.each n l;
  blank = f.blank;
  so_far = refl;
}

module _ {g : declared.Graph} {t : List ℕ} {sum k : ℕ} (v : Levels g t sum k) where
  pub levels-few : Few g.nodes t (16 * k)
  levels-few = record { each = λ n l. omega (arith, v.tally n l) }

  -- the row, summed
  levels-here : {r : ℕ} → r ≡ min 257 (total (row t (16 * k)) g.nodes) → r ≡ min 257 (length (paths_of_length (graph_of g) k))
  levels-here e = e ∙ total-capped (row t (16 * k)) (λ n. length (edge_lists (graph_of g) k n)) g.nodes v.tally ∙ ap (min 257) (sym (level (graph_of g) k))

  pub levels-more : Fit g → k < g.nodes → {r s : ℕ} → r ≡ min 257 (total (row t (16 * k)) g.nodes) → s ≡ min 257 (sum + r) → {u : List ℕ} → Next g t (16 * k) u → Levels g u s (k + 1)
  levels-more f less {r} {s} e q {u} x = record {
    some = omega arith;
    tally = λ n l.
        let place : 16 * (k + 1) + n ≡ 16 * k + 16 + n = omega arith in
        ap (λ (i : ℕ). get_or u i 0) place
        ∙ x.each n l
        ∙ ap (λ (m : ℕ). min 257 (sum_edges (graph_of g) (row t (16 * k)) n m)) (sym (edges-count g.edges g.source g.target))
        ∙ sum_edges-capped (graph_of g) (row t (16 * k)) (λ m. length (edge_lists (graph_of g) k m)) n (length (graph_of g).edges) behind
        ∙ ap (min 257) (sym (edge_lists-more (graph_of g) k n)) ∙ ap (λ (j : ℕ). min 257 (length (edge_lists (graph_of g) j n))) (sym (add-one k));
    blank = record { each = λ i l. x.blank.each i (omega arith) };
    so_far = let a = levels-here e in let b = v.so_far in let c = total-more (λ j. length (paths_of_length (graph_of g) j)) k in q ∙ rw (a, b, c) (omega arith);
  }
    where
      behind : (e : ℕ) → e < length (graph_of g).edges → row t (16 * k) (target (graph_of g) e) ≡ min 257 (length (edge_lists (graph_of g) k (target (graph_of g) e)))
      behind e m =
          let l : e < g.edges = omega (arith, edges-count g.edges g.source g.target) in
          v.tally (target (graph_of g) e) (omega (arith, target_at g.edges g.source g.target e l, f.targets e l))

  pub levels-paths : g.nodes ≤ k → sum ≡ min 257 (length (all_paths (graph_of g)))
  levels-paths l = let e : k ≡ g.nodes = omega (arith, v.some) in v.so_far ∙ ap (λ (n : ℕ). min 257 (total (λ j. length (paths_of_length (graph_of g) j)) n)) e ∙ ap (min 257) (sym (levels (graph_of g)))

  pub levels-looped : g.nodes ≤ k → {r : ℕ} → r ≡ min 257 (total (row t (16 * k)) g.nodes) → ltb 0 r ≡ has_loop (graph_of g)
  levels-looped l {r} e =
      let n : k ≡ g.nodes = omega (arith, v.some) in
      let a : r ≡ min 257 (length (paths_of_length (graph_of g) g.nodes)) = levels-here e ∙ ap (λ (j : ℕ). min 257 (length (paths_of_length (graph_of g) j))) n in
      ap (ltb 0) a ∙ some-capped (length (paths_of_length (graph_of g) g.nodes)) ∙ sym (loop-count (graph_of g))
    where
      some-capped : (a : ℕ) → ltb 0 (min 257 a) ≡ ltb 0 a
      some-capped a = go (ltb 0 a) refl
        where
          go : (b : Bool) → ltb 0 a ≡ b → ltb 0 (min 257 a) ≡ b
          go true p = let h = ltb-true 0 a p in lt-ltb 0 (min 257 a) (omega arith)
          go false p = let h = ltb-false 0 a p in le-ltb 0 (min 257 a) (omega arith)

  -- no path has k edges
  module _ {r : ℕ} (e : r ≡ min 257 (total (row t (16 * k)) g.nodes)) (z : r ≡ 0) where
    none : (d : ℕ) → length (paths_of_length (graph_of g) (k + d)) ≡ 0
    none = none-longer (graph_of g) k (let a = levels-here e in omega arith)

    rest : g.nodes ≡ k + (g.nodes - k)
    rest = let s = v.some in omega arith

    pub stopped-paths : sum ≡ min 257 (length (all_paths (graph_of g)))
    stopped-paths =
        v.so_far
        ∙ ap (min 257) (sym (total-rest (λ j. length (paths_of_length (graph_of g) j)) k none (g.nodes - k)))
        ∙ ap (λ (n : ℕ). min 257 (total (λ j. length (paths_of_length (graph_of g) j)) n)) (sym rest)
        ∙ ap (min 257) (sym (levels (graph_of g)))

    pub stopped-looped : false ≡ has_loop (graph_of g)
    stopped-looped =
        sym (loop-count (graph_of g) ∙ ap (λ (n : ℕ). ltb 0 (length (paths_of_length (graph_of g) n))) rest ∙ ap (ltb 0) (none (g.nodes - k)))
