-- The pairs of numbers that are joined behind two paths with one end: each is the two paths with the same edges behind them, and none is missed.
use Prim.Native.Nat.{ℕ, zero, suc, ◌+◌, ◌-◌, ◌<◌}
use mathlib.Core.Path.{◌≡◌, sym, ap, ◌∙◌, subst}
use mathlib.Core.Bool.{false}
use mathlib.Core.List.Memᴰ
use mathlib.Core.List.{List, [], Memᴰ}
use mathlib.Core.Logic.{◌⊎◌, inl, inr}
use native.Mathlib.Omega.{arith}
use lib.ListN.{length, get_or}
use Rattle.theory.proofs.Numbering.{tabulate-length, tabulate-get_or}
use Rattle.theory.proofs.Order.{mem-get_or, mem-position}
use Rattle.meaning.specs.Schema.{Graph, edge_lists, has_loop}
use Rattle.agreement.specs.Paths.{path_count, path_at}
use Rattle.paths.specs.PathNumbers.{end_of, first_of}
use Rattle.paths.specs.Table.{Index}
use Rattle.paths.specs.Classes.{run_pairs, follower_pairs, RunsIn}
use Rattle.paths.proofs.PathBlocks.{behind, Block, block_start, block_at, block_size, block-next}

module _ (G : Graph) (acyclic : has_loop G ≡ false) {first rank : List ℕ} (index : Index G first rank) (a b : ℕ) (ends : end_of G a ≡ end_of G b) where
  -- the n paths from x on and the n from y on are a and b with k edges behind them
  record Blocks (k x y n : ℕ) : Type 0 where
    left : Block G a k x n
    right : Block G b k y n

  blocks-next : {k x y n : ℕ} → Blocks k x y n → Blocks (suc k) (get_or first x 0) (get_or first y 0) (get_or first (x + n) 0 - get_or first x 0)
  blocks-next {k} {x} {y} {n} s =
      let l = s.left.inside in
      let r = s.right.inside in
      let p = index.firsts x (omega arith) in
      let q = index.firsts (x + n) (omega arith) in
      let t = index.firsts y (omega arith) in
      let m : first_of G (y + n) - first_of G y ≡ first_of G (x + n) - first_of G x = omega (arith, block_size G acyclic s.left, block_size G acyclic s.right, ap (λ (v : ℕ). length (edge_lists G (suc k) v)) ends) in
      rw (p, q, t) (record { left = block-next G acyclic s.left; right = subst (Block G b (suc k) (first_of G y)) m (block-next G acyclic s.right) })

  -- numbers of a and b with the same edges behind them
  pub record Together (es : List ℕ) (z : ℕ × ℕ) : Type 0 where
    pub left_in : z.0 < path_count G
    pub right_in : z.1 < path_count G
    pub left : path_at G z.0 ≡ behind G a es
    pub right : path_at G z.1 ≡ behind G b es

  run_at : {k x y n : ℕ} → Blocks k x y n → (j : ℕ) → j < n → Together (get_or (edge_lists G k (end_of G a)) j []) (x + j, y + j)
  run_at {k} s j h =
      let l = s.left.inside in
      let r = s.right.inside in
      record {
        left_in = omega arith;
        right_in = omega arith;
        left = block_at G s.left j h;
        right = block_at G s.right j h ∙ ap (λ (v : ℕ). behind G b (get_or (edge_lists G k v) j [])) (sym ends);
      }

  abbrev pair : ℕ → ℕ → ℕ → ℕ × ℕ
  pair x y j = (x + j, y + j)

  run_of : {k x y n : ℕ} → Blocks k x y n → (z : ℕ × ℕ) → Memᴰ z (run_pairs x y n) → (es : List ℕ) × Together es z
  run_of {k} {x} {y} {n} s z m =
      let t = mem-position (0, 0) _ _ m in
      let l : t.0 < n = omega (arith, t.1, tabulate-length n (pair x y)) in
      let es = get_or (edge_lists G k (end_of G a)) t.0 [] in
      (es, subst (Together es) (sym (tabulate-get_or n (pair x y) (0, 0) t.0 l) ∙ t.2) (run_at s t.0 l))

  followers-of : (d : ℕ) {k x y n : ℕ} → Blocks k x y n → (z : ℕ × ℕ) → Memᴰ z (follower_pairs first x y n d) → (es : List ℕ) × Together es z
  followers-of zero s z m = absurd (Memᴰ.not-nil m)
  followers-of (suc d) {k} {x} {y} {n} s z m = go (Memᴰ.append_cases (run_pairs x y n) m) (followers-of d (blocks-next s) z)
    where
      later : List (ℕ × ℕ)
      later = follower_pairs first (get_or first x 0) (get_or first y 0) (get_or first (x + n) 0 - get_or first x 0) d

      go : Memᴰ z (run_pairs x y n) ⊎ Memᴰ z later → (Memᴰ z later → (es : List ℕ) × Together es z) → (es : List ℕ) × Together es z
      go (inl r) ih = run_of s z r
      go (inr r) ih = ih r

  followers-in : (m d : ℕ) {k x y n : ℕ} → m < d → Blocks k x y n → (es : List ℕ) → Memᴰ es (edge_lists G (k + m) (end_of G a))
      → (z : ℕ × ℕ) × Memᴰ z (follower_pairs first x y n d) × Together es z
  followers-in m zero h s es i = absurd (omega arith)
  followers-in zero (suc d) {k} {x} {y} {n} h s es i =
      let e : k + 0 ≡ k = omega arith in
      let t = mem-position [] _ _ (subst (λ (v : ℕ). Memᴰ es (edge_lists G v (end_of G a))) e i) in
      let l : t.0 < n = omega (arith, t.1, s.left.size) in (
        pair x y t.0,
        Memᴰ.append_left _ (subst (λ (z : ℕ × ℕ). Memᴰ z (run_pairs x y n)) (tabulate-get_or n (pair x y) (0, 0) t.0 l) (mem-get_or (0, 0) (run_pairs x y n) t.0 (rw (tabulate-length n (pair x y)) l))),
        subst (λ (v : List ℕ). Together v (pair x y t.0)) t.2 (run_at s t.0 l),
      )
  followers-in (suc m) (suc d) {k} {x} {y} {n} h s es i =
      let e : k + suc m ≡ suc k + m = omega arith in
      let t = followers-in m d (omega arith) (blocks-next s) es (subst (λ (v : ℕ). Memᴰ es (edge_lists G v (end_of G a))) e i) in
      (t.0, Memᴰ.append_right (run_pairs x y n) t.1, t.2)

  runs-in : (d : ℕ) {k x y n : ℕ} → Blocks k x y n → RunsIn first x y n d
  runs-in zero s = tt
  runs-in (suc d) {k} {x} {y} {n} s =
      let l = s.left.inside in
      let r = s.right.inside in
      (omega (arith, index.few), omega (arith, index.few), omega (arith, index.firsts x (omega arith), index.firsts (x + n) (omega arith), block_size G acyclic s.left), runs-in d (blocks-next s))

  module _ (a_in : a < path_count G) (b-in : b < path_count G) where
    both : Blocks 0 a b 1
    both = record { left = block_start G a a_in; right = block_start G b b-in }

    pub pairs_of : (d : ℕ) (z : ℕ × ℕ) → Memᴰ z (follower_pairs first a b 1 d) → (es : List ℕ) × Together es z
    pairs_of d = followers-of d both

    pub pairs-in : (d : ℕ) (es : List ℕ) → length es < d → Memᴰ es (edge_lists G (length es) (end_of G a)) → (z : ℕ × ℕ) × Memᴰ z (follower_pairs first a b 1 d) × Together es z
    pairs-in d es h i = let e : length es ≡ 0 + length es = omega arith in followers-in (length es) d h both es (subst (λ (v : ℕ). Memᴰ es (edge_lists G v (end_of G a))) e i)

    pub pairs-within : (d : ℕ) → RunsIn first a b 1 d
    pairs-within d = runs-in d both
