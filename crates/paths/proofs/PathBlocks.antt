-- What follows a path by k edges stands in a row, in the order of the edges: the same edges follow two paths with one end in the same order.
use Prim.Native.Nat.{ℕ, suc, ◌+◌, ◌-◌, ◌<◌, ◌≤◌}
use mathlib.Core.Path.{◌≡◌, refl, sym, ap, ◌∙◌, fun_ext}
use mathlib.Core.Bool.{false}
use mathlib.Core.List.{List, [], ◌∷◌, ◌++◌, map, append_assoc, append-nil, map-map}
use native.Mathlib.Omega.{arith}
use lib.ListN.{length, get_or, take, drop, length-append, length-map, get_or-append}
use lib.Seq.{drop-cons, take-add, take_at, get_or-drop}
use Rattle.theory.specs.Schema.{endpoint}
use Rattle.theory.proofs.Schema.{endpoint-append}
use Rattle.meaning.specs.Lists.{concat_map}
use Rattle.meaning.specs.Schema.{Graph, Path, path, target, leaving, edge_lists, all_paths, has_loop}
use Rattle.meaning.proofs.PathLevels.{concat_map-same, concat_map-append, map-concat_map, concat_map-map, followed, longer, edge_lists-longer}
use Rattle.meaning.proofs.Lists.{get_d_map}
use Rattle.agreement.specs.Paths.{path_count, path_at}
use Rattle.paths.specs.PathNumbers.{start_of, end_of, first_of}
use Rattle.paths.proofs.PathNumbers.{rest-followed, first-low}

module _ (G : Graph) where
  -- path a with edges behind it
  abbrev pub behind : ℕ → List ℕ → Path
  behind a es = path (start_of G a) ((path_at G a).edges ++ es)

  behind-followed : (a : ℕ) (es : List ℕ) → followed G (behind a es) ≡ map (behind a) (longer G (end_of G a) es)
  behind-followed a es =
      ap (λ (n : ℕ). map (λ e. path (start_of G a) (((path_at G a).edges ++ es) ++ (e ∷ []))) (leaving G n)) (endpoint-append (target G) (start_of G a) (path_at G a).edges es)
      ∙ ap (λ (f : ℕ → Path). map f (leaving G (endpoint (target G) (end_of G a) es))) (fun_ext (λ e. ap (path (start_of G a)) (append_assoc (path_at G a).edges es (e ∷ []))))
      ∙ sym (map-map (behind a) (λ e. es ++ (e ∷ [])) (leaving G (endpoint (target G) (end_of G a) es)))

  block-longer : (a k : ℕ) → concat_map (followed G) (map (behind a) (edge_lists G k (end_of G a))) ≡ map (behind a) (edge_lists G (suc k) (end_of G a))
  block-longer a k =
      concat_map-map (followed G) (behind a) (edge_lists G k (end_of G a))
      ∙ concat_map-same _ _ (behind-followed a) (edge_lists G k (end_of G a))
      ∙ sym (map-concat_map (behind a) (longer G (end_of G a)) (edge_lists G k (end_of G a)))
      ∙ ap (map (behind a)) (sym (edge_lists-longer G k (end_of G a)))

  -- the n paths from x on are path a with k edges behind it
  pub record Block (a k x n : ℕ) : Type 0 where
    pub size : n ≡ length (edge_lists G k (end_of G a))
    pub inside : x + n ≤ path_count G
    pub rest : List Path
    pub is : drop x (all_paths G) ≡ map (behind a) (edge_lists G k (end_of G a)) ++ rest

  pub block_start : (a : ℕ) → a < path_count G → Block a 0 a 1
  block_start a h = record {
    size = refl;
    inside = omega arith;
    rest = drop (suc a) (all_paths G);
    is = drop-cons (all_paths G) a (path 0 []) h ∙ ap (λ (l : List ℕ). path (start_of G a) l ∷ drop (suc a) (all_paths G)) (sym (append-nil (path_at G a).edges));
  }

  pub block_at : {a k x n : ℕ} → Block a k x n → (j : ℕ) → j < n → path_at G (x + j) ≡ behind a (get_or (edge_lists G k (end_of G a)) j [])
  block_at {a} {k} {x} b j h =
      let l : j < length (edge_lists G k (end_of G a)) = omega (arith, b.size) in
      sym (get_or-drop x (all_paths G) j (path 0 [])) ∙ ap (λ (m : List Path). get_or m j (path 0 [])) b.is
      ∙ get_or-append (map (behind a) (edge_lists G k (end_of G a))) b.rest (path 0 []) j (omega (arith, length-map (edge_lists G k (end_of G a)) (behind a)))
      ∙ get_d_map (behind a) (edge_lists G k (end_of G a)) [] (path 0 []) j l

  module _ (acyclic : has_loop G ≡ false) where
    -- where the next block ends
    pub block_size : {a k x n : ℕ} → Block a k x n → first_of G (x + n) ≡ first_of G x + length (edge_lists G (suc k) (end_of G a))
    block_size {a} {k} {x} {n} b =
        let front = map (behind a) (edge_lists G k (end_of G a)) in
        let c : take n (drop x (all_paths G)) ≡ front = ap (take n) b.is ∙ take_at front b.rest n (length-map (edge_lists G k (end_of G a)) (behind a) ∙ sym b.size) in
        let d : concat_map (followed G) (take (x + n) (all_paths G)) ≡ concat_map (followed G) (take x (all_paths G)) ++ map (behind a) (edge_lists G (suc k) (end_of G a)) =
        ap (concat_map (followed G)) (take-add x n (all_paths G)) ∙ concat_map-append (followed G) (take x (all_paths G)) (take n (drop x (all_paths G)))
        ∙ ap (λ (l : List Path). concat_map (followed G) (take x (all_paths G)) ++ l) (ap (concat_map (followed G)) c ∙ block-longer a k) in
        omega (arith, ap length d, length-append (concat_map (followed G) (take x (all_paths G))) (map (behind a) (edge_lists G (suc k) (end_of G a))), length-map (edge_lists G (suc k) (end_of G a)) (behind a))

    pub block-next : {a k x n : ℕ} → Block a k x n → Block a (suc k) (first_of G x) (first_of G (x + n) - first_of G x)
    block-next {a} {k} {x} {n} b = record {
      size = omega (arith, block_size b);
      inside = omega (arith, block_size b, first-low G acyclic (x + n));
      rest = concat_map (followed G) b.rest;
      is = rest-followed G acyclic x ∙ ap (concat_map (followed G)) b.is ∙ concat_map-append (followed G) (map (behind a) (edge_lists G k (end_of G a))) b.rest ∙ ap (λ (l : List Path). l ++ concat_map (followed G) b.rest) (block-longer a k);
    }
