-- How the numbers of paths go on: the paths that follow path i by one edge stand in a row from `first_of G i` on.
use Prim.Native.Nat.{ℕ, zero, suc, ◌+◌, ◌<◌, ◌≤◌}
use mathlib.Core.Path.{◌≡◌, refl, sym, ap, ◌∙◌, subst}
use mathlib.Core.Bool.{Bool, true, false}
use mathlib.Core.List.{List, [], ◌∷◌, ◌++◌, map, append_assoc, append-nil}
use native.Mathlib.Omega.{arith}
use native.Mathlib.Nat.{not-suc-le-zero}
use native.Mathlib.Numerals.{add-one}
use lib.ListN.{length, get_or, take, drop, length-append, length-map, take-append-drop, length-drop, get_or-append}
use lib.Seq.{take-suc, drop-cons, drop_at, get_or-drop, get_or-append_seam, take-length}
use lib.Dec.{ltb, eqb}
use borrow.Author.Tests.{eqb-true, eqb-false, eq-eqb, ne_eqb, ltb-true, ltb-false}
use Rattle.meaning.specs.Lists.{range, upto, cons_if, concat_map}
use Rattle.meaning.specs.Schema.{Graph, Path, path, source, leaving, edge_lists, paths_of_length, all_paths, has_loop}
use Rattle.meaning.proofs.Heights.{upto-more, filter-one}
use Rattle.meaning.proofs.PathLevels.{concat_map-append, followed, paths_of_length-longer}
use Rattle.meaning.proofs.Lists.{get_d_map, upto-length, upto-get_or}
use Rattle.agreement.specs.Paths.{path_count, path_at}
use Rattle.schema.proofs.Tallies.{loop-count}
use Rattle.paths.specs.PathNumbers.{first_of, leaving_below, rank_of, end_of, length_of}

-- ---- edges that leave a node, one edge more
module _ (G : Graph) (v k : ℕ) where
  below_more : leaving_below G v (k + 1) ≡ leaving_below G v k ++ cons_if (eqb (source G k) v) k []
  below_more = rw (upto-more k) (filter-one (λ e. eqb (source G e) v) (upto k) k)

  pub below-here : source G k ≡ v → leaving_below G v (k + 1) ≡ leaving_below G v k ++ (k ∷ [])
  below-here e = below_more ∙ rw (eq-eqb (source G k) v e)

  pub below-skip : (source G k ≡ v → ⊥) → leaving_below G v (k + 1) ≡ leaving_below G v k
  below-skip e = below_more ∙ rw (ne_eqb (source G k) v e, append-nil)

-- an edge stands at its rank among those that leave its source
rank-at : (G : Graph) (v e k : ℕ) → e < k → source G e ≡ v → (length (leaving_below G v e) < length (leaving_below G v k)) × (get_or (leaving_below G v k) (length (leaving_below G v e)) 0 ≡ e)
rank-at G v e zero l q = absurd (not-suc-le-zero l)
rank-at G v e (suc k) l q = subst (λ (m : ℕ). (r < length (leaving_below G v m)) × (get_or (leaving_below G v m) r 0 ≡ e)) (add-one k) (go (eqb e k) refl (λ m. rank-at G v e k m q))
  where
    r : ℕ
    r = length (leaving_below G v e)

    later : (b : Bool) → (r < length (leaving_below G v k)) × (get_or (leaving_below G v k) r 0 ≡ e) → (r < length (leaving_below G v k ++ cons_if b k [])) × (get_or (leaving_below G v k ++ cons_if b k []) r 0 ≡ e)
    later b h = (omega (arith, h.0, length-append (leaving_below G v k) (cons_if b k [])), get_or-append (leaving_below G v k) (cons_if b k []) 0 r h.0 ∙ h.1)

    go : (b : Bool) → eqb e k ≡ b → (e < k → (r < length (leaving_below G v k)) × (get_or (leaving_below G v k) r 0 ≡ e)) → (r < length (leaving_below G v (k + 1))) × (get_or (leaving_below G v (k + 1)) r 0 ≡ e)
    go true p ih =
        let i : e ≡ k = eqb-true e k p in
        rw (below-here G v k (rw (← i) q), ← i) (omega (arith, length-append (leaving_below G v e) (e ∷ [])), get_or-append_seam (leaving_below G v e) e [] 0)
    go false p ih = let i : e ≡ k → ⊥ = eqb-false e k p in rw (below_more G v k) (later (eqb (source G k) v) (ih (omega arith)))

-- ---- the paths: the trivial ones, and each path followed by one edge
module _ (G : Graph) (acyclic : has_loop G ≡ false) where
  none-long : paths_of_length G G.nodes ≡ []
  none-long = empty (paths_of_length G G.nodes) (ltb-false 0 (length (paths_of_length G G.nodes)) (sym (loop-count G) ∙ acyclic))
    where
      empty : (l : List Path) → length l ≤ 0 → l ≡ []
      empty [] h = refl
      empty (x ∷ l) h = absurd (not-suc-le-zero h)

  shifted : (n s : ℕ) → concat_map (paths_of_length G) (range (suc s) n) ≡ concat_map (followed G) (concat_map (paths_of_length G) (range s n))
  shifted zero s = refl
  shifted (suc n) s = rw (concat_map-append (followed G) (paths_of_length G s) (concat_map (paths_of_length G) (range (suc s) n)), ← paths_of_length-longer G s, ← shifted n (suc s))

  paths-closed : all_paths G ≡ paths_of_length G 0 ++ concat_map (followed G) (all_paths G)
  paths-closed =
      let a : concat_map (paths_of_length G) (upto (suc G.nodes)) ≡ paths_of_length G 0 ++ concat_map (followed G) (all_paths G) = ap (λ (l : List Path). paths_of_length G 0 ++ l) (shifted G.nodes 0) in
      let b : concat_map (paths_of_length G) (upto (suc G.nodes)) ≡ all_paths G ++ (paths_of_length G G.nodes ++ []) = ap (λ (n : ℕ). concat_map (paths_of_length G) (upto n)) (sym (add-one G.nodes)) ∙ ap (concat_map (paths_of_length G)) (upto-more G.nodes) ∙ concat_map-append (paths_of_length G) (upto G.nodes) (G.nodes ∷ []) in
      sym (append-nil (all_paths G)) ∙ ap (λ (l : List Path). all_paths G ++ (l ++ [])) (sym none-long) ∙ sym b ∙ a

  trivials : (l : List ℕ) → concat_map (λ n. map (path n) (edge_lists G 0 n)) l ≡ map (λ n. path n []) l
  trivials [] = refl
  trivials (n ∷ l) = ap (λ (m : List Path). path n [] ∷ m) (trivials l)

  trivials-length : length (paths_of_length G 0) ≡ G.nodes
  trivials-length = ap length (trivials (upto G.nodes)) ∙ length-map (upto G.nodes) (λ n. path n []) ∙ upto-length G.nodes

  pub trivial-count : G.nodes ≤ path_count G
  trivial-count = omega (arith, trivials-length, ap length paths-closed, length-append (paths_of_length G 0) (concat_map (followed G) (all_paths G)))

  pub trivial-at : (n : ℕ) → n < G.nodes → path_at G n ≡ path n []
  trivial-at n h =
      ap (λ (l : List Path). get_or l n (path 0 [])) paths-closed
      ∙ get_or-append (paths_of_length G 0) (concat_map (followed G) (all_paths G)) (path 0 []) n (rw trivials-length h)
      ∙ ap (λ (l : List Path). get_or l n (path 0 [])) (trivials (upto G.nodes))
      ∙ get_d_map (λ n. path n []) (upto G.nodes) 0 (path 0 []) n (rw (upto-length G.nodes) h)
      ∙ ap (λ (m : ℕ). path m []) (upto-get_or G.nodes n 0 h)

  -- a path with an edge stands behind the trivial ones
  pub not-trivial : (i n : ℕ) → length_of G i ≡ suc n → G.nodes ≤ i
  not-trivial i n e = go (ltb i G.nodes) refl
    where
      go : (b : Bool) → ltb i G.nodes ≡ b → G.nodes ≤ i
      go true q =
          let z : length_of G i ≡ 0 = ap (λ (q : Path). length q.edges) (trivial-at i (ltb-true i G.nodes q)) in
          absurd (omega (arith, z, e))
      go false q = ltb-false i G.nodes q

  split : (i : ℕ) → all_paths G ≡ (paths_of_length G 0 ++ concat_map (followed G) (take i (all_paths G))) ++ concat_map (followed G) (drop i (all_paths G))
  split i =
      paths-closed
      ∙ ap (λ (l : List Path). paths_of_length G 0 ++ concat_map (followed G) l) (sym (take-append-drop i (all_paths G)))
      ∙ ap (λ (l : List Path). paths_of_length G 0 ++ l) (concat_map-append (followed G) (take i (all_paths G)) (drop i (all_paths G)))
      ∙ sym (append_assoc (paths_of_length G 0) (concat_map (followed G) (take i (all_paths G))) (concat_map (followed G) (drop i (all_paths G))))

  front_length : (i : ℕ) → length (paths_of_length G 0 ++ concat_map (followed G) (take i (all_paths G))) ≡ first_of G i
  front_length i = omega (arith, length-append (paths_of_length G 0) (concat_map (followed G) (take i (all_paths G))), trivials-length)

  pub first-low : (i : ℕ) → first_of G i ≤ path_count G
  first-low i =
      omega (arith, ap length (split i), length-append (paths_of_length G 0 ++ concat_map (followed G) (take i (all_paths G))) (concat_map (followed G) (drop i (all_paths G))), front_length i)

  -- from the first path that follows path i on stand all that follow the paths from i on
  pub rest-followed : (i : ℕ) → drop (first_of G i) (all_paths G) ≡ concat_map (followed G) (drop i (all_paths G))
  rest-followed i =
      ap (drop (first_of G i)) (split i)
      ∙ drop_at (paths_of_length G 0 ++ concat_map (followed G) (take i (all_paths G))) (concat_map (followed G) (drop i (all_paths G))) (first_of G i) (front_length i)

  pub first-end : first_of G (path_count G) ≡ path_count G
  first-end = omega (arith, ap (λ (l : List Path). length (concat_map (followed G) l)) (take-length (all_paths G)), ap length paths-closed, length-append (paths_of_length G 0) (concat_map (followed G) (all_paths G)), trivials-length)

  pub first_more : (i : ℕ) → i < path_count G → first_of G (i + 1) ≡ first_of G i + length (leaving G (end_of G i))
  first_more i h =
      let a : concat_map (followed G) (take (i + 1) (all_paths G)) ≡ concat_map (followed G) (take i (all_paths G)) ++ (followed G (path_at G i) ++ []) =
      rw (add-one, take-suc (all_paths G) i (path 0 []) h) (concat_map-append (followed G) (take i (all_paths G)) (path_at G i ∷ [])) in
      omega (
        arith,
        ap length a,
        length-append (concat_map (followed G) (take i (all_paths G))) (followed G (path_at G i) ++ []),
        length-append (followed G (path_at G i)) [],
        length-map (leaving G (end_of G i)) (λ e. path (path_at G i).start ((path_at G i).edges ++ (e ∷ []))),
      )

  -- path i followed by edge e
  pub next-at : (i e : ℕ) → i < path_count G → e < length G.edges → source G e ≡ end_of G i →
      (first_of G i + rank_of G e < path_count G) × (path_at G (first_of G i + rank_of G e) ≡ path (path_at G i).start ((path_at G i).edges ++ (e ∷ [])))
  next-at i e h l q =
      let p = path_at G i in
      let v = end_of G i in
      let r : ℕ = length (leaving_below G v e) in
      let k : rank_of G e ≡ r = ap (λ (n : ℕ). length (leaving_below G n e)) q in
      let t = rank-at G v e (length G.edges) l q in
      let f : ℕ → Path = λ x. path p.start (p.edges ++ (x ∷ [])) in
      let m : r < length (map f (leaving G v)) = rw (length-map (leaving G v) f) t.0 in
      let a : drop (first_of G i) (all_paths G) ≡ map f (leaving G v) ++ concat_map (followed G) (drop (suc i) (all_paths G)) = rest-followed i ∙ ap (concat_map (followed G)) (drop-cons (all_paths G) i (path 0 []) h) in
      let b : path_at G (first_of G i + r) ≡ f e =
      sym (get_or-drop (first_of G i) (all_paths G) r (path 0 [])) ∙ ap (λ (x : List Path). get_or x r (path 0 [])) a
      ∙ get_or-append (map f (leaving G v)) (concat_map (followed G) (drop (suc i) (all_paths G))) (path 0 []) r m
      ∙ get_d_map f (leaving G v) 0 (path 0 []) r t.0 ∙ ap f t.1 in
      (rw k (omega (arith, length-drop (first_of G i) (all_paths G), ap length a, length-append (map f (leaving G v)) (concat_map (followed G) (drop (suc i) (all_paths G))), m)), rw k b)
