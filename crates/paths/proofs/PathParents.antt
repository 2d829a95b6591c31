-- A path that is not trivial follows an earlier path by its last edge.
use Prim.Native.Nat.{ℕ, suc, ◌+◌, ◌-◌, ◌<◌, ◌≤◌}
use mathlib.Core.Path.{◌≡◌, refl, sym, ap, ◌∙◌}
use mathlib.Core.Bool.{Bool, true, false}
use mathlib.Core.List.{List, [], ◌∷◌, ◌++◌, Memᴰ}
use mathlib.Core.Logic.{inl, inr}
use native.Mathlib.Omega.{arith}
use lib.ListN.{length, drop, length-append, length-drop}
use lib.Seq.{get_or-drop}
use lib.Dec.{ltb}
use borrow.Author.Tests.{ltb-true, ltb-false}
use Rattle.theory.proofs.Order.{mem-get_or, mem-position, sorted-get_or}
use Rattle.meaning.specs.Lists.{concat_map}
use Rattle.meaning.specs.Schema.{Graph, Path, path, source, leaving, all_paths, has_loop}
use Rattle.meaning.proofs.PathLevels.{followed}
use Rattle.meaning.proofs.Lists.{concat_map-of}
use Rattle.agreement.specs.Paths.{path_count, number_of, path_at, Before}
use Rattle.agreement.proofs.Paths.{number_at, all_paths-sorted, leaving-iff}
use Rattle.paths.specs.PathNumbers.{initial, final, first_of, end_of, length_of, parent_of, last_of}
use Rattle.paths.proofs.PathNumbers.{rest-followed}

-- path i is path x followed by edge e
pub record Follows (G : Graph) (i x e : ℕ) : Type 0 where
  pub below : x < i
  pub edge : e < length G.edges
  pub joins : source G e ≡ end_of G x
  pub is : path_at G i ≡ path (path_at G x).start ((path_at G x).edges ++ (e ∷ []))

pub initial-one : (l : List ℕ) (e : ℕ) → initial (l ++ (e ∷ [])) ≡ l
initial-one [] e = refl
initial-one (x ∷ []) e = refl
initial-one (x ∷ (y ∷ l)) e = ap (λ (m : List ℕ). x ∷ m) (initial-one (y ∷ l) e)

pub final-one : (l : List ℕ) (e : ℕ) → final (l ++ (e ∷ [])) ≡ e
final-one [] e = refl
final-one (x ∷ []) e = refl
final-one (x ∷ (y ∷ l)) e = final-one (y ∷ l) e

module _ (G : Graph) where
  -- later paths are not shorter
  lengths-ascend : (x y : ℕ) → x ≤ y → y < path_count G → length_of G x ≤ length_of G y
  lengths-ascend x y l h = go (ltb x y) refl
    where
      longer : Before (path_at G x) (path_at G y) → length_of G x ≤ length_of G y
      longer (inl k) = omega arith
      longer (inr k) = let e = k.0 in omega arith

      go : (b : Bool) → ltb x y ≡ b → length_of G x ≤ length_of G y
      go true q = longer (sorted-get_or Before (path 0 []) (all_paths G) (all_paths-sorted G) x y (ltb-true x y q) h)
      go false q = let e : x ≡ y = omega (arith, ltb-false x y q) in rw e (omega arith)

  -- among those that follow the paths from i on
  record Found (i : ℕ) (p : Path) : Type 0 where
    number : ℕ
    later : i ≤ number
    within : number < path_count G
    edge : ℕ
    leaves : Memᴰ edge (leaving G (end_of G number))
    is : p ≡ path (path_at G number).start ((path_at G number).edges ++ (edge ∷ []))

  found : (i : ℕ) (p : Path) → i ≤ path_count G → Memᴰ p (concat_map (followed G) (drop i (all_paths G))) → Found i p
  found i p l m =
      let a = concat_map-of (followed G) (drop i (all_paths G)) m in
      let b = mem-position (path 0 []) _ _ a.1 in
      let e : path_at G (i + b.0) ≡ a.0 = sym (get_or-drop i (all_paths G) b.0 (path 0 [])) ∙ b.2 in
      let k : Memᴰ p (followed G (path_at G (i + b.0))) = rw e a.2 in
      let c = mathlib.Core.List.Memᴰ.of_map (λ x. path (path_at G (i + b.0)).start ((path_at G (i + b.0)).edges ++ (x ∷ []))) (leaving G (end_of G (i + b.0))) k in
      record { number = i + b.0; later = omega arith; within = omega (arith, b.1, length-drop i (all_paths G)); edge = c.0; leaves = c.1; is = sym c.2 }

  found-length : {i : ℕ} {p : Path} (f : Found i p) → length p.edges ≡ suc (length_of G f.number)
  found-length {p} f = ap (λ (q : Path). length q.edges) f.is ∙ let z = length-append (path_at G f.number).edges (f.edge ∷ []) in omega arith

  module _ (acyclic : has_loop G ≡ false) where
    in_rest : (n x : ℕ) → x ≤ n → n < path_count G → (l : List Path) → drop x (all_paths G) ≡ l → Memᴰ (path_at G n) l
    in_rest n x le h l e =
        let k : ℕ = n - x in
        let z : x + k ≡ n = omega arith in
        rw (← e, ← z, ← get_or-drop x (all_paths G) k (path 0 [])) (mem-get_or (path 0 []) (drop x (all_paths G)) k (omega (arith, length-drop x (all_paths G))))

    -- a path stands before those that follow it
    pub first-after : (i : ℕ) → i < path_count G → i < first_of G i
    first-after i h = go (ltb i (first_of G i)) refl
      where
        go : (b : Bool) → ltb i (first_of G i) ≡ b → i < first_of G i
        go true q = ltb-true i (first_of G i) q
        go false q =
            let l = ltb-false i (first_of G i) q in
            let f = found i (path_at G i) (omega arith) (in_rest i (first_of G i) l h _ (rest-followed G acyclic i)) in
            absurd (omega (arith, found-length f, lengths-ascend i f.number f.later f.within))

    pub parents : (i : ℕ) → G.nodes ≤ i → i < path_count G → Follows G i (parent_of G i) (last_of G i)
    parents i l h =
        let f = found 0 (path_at G i) (omega arith) (in_rest i (first_of G 0) (omega arith) h _ (rest-followed G acyclic 0)) in
        let s = ap (λ (q : Path). q.start) f.is in
        let a : initial (path_at G i).edges ≡ (path_at G f.number).edges = ap (λ (q : Path). initial q.edges) f.is ∙ initial-one (path_at G f.number).edges f.edge in
        let p : parent_of G i ≡ f.number = ap (λ (q : Path). number_of G q) (λ j. path (s j) (a j)) ∙ number_at G f.number f.within in
        let e : last_of G i ≡ f.edge = ap (λ (q : Path). final q.edges) f.is ∙ final-one (path_at G f.number).edges f.edge in
        let v = (leaving-iff G (end_of G f.number) f.edge).0 f.leaves in
        rw (p, e) (record { below = less f; edge = v.0; joins = v.1; is = f.is })
      where
        less : (f : Found 0 (path_at G i)) → f.number < i
        less f = go (ltb f.number i) refl
          where
            go : (b : Bool) → ltb f.number i ≡ b → f.number < i
            go true q = ltb-true f.number i q
            go false q = let k = ltb-false f.number i q in absurd (omega (arith, found-length f, lengths-ascend i f.number k f.within))
