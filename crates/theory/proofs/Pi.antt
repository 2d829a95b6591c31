-- Laws of Pi: a row is known by its family, Pi is a valid instance, and Pi is unique.
use mathlib.Core.Path.{◌≡◌, refl, sym, ap, ◌∙◌}
use mathlib.Core.List.{List, [], ◌∷◌, ◌++◌}
use Prim.Native.Nat.{ℕ, ◌<◌}
use native.Mathlib.Decide.{dec_lt}
use native.Mathlib.Omega.{arith}
use Rattle.theory.specs.Schema.{endpoint, IsPath, Lex}
use Rattle.theory.specs.Instance.{Instance, IsInstance, follow, Alike}
use Rattle.theory.specs.Mapping.{Mapping, IsMapping, Bijective}
use Rattle.theory.specs.Pi.{Same, rows_at, IsPiBy, IsPi}
use Rattle.theory.proofs.Schema.{path-start, path-end, path-edge, chain-equation, chain_back}
use Rattle.theory.proofs.Order.{lex-irreflexive, lex-asym, increasing-one}
use Rattle.theory.proofs.Instance.{follow-within}
use Rattle.theory.proofs.Family.{object-front, object-attribute, rows_at-same, components_one}

module _ {W : Type 0} {F : Mapping} {I P : Instance W} {components : ℕ → List (ℕ × List ℕ)} {row : ℕ → ℕ → ℕ → List ℕ → ℕ} (P-is : IsPiBy F I P components row) where
  -- a row is known by its rows at the components
  rows_at-one : (d : ℕ) → d < F.T.nodes → (n m : ℕ) → n < P.count d → m < P.count d → rows_at (components d) (row d n) ≡ rows_at (components d) (row d m) → n ≡ m
  rows_at-one d h n m i j e = go (dec_lt n m) (dec_lt m n)
    where
      go : Dec (n < m) → Dec (m < n) → n ≡ m
      go (yes a) b = absurd (lex-irreflexive (rows_at (components d) (row d m)) (rw e at (P-is.ordered d h n m a j)))
      go (no a) (yes b) = absurd (lex-irreflexive (rows_at (components d) (row d m)) (rw e at (P-is.ordered d h m n b i)))
      go (no a) (no b) = omega arith

  -- a path p takes the row at (c, g) from (c, p followed by g)
  pi-follow : (d : ℕ) (p : List ℕ) → IsPath F.T d p → (n : ℕ) → n < P.count d
      → Same F (endpoint F.T.tgt d p) (row (endpoint F.T.tgt d p) (follow P.link p n)) (λ c g. row d n c (p ++ g))
  pi-follow d [] j n k c g o = refl
  pi-follow d (e ∷ p) j n k c g o =
      let q : n < P.count (F.T.src e) = rw j.1 k in
      pi-follow (F.T.tgt e) p j.2 (P.link e n) (P-is.link-in e j.0 n q) c g o
      ∙ P-is.link e j.0 n q c (p ++ g) (object-front F (F.T.tgt e) p j.2 c g o)
      ∙ ap (λ (d : ℕ). row d n c (e ∷ (p ++ g))) j.1

  -- a row is known by its family
  row_one : (d : ℕ) → d < F.T.nodes → (n m : ℕ) → n < P.count d → m < P.count d → Same F d (row d n) (row d m) → n ≡ m
  row_one d h n m i j s = rows_at-one d h n m i j (rows_at-same (P-is.components_are d h) (row d n) (row d m) s)

module _ {W : Type 0} {F : Mapping} {I P Q : Instance W} {components : ℕ → List (ℕ × List ℕ)} {row row' : ℕ → ℕ → ℕ → List ℕ → ℕ} (P-is : IsPiBy F I P components row) (Q-is : IsPiBy F I Q components row') where
  -- both list the same families in the same order
  listed : (d : ℕ) → d < F.T.nodes → (P.count d ≡ Q.count d) × ((n : ℕ) → n < P.count d → rows_at (components d) (row d n) ≡ rows_at (components d) (row' d n))
  listed d h = increasing-one Lex lex-asym (P.count d) (Q.count d) (λ n. rows_at (components d) (row d n)) (λ n. rows_at (components d) (row' d n))
      (P-is.ordered d h) (Q-is.ordered d h)
      (λ n i. let r = Q-is.every d h (row d n) (P-is.family d h n i) in (r.0, r.1, sym (rows_at-same (P-is.components_are d h) (row' d r.0) (row d n) r.2)))
      (λ n i. let r = P-is.every d h (row' d n) (Q-is.family d h n i) in (r.0, r.1, sym (rows_at-same (P-is.components_are d h) (row d r.0) (row' d n) r.2)))

  -- rows of two Pi with one number stand for one family
  pi-one-rows : (d : ℕ) → d < F.T.nodes → (n : ℕ) → n < P.count d → Same F d (row d n) (row' d n)
  pi-one-rows d h n i c g o =
      let r = Q-is.every d h (row d n) (P-is.family d h n i) in
      let e = rows_at-one Q-is d h r.0 n r.1 (rw (listed d h).0 at i) (rows_at-same (P-is.components_are d h) (row' d r.0) (row d n) r.2 ∙ (listed d h).1 n i) in
      sym (rw e at (r.2 c g o))

  -- there is one Pi told by these components
  pi-by-one : IsMapping F → Bijective F → Alike F.T P Q
  pi-by-one F-is bijective = record {
    count = λ d h. (listed d h).0;
    link = λ e h n k.
        let s = F-is.t_is.src_in e h in
        let t = F-is.t_is.tgt_in e h in
        let p = P-is.link-in e h n k in
        let q : n < Q.count (F.T.src e) = rw (listed (F.T.src e) s).0 at k in
        row_one Q-is (F.T.tgt e) t (P.link e n) (Q.link e n) (rw (listed (F.T.tgt e) t).0 at p) (Q-is.link-in e h n q) (λ c g o.
        sym (pi-one-rows (F.T.tgt e) t (P.link e n) p c g o)
        ∙ P-is.link e h n k c g o
        ∙ pi-one-rows (F.T.src e) s n k c (e ∷ g) (object-front F (F.T.src e) (e ∷ []) (path-edge F-is.t_is e h) c g o)
        ∙ sym (Q-is.link e h n q c g o));
    value = λ b h n k. let u = bijective.onto b h in rw (← u.2) (value u.0 u.1 n (rw u.2 k));
  }
    where
      value : (a : ℕ) → a < F.S.attributes → (n : ℕ) → n < P.count (F.T.home (F.attribute a)) → P.value (F.attribute a) n ≡ Q.value (F.attribute a) n
      value a h n k =
          let d = F.T.home (F.attribute a) in
          let i = F-is.t_is.home_in (F.attribute a) (F-is.attribute-in a h) in
          P-is.value a h n k
          ∙ ap (I.value a) (pi-one-rows d i n k (F.S.home a) [] (object-attribute F-is a h))
          ∙ sym (Q-is.value a h n (rw (listed d i).0 at k))

-- there is one Pi, whatever components and families it is told by
pub pi_one : {W : Type 0} {F : Mapping} {I P Q : Instance W} → IsMapping F → Bijective F → IsPi F I P → IsPi F I Q → Alike F.T P Q
pi_one {F = F} {I} {P} {Q} F-is bijective p q = pi-by-one listed q.by F-is bijective
  where
    P-is : IsPiBy F I P p.components p.row
    P-is = p.by

    listed : IsPiBy F I P q.components p.row
    listed = record {
      components_are = q.by.components_are;
      family = P-is.family;
      every = P-is.every;
      ordered = λ d h n m i k. rw (components_one (q.by.components_are d h) (P-is.components_are d h)) (P-is.ordered d h n m i k);
      link-in = P-is.link-in;
      link = P-is.link;
      value = P-is.value;
    }

module _ {W : Type 0} {F : Mapping} (F-is : IsMapping F) {I P : Instance W} {components : ℕ → List (ℕ × List ℕ)} {row : ℕ → ℕ → ℕ → List ℕ → ℕ} (P-is : IsPiBy F I P components row) where
  -- Pi gives a valid instance
  pub pi-is : {InRange : ℕ → W → Type 0} → Bijective F → IsInstance InRange F.S I → IsInstance InRange F.T P
  pi-is {InRange} bijective I-is = record {
    link-in = P-is.link-in;
    value_in = λ b h n k. let u = bijective.onto b h in rw (← u.2) (value_in u.0 u.1 n (rw u.2 k));
    equation = λ s a b k n h.
        let ja = F-is.t_is.left s a b k in
        let jb = F-is.t_is.right s a b k in
        let e = F-is.t_is.ends s a b k in
        row_one P-is (endpoint F.T.tgt s a) (path-end F.T s a ja) (follow P.link a n) (follow P.link b n)
        (follow-within F.T P P-is.link-in s a ja n h) (rw e (follow-within F.T P P-is.link-in s b jb n h)) (λ c g o.
        pi-follow P-is s a ja n h c g o
        ∙ (P-is.family s (path-start F-is.t_is s a ja) n h).class c (a ++ g) (b ++ g) (object-front F s a ja c g o) (chain_back (chain-equation F.T s k) g)
        ∙ rw e (sym (pi-follow P-is s b jb n h c g (rw e at o))));
  }
    where
      value_in : (a : ℕ) → a < F.S.attributes → (n : ℕ) → n < P.count (F.T.home (F.attribute a)) → InRange (F.T.kind (F.attribute a)) (P.value (F.attribute a) n)
      value_in a h n k =
          let d = F.T.home (F.attribute a) in
          rw (P-is.value a h n k, F-is.attribute_kind a h) (I-is.value_in a h (row d n (F.S.home a) [])
          ((P-is.family d (F-is.t_is.home_in (F.attribute a) (F-is.attribute-in a h)) n k).row_in (F.S.home a) [] (object-attribute F-is a h)))
