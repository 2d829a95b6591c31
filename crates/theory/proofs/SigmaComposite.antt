-- Sigma along mappings with the same images, and that Sigma along a composite is isomorphic with Sigma along F and then G.
use mathlib.Core.Path.{◌≡◌, refl, sym, ap, ap₂, ◌∙◌}
use mathlib.Core.List.{[], ◌∷◌}
use mathlib.Core.Logic.{ite}
use Prim.Native.Nat.{ℕ, ◌+◌, ◌<◌}
use native.Mathlib.Decide.{ℕ_discrete}
use native.Mathlib.Omega.{arith}
use Rattle.theory.specs.Schema.{IsSchema, endpoint}
use Rattle.theory.specs.Instance.{Instance, IsInstance, follow}
use Rattle.theory.specs.Mapping.{Mapping, IsMapping, image, Even}
use Rattle.theory.specs.Sigma.{share, size, place, origin, IsSigma}
use Rattle.theory.specs.Composition.{composite, SameImages, FromOneRow, SigmaIsomorphic}
use Rattle.theory.proofs.Numbering.{sum-ext}
use Rattle.theory.proofs.Schema.{path-end}
use Rattle.theory.proofs.Instance.{follow-in}
use Rattle.theory.proofs.Mapping.{image-end, image-path, lift-image, lift-end}
use Rattle.theory.proofs.Sigma.{origin-place, sigma-place, sigma-each-row, sigma-follow}
use Rattle.theory.proofs.Composition.{after, composite-is, lift-halfway, attribute-halfway, composite-even, beside, lift-same, attribute-same}

-- ---- mappings with the same images

module _ {W : Type 0} (F H : Mapping) (k : SameImages F H) (I : Instance W) where
  size_same : (d : ℕ) → size F I d ≡ size (beside F H) I d
  unfolding share
  size_same d = sum-ext (share F I d) (share H I d) F.S.nodes (λ c h. ap (λ (n : ℕ). ite (ℕ_discrete n d) (I.count c) 0) (k.node c h))

  place_same : (c x : ℕ) → c < F.S.nodes → place F I c x ≡ place (beside F H) I c x
  unfolding share
  place_same c x h = ap (λ (n : ℕ). n + x) (sum-ext (share F I (F.node c)) (share H I (H.node c)) c (λ b i.
      ap₂ (λ (n d : ℕ). ite (ℕ_discrete n d) (I.count b) 0) (k.node b (omega arith)) (k.node c h)))

pub sigma-same : {W : Type 0} (F H : Mapping) → SameImages F H → IsSchema F.S → {I P : Instance W} → IsSigma (beside F H) I P → IsSigma F I P
sigma-same F H k s_is {I} {P} s = record {
  count = λ d h. s.count d h ∙ sym (size_same F H k I d);
  link = λ c x h r e p o i l.
      ap (P.link e) (place_same F H k I c x h)
      ∙ s.link c x h r e p (lift-same F H k s_is c (e ∷ []) p o) i (l ∙ k.node c h)
      ∙ sym (place_same F H k I (endpoint F.S.tgt c p) (follow I.link p x) (path-end F.S c p o.path));
  value = λ c x h r b a o i l. ap (P.value b) (place_same F H k I c x h) ∙ s.value c x h r b a (attribute-same F H k c b a o) i (l ∙ k.node c h);
}

-- ---- the rows of Sigma along a composite

module _ {W : Type 0} {InRange : ℕ → W → Type 0} (F G : Mapping) (F-is : IsMapping F) (G-is : IsMapping (after F G)) (f_even : Even F) (G-even : Even (after F G))
    {I P Q R : Instance W} (I-is : IsInstance InRange F.S I) (p : IsSigma F I P) (q : IsSigma (composite F G) I Q) (r : IsSigma (after F G) P R) where
  K-is : IsMapping (composite F G)
  K-is = composite-is F G F-is G-is

  K-even : Even (composite F G)
  K-even = composite-even F G F-is G-is f_even G-even

  -- the rows that come from row x of c
  abbrev along_composite : ℕ → ℕ → ℕ
  along_composite c x = place (composite F G) I c x

  abbrev along_both : ℕ → ℕ → ℕ
  along_both c x = place (after F G) P (F.node c) (place F I c x)

  from_row : (c x : ℕ) → c < F.S.nodes → x < I.count c → FromOneRow F (after F G) I P (G.node (F.node c)) (along_composite c x) (along_both c x)
  from_row c x h k = record { node = c; row = x; node_in = h; row_in = k; over = refl; along_composite = refl; along_both = refl }

  both-in : (c x : ℕ) → c < F.S.nodes → x < I.count c → along_both c x < R.count (G.node (F.node c))
  both-in c x h k = sigma-place G-is r (F.node c) (place F I c x) (F-is.node_in c h) (sigma-place F-is p c x h k)

  each : (u : ℕ) → u < G.T.nodes → (n : ℕ) → n < Q.count u → (m : ℕ) × (m < R.count u) × FromOneRow F (after F G) I P u n m
  each = sigma-each-row K-is q (λ u n. (m : ℕ) × (m < R.count u) × FromOneRow F (after F G) I P u n m) (λ c x h k. (along_both c x, both-in c x h k, from_row c x h k))

  each_back : (u : ℕ) → u < G.T.nodes → (m : ℕ) → m < R.count u → (n : ℕ) × (n < Q.count u) × FromOneRow F (after F G) I P u n m
  each_back = sigma-each-row G-is r (λ u m. (n : ℕ) × (n < Q.count u) × FromOneRow F (after F G) I P u n m) (λ d y i l.
      sigma-each-row F-is p (λ d y. (n : ℕ) × (n < Q.count (G.node d)) × FromOneRow F (after F G) I P (G.node d) n (place (after F G) P d y))
      (λ c x h k. (along_composite c x, sigma-place K-is q c x h k, from_row c x h k)) d i y l)

  module _ {u n m : ℕ} (a : FromOneRow F (after F G) I P u n m) where
    -- the row of I, by its number along the composite, and by that along both
    origin-composite : origin (composite F G) I u n ≡ (a.node, a.row)
    origin-composite = ap₂ (origin (composite F G) I) (sym a.over) (sym a.along_composite) ∙ origin-place (composite F G) I a.node a.row a.node_in a.row_in

    origin-both : origin (after F G) P u m ≡ (F.node a.node, place F I a.node a.row)
    origin-both = ap₂ (origin (after F G) P) (sym a.over) (sym a.along_both)
        ∙ origin-place (after F G) P (F.node a.node) (place F I a.node a.row) (F-is.node_in a.node a.node_in) (sigma-place F-is p a.node a.row a.node_in a.row_in)

    origin-first : origin F I (F.node a.node) (place F I a.node a.row) ≡ (a.node, a.row)
    origin-first = origin-place F I a.node a.row a.node_in a.row_in

  one : (u n m k : ℕ) → FromOneRow F (after F G) I P u n m → FromOneRow F (after F G) I P u n k → m ≡ k
  one u n m k a b = sym a.along_both ∙ ap (λ (o : ℕ × ℕ). along_both o.0 o.1) (sym (origin-composite a) ∙ origin-composite b) ∙ b.along_both

  one_back : (u n l m : ℕ) → FromOneRow F (after F G) I P u n m → FromOneRow F (after F G) I P u l m → n ≡ l
  one_back u n l m a b =
      let e = ap (λ (o : ℕ × ℕ). origin F I o.0 o.1) (sym (origin-both a) ∙ origin-both b) in
      sym a.along_composite ∙ ap (λ (o : ℕ × ℕ). along_composite o.0 o.1) (sym (origin-first a) ∙ e ∙ origin-first b) ∙ b.along_composite

  link : (e : ℕ) → e < G.T.edges → (n m : ℕ) → FromOneRow F (after F G) I P (G.T.src e) n m → FromOneRow F (after F G) I P (G.T.tgt e) (Q.link e n) (R.link e m)
  link e i n m a =
      let c = a.node in
      let x = a.row in
      let d = F.node c in
      let l = K-even.lift c a.node_in (e ∷ []) (i, sym a.over, G-is.t_is.tgt_in e i) in
      let t = l.0 in
      let o = l.1 in
      let w = image F.edge t in
      let j = image-path F-is c t o.path in
      record {
        node = endpoint F.S.tgt c t;
        row = follow I.link t x;
        node_in = path-end F.S c t o.path;
        row_in = follow-in I-is c t o.path x a.row_in;
        over = lift-end K-is c (e ∷ []) t o;
        along_composite = sym (q.link c x a.node_in a.row_in e t o i (sym a.over)) ∙ ap (Q.link e) a.along_composite;
        along_both =
            ap₂ (place (after F G) P) (sym (image-end F-is c t o.path)) (sym (sigma-follow F-is f_even I-is p w t c x a.node_in a.row_in j (lift-image F c t o.path)))
            ∙ sym (r.link d (place F I c x) (F-is.node_in c a.node_in) (sigma-place F-is p c x a.node_in a.row_in) e w (lift-halfway F G F-is G-is c (e ∷ []) t o) i (sym a.over))
            ∙ ap (R.link e) a.along_both;
      }

  value : (b : ℕ) → b < G.T.attributes → (n m : ℕ) → FromOneRow F (after F G) I P (G.T.home b) n m → Q.value b n ≡ R.value b m
  value b i n m a =
      let c = a.node in
      let x = a.row in
      let l = K-even.attribute c a.node_in b i (sym a.over) in
      let k = l.0 in
      let o = attribute-halfway F G F-is G-is c b k l.1 in
      sym (ap (Q.value b) a.along_composite)
      ∙ q.value c x a.node_in a.row_in b k l.1 i (sym a.over)
      ∙ sym (p.value c x a.node_in a.row_in (F.attribute k) k (record { attribute-in = l.1.attribute-in; home_is = l.1.home_is; image_is = refl }) o.attribute-in o.home_is)
      ∙ sym (r.value (F.node c) (place F I c x) (F-is.node_in c a.node_in) (sigma-place F-is p c x a.node_in a.row_in) b (F.attribute k) o i (sym a.over))
      ∙ ap (R.value b) a.along_both

  pub sigma_isomorphic : SigmaIsomorphic F (after F G) I P Q R
  sigma_isomorphic = record { each = each; each_back = each_back; one = λ u h. one u; one_back = λ u h. one_back u; link = link; value = value }
