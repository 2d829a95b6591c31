-- Laws of queries: Pi and Sigma of instances that are alike are the same, so that a query has one result.
use mathlib.Core.Path.{◌≡◌, sym, ap, ◌∙◌, subst}
use mathlib.Core.List.{List, []}
use mathlib.Core.Logic.{ite}
use Prim.Native.Nat.{ℕ, ◌+◌, ◌<◌}
use native.Mathlib.Decide.{ℕ_discrete}
use native.Mathlib.Omega.{arith}
use Rattle.theory.specs.Schema.{Schema, IsSchema, endpoint}
use Rattle.theory.specs.Instance.{Instance, follow, Alike}
use Rattle.theory.specs.Mapping.{Mapping, IsMapping, Even, Bijective}
use Rattle.theory.specs.Sigma.{share, size, place, IsSigma}
use Rattle.theory.specs.Pi.{IsFamily, IsPi}
use Rattle.theory.specs.Query.{IsQuery}
use Rattle.theory.proofs.Numbering.{sum-ext}
use Rattle.theory.proofs.Schema.{path-end}
use Rattle.theory.proofs.Instance.{alike-sym, alike-trans, alike-follow}
use Rattle.theory.proofs.Sigma.{sigma_one}
use Rattle.theory.proofs.Family.{object-attribute}
use Rattle.theory.proofs.Pi.{pi_one}

-- ---- Pi

family-alike : {W : Type 0} {G : Mapping} {I J : Instance W} {d : ℕ} {x : ℕ → List ℕ → ℕ} → Alike G.S I J → IsFamily G I d x → IsFamily G J d x
family-alike {G = G} {x = x} h f = record {
  row_in = λ c g o. rw (h.count c o.node_in) at (f.row_in c g o);
  class = f.class;
  link = λ e i g o. f.link e i g o ∙ h.link e i (x (G.S.src e) g) (f.row_in (G.S.src e) g o);
}

pub pi-alike : {W : Type 0} {G : Mapping} {I J P : Instance W} → IsMapping G → Alike G.S I J → IsPi G I P → IsPi G J P
pi-alike {G = G} G-is h p =
    let b = p.by in
    record {
      components = p.components;
      row = p.row;
      by = record {
        components_are = b.components_are;
        family = λ d i n k. family-alike h (b.family d i n k);
        every = λ d i x f. b.every d i x (family-alike (alike-sym G-is.s_is h) f);
        ordered = b.ordered;
        link-in = b.link-in;
        link = b.link;
        value = λ a i n k.
            let d = G.T.home (G.attribute a) in
            let f = b.family d (G-is.t_is.home_in (G.attribute a) (G-is.attribute-in a i)) n k in
            b.value a i n k ∙ h.value a i (p.row d n (G.S.home a) []) (f.row_in (G.S.home a) [] (object-attribute G-is a i));
      };
    }

-- ---- Sigma

module _ {W : Type 0} (H : Mapping) {I J : Instance W} (h : Alike H.S I J) where
  share-alike : (d c : ℕ) → c < H.S.nodes → share H I d c ≡ share H J d c
  unfolding share
  share-alike d c i = ap (λ (n : ℕ). ite (ℕ_discrete (H.node c) d) n 0) (h.count c i)

  size-alike : (d : ℕ) → size H I d ≡ size H J d
  size-alike d = sum-ext (share H I d) (share H J d) H.S.nodes (share-alike d)

  place-alike : (c x : ℕ) → c < H.S.nodes → place H I c x ≡ place H J c x
  place-alike c x i = ap (λ (n : ℕ). n + x) (sum-ext (share H I (H.node c)) (share H J (H.node c)) c (λ b k. share-alike (H.node c) b (omega arith)))

pub sigma-alike : {W : Type 0} {H : Mapping} {I J P : Instance W} → IsMapping H
    → ((e : ℕ) → e < H.S.edges → (x : ℕ) → x < I.count (H.S.src e) → I.link e x < I.count (H.S.tgt e)) → Alike H.S I J → IsSigma H I P → IsSigma H J P
sigma-alike {H = H} {I = I} {J = J} {P = P} H-is f h s = record {
  count = λ d i. s.count d i ∙ size-alike H h d;
  link = λ c x i r e p o l g.
      let k = back c i x r in
      let b = endpoint H.S.tgt c p in
      ap (P.link e) (sym (place-alike H h c x i))
      ∙ s.link c x i k e p o l g
      ∙ place-alike H h b (follow I.link p x) (path-end H.S c p o.path)
      ∙ ap (place H J b) (alike-follow f h c p o.path x k);
  value = λ c x i r b a o l g.
      let k = back c i x r in
      ap (P.value b) (sym (place-alike H h c x i))
      ∙ s.value c x i k b a o l g
      ∙ h.value a o.attribute-in x (rw o.home_is k);
}
  where
    back : (c : ℕ) → c < H.S.nodes → (x : ℕ) → x < J.count c → x < I.count c
    back c i x r = rw (h.count c i) r

-- ---- queries

-- two results of one query are alike, whatever tables they come by; G starts where F does, and H where G ends
pub query_one : {W : Type 0} {F G H : Mapping} {I D P Q D' P' R : Instance W} → IsMapping G → IsMapping H → G.S ≡ F.S → H.S ≡ G.T → Bijective G → Even H
    → IsQuery F G H I D P Q → IsQuery F G H I D' P' R → Alike H.T Q R
query_one {G = G} {H = H} {D = D} {P = P} {D' = D'} {P' = P'} G-is H-is start middle bijective even q r =
    let s_is = G-is.s_is in
    let d : Alike G.S D D' = subst (λ (S : Schema). IsSchema S → Alike S D D') (sym start) (λ is. alike-trans is q.is_delta (alike-sym is r.is_delta)) s_is in
    let p : Alike G.T P P' = pi_one G-is bijective q.is_pi (pi-alike G-is (alike-sym s_is d) r.is_pi) in
    sigma_one H-is even (sigma-alike H-is links (subst (λ (S : Schema). Alike S P P') (sym middle) p) q.is_sigma) r.is_sigma
  where
    links : (e : ℕ) → e < H.S.edges → (x : ℕ) → x < P.count (H.S.src e) → P.link e x < P.count (H.S.tgt e)
    links = subst (λ (S : Schema). (e : ℕ) → e < S.edges → (x : ℕ) → x < P.count (S.src e) → P.link e x < P.count (S.tgt e)) (sym middle) q.is_pi.by.link-in
