-- Laws of the composite of two mappings and of the identity: images, lifts, evenness, Delta; and what mappings with the same images share.
use mathlib.Core.Path.{◌≡◌, refl, sym, ap, ap₂, ◌∙◌}
use mathlib.Core.List.{List, [], ◌∷◌, ◌++◌, append-nil}
use Prim.Native.Nat.{ℕ, ◌<◌}
use Rattle.theory.specs.Schema.{Schema, IsSchema, IsPath}
use Rattle.theory.specs.Instance.{Instance, follow, Alike}
use Rattle.theory.specs.Mapping.{Mapping, IsMapping, image, IsLift, IsAttributeOver, Even, delta}
use Rattle.theory.specs.Composition.{composite, identity, SameImages}
use Rattle.theory.proofs.Schema.{path-start, path-edge, chain-equation, chain-trans}
use Rattle.theory.proofs.Instance.{alike-follow}
use Rattle.theory.proofs.Mapping.{image-append, image-end, image-path, image-chain, delta-follow, lift-image}

-- ---- images

pub image-image : (f g : ℕ → List ℕ) (p : List ℕ) → image g (image f p) ≡ image (λ e. image g (f e)) p
image-image f g [] = refl
image-image f g (e ∷ p) = image-append g (f e) (image f p) ∙ ap (λ (l : List ℕ). image g (f e) ++ l) (image-image f g p)

pub image-self : (p : List ℕ) → image (λ e. e ∷ []) p ≡ p
image-self [] = refl
image-self (e ∷ p) = ap (λ (l : List ℕ). e ∷ l) (image-self p)

-- ---- the identity

pub identity-is : {S : Schema} → IsSchema S → IsMapping (identity S)
identity-is {S = S} s_is = record {
  s_is = s_is;
  t_is = s_is;
  node_in = λ c h. h;
  edge_path = path-edge s_is;
  edge_end = λ e h. refl;
  equation = λ s a b r. rw (image-self a, image-self b) (chain-equation S s r);
  attribute-in = λ a h. h;
  attribute_home = λ a h. refl;
  attribute_kind = λ a h. refl;
}

-- ---- the composite

-- G, if its schema is the one that F leads to
abbrev pub after : Mapping → Mapping → Mapping
after F G = record { S = F.T; T = G.T; node = G.node; edge = G.edge; attribute = G.attribute }

module _ (F G : Mapping) (F-is : IsMapping F) (G-is : IsMapping (after F G)) where
  pub composite-is : IsMapping (composite F G)
  composite-is = record {
    s_is = F-is.s_is;
    t_is = G-is.t_is;
    node_in = λ c h. G-is.node_in (F.node c) (F-is.node_in c h);
    edge_path = λ e h. image-path G-is (F.node (F.S.src e)) (F.edge e) (F-is.edge_path e h);
    edge_end = λ e h. image-end G-is (F.node (F.S.src e)) (F.edge e) (F-is.edge_path e h) ∙ ap G.node (F-is.edge_end e h);
    equation = λ s a b r. rw (← image-image F.edge G.edge a, ← image-image F.edge G.edge b)
        (image-chain G-is (F.node s) (F-is.equation s a b r) (image-path F-is s a (F-is.s_is.left s a b r)));
    attribute-in = λ a h. G-is.attribute-in (F.attribute a) (F-is.attribute-in a h);
    attribute_home = λ a h. G-is.attribute_home (F.attribute a) (F-is.attribute-in a h) ∙ ap G.node (F-is.attribute_home a h);
    attribute_kind = λ a h. G-is.attribute_kind (F.attribute a) (F-is.attribute-in a h) ∙ F-is.attribute_kind a h;
  }

  -- a lift of a lift
  composite-lift : (c : ℕ) (r q p : List ℕ) → IsLift (after F G) (F.node c) r q → IsLift F c q p → IsLift (composite F G) c r p
  composite-lift c r q p o k = record {
    path = k.path;
    image_is = rw (← image-image F.edge G.edge p) (chain-trans (image-chain G-is (F.node c) k.image_is (image-path F-is c p k.path)) o.image_is);
  }

  -- the image along F of a lift is a lift along G
  pub lift-halfway : (c : ℕ) (r p : List ℕ) → IsLift (composite F G) c r p → IsLift (after F G) (F.node c) r (image F.edge p)
  lift-halfway c r p o = record { path = image-path F-is c p o.path; image_is = rw (image-image F.edge G.edge p) o.image_is }

  pub attribute-halfway : (c b a : ℕ) → IsAttributeOver (composite F G) c b a → IsAttributeOver (after F G) (F.node c) b (F.attribute a)
  attribute-halfway c b a o = record {
    attribute-in = F-is.attribute-in a o.attribute-in;
    home_is = F-is.attribute_home a o.attribute-in ∙ ap F.node o.home_is;
    image_is = o.image_is;
  }

  pub composite-even : Even F → Even (after F G) → Even (composite F G)
  composite-even f_even G-even = record {
    lift = λ c h r j.
        let u = G-even.lift (F.node c) (F-is.node_in c h) r j in
        let t = f_even.lift c h u.0 u.1.path in
        (t.0, composite-lift c r u.0 t.0 u.1 t.1);
    lift_one = λ c h r p q o k.
        let g = G-even.lift_one (F.node c) (F-is.node_in c h) r (image F.edge p) (image F.edge q) (lift-halfway c r p o) (lift-halfway c r q k) in
        f_even.lift_one c h (image F.edge q) p q (record { path = o.path; image_is = g }) (lift-image F c q k.path);
    attribute = λ c h b i k.
        let u = G-even.attribute (F.node c) (F-is.node_in c h) b i k in
        let t = f_even.attribute c h u.0 u.1.attribute-in u.1.home_is in
        (t.0, record { attribute-in = t.1.attribute-in; home_is = t.1.home_is; image_is = ap G.attribute t.1.image_is ∙ u.1.image_is });
    attribute_one = λ c h b a k o p.
        let g = G-even.attribute_one (F.node c) (F-is.node_in c h) b (F.attribute a) (F.attribute k) (attribute-halfway c b a o) (attribute-halfway c b k p) in
        f_even.attribute_one c h (F.attribute k) a k (record { attribute-in = o.attribute-in; home_is = o.home_is; image_is = g })
        (record { attribute-in = p.attribute-in; home_is = p.home_is; image_is = refl });
  }

-- Delta along the composite is Delta along G and then F
pub delta_composite : {W : Type 0} (F G : Mapping) (J : Instance W) → Alike F.S (delta (composite F G) J) (delta F (delta G J))
delta_composite F G J = record { count = λ c h. refl; link = λ e h x r. sym (delta-follow G J (F.edge e) x); value = λ a h x r. refl }

-- Delta of instances that are alike, of which one's links lead to rows
pub delta-of-alike : {W : Type 0} {F : Mapping} {I J : Instance W} → IsMapping F
    → ((e : ℕ) → e < F.T.edges → (x : ℕ) → x < I.count (F.T.src e) → I.link e x < I.count (F.T.tgt e)) → Alike F.T I J → Alike F.S (delta F I) (delta F J)
delta-of-alike {F = F} F-is links h = record {
  count = λ c i. h.count (F.node c) (F-is.node_in c i);
  link = λ e i x r. alike-follow links h (F.node (F.S.src e)) (F.edge e) (F-is.edge_path e i) x r;
  value = λ a i x r. h.value (F.attribute a) (F-is.attribute-in a i) x (rw (F-is.attribute_home a i) r);
}

-- ---- mappings with the same images

-- H, if its schemas are those of F
abbrev pub beside : Mapping → Mapping → Mapping
beside F H = record { S = F.S; T = F.T; node = H.node; edge = H.edge; attribute = H.attribute }

pub delta-same : {W : Type 0} (F H : Mapping) (J : Instance W) → SameImages F H → Alike F.S (delta F J) (delta H J)
delta-same F H J k = record {
  count = λ c h. ap J.count (k.node c h);
  link = λ e h x r. ap (λ (p : List ℕ). follow J.link p x) (k.edge e h);
  value = λ a h x r. ap (λ (b : ℕ). J.value b x) (k.attribute a h);
}

module _ (F H : Mapping) (k : SameImages F H) where
  pub same-sym : SameImages (beside F H) F
  same-sym = record { node = λ c h. sym (k.node c h); edge = λ e h. sym (k.edge e h); attribute = λ a h. sym (k.attribute a h) }

  image-same : (s : ℕ) (p : List ℕ) → IsPath F.S s p → image F.edge p ≡ image H.edge p
  image-same s [] h = refl
  image-same s (e ∷ p) h = ap₂ (λ (l m : List ℕ). l ++ m) (k.edge e h.0) (image-same (F.S.tgt e) p h.2)

  module _ (s_is : IsSchema F.S) where
    pub lift-same : (c : ℕ) (q p : List ℕ) → IsLift F c q p → IsLift (beside F H) c q p
    lift-same c q p o = record { path = o.path; image_is = rw (← k.node c (path-start s_is c p o.path), ← image-same c p o.path) o.image_is }

  pub mapping-same : IsMapping F → IsMapping (beside F H)
  mapping-same F-is = record {
    s_is = s_is;
    t_is = F-is.t_is;
    node_in = λ c h. rw (← k.node c h) (F-is.node_in c h);
    edge_path = λ e h. rw (← k.node (F.S.src e) (s_is.src_in e h), ← k.edge e h) (F-is.edge_path e h);
    edge_end = λ e h. rw (← k.node (F.S.src e) (s_is.src_in e h), ← k.node (F.S.tgt e) (s_is.tgt_in e h), ← k.edge e h) (F-is.edge_end e h);
    equation = λ s a b r.
        let j = s_is.left s a b r in
        rw (← k.node s (path-start s_is s a j), ← image-same s a j, ← image-same s b (s_is.right s a b r)) (F-is.equation s a b r);
    attribute-in = λ a h. rw (← k.attribute a h) (F-is.attribute-in a h);
    attribute_home = λ a h. rw (← k.attribute a h, ← k.node (F.S.home a) (s_is.home_in a h)) (F-is.attribute_home a h);
    attribute_kind = λ a h. rw (← k.attribute a h) (F-is.attribute_kind a h);
  }
    where
      s_is : IsSchema F.S
      s_is = F-is.s_is

pub attribute-same : (F H : Mapping) → SameImages F H → (c b a : ℕ) → IsAttributeOver F c b a → IsAttributeOver (beside F H) c b a
attribute-same F H k c b a o = record { attribute-in = o.attribute-in; home_is = o.home_is; image_is = sym (k.attribute a o.attribute-in) ∙ o.image_is }

pub even-same : (F H : Mapping) → SameImages F H → IsSchema F.S → Even F → Even (beside F H)
even-same F H k s_is even = record {
  lift = λ c h q j.
      let u = even.lift c h q (rw (k.node c h) j) in
      (u.0, lift-same F H k s_is c q u.0 u.1);
  lift_one = λ c h q p r o l. even.lift_one c h q p r (back c q p o) (back c q r l);
  attribute = λ c h b i j.
      let u = even.attribute c h b i (rw (k.node c h) j) in
      (u.0, attribute-same F H k c b u.0 u.1);
  attribute_one = λ c h b a l o p. even.attribute_one c h b a l (attribute-back c b a o) (attribute-back c b l p);
}
  where
    back : (c : ℕ) (q p : List ℕ) → IsLift (beside F H) c q p → IsLift F c q p
    back = lift-same (beside F H) F (same-sym F H k) s_is

    attribute-back : (c b a : ℕ) → IsAttributeOver (beside F H) c b a → IsAttributeOver F c b a
    attribute-back = attribute-same (beside F H) F (same-sym F H k)

-- ---- the laws of a category, by images

pub same-trans : {F G H : Mapping} → SameImages F G → SameImages (beside F G) H → SameImages F H
same-trans k l = record { node = λ c h. k.node c h ∙ l.node c h; edge = λ e h. k.edge e h ∙ l.edge e h; attribute = λ a h. k.attribute a h ∙ l.attribute a h }

pub composite-left : (F H G : Mapping) → SameImages F H → SameImages (composite F G) (composite H G)
composite-left F H G k = record {
  node = λ c h. ap G.node (k.node c h);
  edge = λ e h. ap (image G.edge) (k.edge e h);
  attribute = λ a h. ap G.attribute (k.attribute a h);
}

pub composite-right : (F G H : Mapping) → IsMapping F → SameImages (after F G) H → SameImages (composite F G) (composite F H)
composite-right F G H F-is k = record {
  node = λ c h. k.node (F.node c) (F-is.node_in c h);
  edge = λ e h. image-same (after F G) H k (F.node (F.S.src e)) (F.edge e) (F-is.edge_path e h);
  attribute = λ a h. k.attribute (F.attribute a) (F-is.attribute-in a h);
}

pub composite-associative : (F G H : Mapping) → SameImages (composite (composite F G) H) (composite F (composite G H))
composite-associative F G H = record { node = λ c h. refl; edge = λ e h. image-image G.edge H.edge (F.edge e); attribute = λ a h. refl }

pub composite-identity-first : (S : Schema) (F : Mapping) → SameImages (composite (identity S) F) F
composite-identity-first S F = record { node = λ c h. refl; edge = λ e h. append-nil (F.edge e); attribute = λ a h. refl }

pub composite-identity-last : (F : Mapping) (T : Schema) → SameImages (composite F (identity T)) F
composite-identity-last F T = record { node = λ c h. refl; edge = λ e h. image-self (F.edge e); attribute = λ a h. refl }
