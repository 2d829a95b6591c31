-- Laws of paths, of their ends, and of equality of paths.
use mathlib.Core.Path.{◌≡◌, refl, sym, ap, ◌∙◌}
use mathlib.Core.List.{List, [], ◌∷◌, ◌++◌, append_assoc, append-nil}
use mathlib.Core.Logic.{◌⊎◌, inl, inr}
use Prim.Native.Nat.{ℕ, ◌<◌}
use Rattle.theory.specs.Schema.{Schema, IsSchema, endpoint, IsPath, Step, Chain, same, more}

-- ---- paths

pub endpoint-append : (tgt : ℕ → ℕ) (s : ℕ) (p q : List ℕ) → endpoint tgt s (p ++ q) ≡ endpoint tgt (endpoint tgt s p) q
endpoint-append tgt s [] q = refl
endpoint-append tgt s (e ∷ p) q = endpoint-append tgt (tgt e) p q

pub path-append : (S : Schema) (s : ℕ) (p q : List ℕ) → IsPath S s p → IsPath S (endpoint S.tgt s p) q → IsPath S s (p ++ q)
path-append S s [] q h k = k
path-append S s (e ∷ p) q h k = (h.0, h.1, path-append S (S.tgt e) p q h.2 k)

pub path-last : (S : Schema) (s : ℕ) (p q : List ℕ) → IsPath S s (p ++ q) → IsPath S (endpoint S.tgt s p) q
path-last S s [] q h = h
path-last S s (e ∷ p) q h = path-last S (S.tgt e) p q h.2

pub path-end : (S : Schema) (s : ℕ) (p : List ℕ) → IsPath S s p → endpoint S.tgt s p < S.nodes
path-end S s [] h = h
path-end S s (e ∷ p) h = path-end S (S.tgt e) p h.2

module _ {S : Schema} (s_is : IsSchema S) where
  pub path-start : (s : ℕ) (p : List ℕ) → IsPath S s p → s < S.nodes
  path-start s [] h = h
  path-start s (e ∷ p) h = rw h.1 at (s_is.src_in e h.0)

  pub path-first : (s : ℕ) (p q : List ℕ) → IsPath S s (p ++ q) → IsPath S s p
  path-first s [] q h = path-start s q h
  path-first s (e ∷ p) q h = (h.0, h.1, path-first (S.tgt e) p q h.2)

  pub path-edge : (e : ℕ) → e < S.edges → IsPath S (S.src e) (e ∷ [])
  path-edge e h = (h, refl, s_is.tgt_in e h)

-- ---- equality of paths

-- an equation's sides are equal
pub chain-equation : (S : Schema) (s : ℕ) {a b : List ℕ} → S.Equation s a b → Chain S s a b
chain-equation S s {a} {b} r = more (record { before = []; after = []; a = a; b = b; equation = inl r; old = sym (append-nil a); new = sym (append-nil b) }) same

pub chain-trans : {S : Schema} {s : ℕ} {p q r : List ℕ} → Chain S s p q → Chain S s q r → Chain S s p r
chain-trans same d = d
chain-trans (more t c) d = more t (chain-trans c d)

pub step-sym : {S : Schema} {s : ℕ} {p q : List ℕ} → Step S s p q → Step S s q p
step-sym t = record { before = t.before; after = t.after; a = t.b; b = t.a; equation = swap t.equation; old = t.new; new = t.old }
  where
    swap : {A B : Type 0} → A ⊎ B → B ⊎ A
    swap (inl x) = inr x
    swap (inr x) = inl x

pub chain-sym : {S : Schema} {s : ℕ} {p q : List ℕ} → Chain S s p q → Chain S s q p
chain-sym same = same
chain-sym (more t c) = chain-trans (chain-sym c) (more (step-sym t) same)

step-front : (S : Schema) (s : ℕ) (w : List ℕ) {p q : List ℕ} → Step S (endpoint S.tgt s w) p q → Step S s (w ++ p) (w ++ q)
step-front S s w t = record {
  before = w ++ t.before;
  after = t.after;
  a = t.a;
  b = t.b;
  equation = rw endpoint-append t.equation;
  old = ap (λ (l : List ℕ). w ++ l) t.old ∙ sym (append_assoc w t.before (t.a ++ t.after));
  new = ap (λ (l : List ℕ). w ++ l) t.new ∙ sym (append_assoc w t.before (t.b ++ t.after));
}

pub chain-front : (S : Schema) (s : ℕ) (w : List ℕ) {p q : List ℕ} → Chain S (endpoint S.tgt s w) p q → Chain S s (w ++ p) (w ++ q)
chain-front S s w same = same
chain-front S s w (more t c) = more (step-front S s w t) (chain-front S s w c)

step_back : {S : Schema} {s : ℕ} {p q : List ℕ} → Step S s p q → (w : List ℕ) → Step S s (p ++ w) (q ++ w)
step_back t w = record {
  before = t.before;
  after = t.after ++ w;
  a = t.a;
  b = t.b;
  equation = t.equation;
  old = rw t.old (simp append_assoc);
  new = rw t.new (simp append_assoc);
}

pub chain_back : {S : Schema} {s : ℕ} {p q : List ℕ} → Chain S s p q → (w : List ℕ) → Chain S s (p ++ w) (q ++ w)
chain_back same w = same
chain_back (more t c) w = more (step_back t w) (chain_back c w)

module _ {S : Schema} (s_is : IsSchema S) where
  -- what an equation gives, whichever way it is used
  equation-path : (s : ℕ) (a b : List ℕ) → S.Equation s a b ⊎ S.Equation s b a → IsPath S s b × (endpoint S.tgt s a ≡ endpoint S.tgt s b)
  equation-path s a b (inl r) = (s_is.right s a b r, s_is.ends s a b r)
  equation-path s a b (inr r) = (s_is.left s b a r, sym (s_is.ends s b a r))

  step-path : (s : ℕ) (p q : List ℕ) → Step S s p q → IsPath S s p → IsPath S s q × (endpoint S.tgt s p ≡ endpoint S.tgt s q)
  step-path s p q t h =
      let d = endpoint S.tgt s t.before in
      let k : IsPath S s (t.before ++ (t.a ++ t.after)) = rw t.old at h in
      let r = equation-path d t.a t.b t.equation in
      let l = path-last S d t.a t.after (path-last S s t.before (t.a ++ t.after) k) in (
        rw t.new (path-append S s t.before (t.b ++ t.after) (path-first s_is s t.before (t.a ++ t.after) k) (path-append S d t.b t.after r.0 (rw r.1 at l))),
        rw (t.old, t.new) (simp (endpoint-append, r.1)),
      )

  -- what equals a path is a path with the same end
  pub chain-path : (s : ℕ) {p q : List ℕ} → Chain S s p q → IsPath S s p → IsPath S s q × (endpoint S.tgt s p ≡ endpoint S.tgt s q)
  chain-path s same h = (h, refl)
  chain-path s (more {p} {q} t c) h =
      let a = step-path s p q t h in
      let b = chain-path s c a.0 in
      (b.0, a.1 ∙ b.1)

  -- what no step changes is the same for equal paths
  pub chain-invariant : {A : Type 0} (f : List ℕ → A) (s : ℕ) → ((p q : List ℕ) → Step S s p q → IsPath S s p → f p ≡ f q)
      → {p q : List ℕ} → Chain S s p q → IsPath S s p → f p ≡ f q
  chain-invariant f s k same h = refl
  chain-invariant f s k (more {p} {q} t c) h = k p q t h ∙ chain-invariant f s k c (step-path s p q t h).0
