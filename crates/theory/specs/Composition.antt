-- The composite of two mappings and the identity mapping, of the morphisms of source document 000, sections 3.1 and 3.2, which it composes without a definition;
-- and how Sigma along a composite and Sigma along F and then G correspond: as a left adjoint (definition 1) Sigma is given up to isomorphism alone.
use Rattle.std.specs.Prelude.{◌≡◌, [], ◌∷◌, ℕ, ◌<◌}
use Rattle.theory.specs.Schema.{Schema}
use Rattle.theory.specs.Instance.{Instance}
use Rattle.theory.specs.Mapping.{Mapping, image}
use Rattle.theory.specs.Sigma.{place}

-- F and then G: each node and attribute goes to its image's image, each edge to its image path's images, joined
abbrev pub composite : Mapping → Mapping → Mapping
composite F G = record {
  S = F.S;
  T = G.T;
  node = λ c. G.node (F.node c);
  edge = λ e. image G.edge (F.edge e);
  attribute = λ a. G.attribute (F.attribute a);
}

-- each node, edge and attribute of S goes to itself
abbrev pub identity : Schema → Mapping
identity S = record { S = S; T = S; node = λ c. c; edge = λ e. e ∷ []; attribute = λ a. a }

-- F and H send each node, edge and attribute of F's schema to the same
pub record SameImages (F H : Mapping) : Type 0 where
  pub node : (c : ℕ) → c < F.S.nodes → F.node c ≡ H.node c
  pub edge : (e : ℕ) → e < F.S.edges → F.edge e ≡ H.edge e
  pub attribute : (a : ℕ) → a < F.S.attributes → F.attribute a ≡ H.attribute a

-- ---- Sigma along a composite, and Sigma along F and then G

-- row n of Sigma along the composite and row m of Sigma along G of P, both in the table at u, come from one row of I; P is Sigma along F of I
pub record FromOneRow {W : Type 0} (F G : Mapping) (I P : Instance W) (u n m : ℕ) : Type 0 where
  pub node : ℕ
  pub row : ℕ
  pub node_in : node < F.S.nodes
  pub row_in : row < I.count node
  pub over : G.node (F.node node) ≡ u
  pub along_composite : place (composite F G) I node row ≡ n
  pub along_both : place G P (F.node node) (place F I node row) ≡ m

-- Q, which is Sigma along the composite, and R, which is Sigma along G of P, are isomorphic: rows that come from one row of I correspond, each with exactly
-- one; links lead corresponding rows to corresponding rows, and these have the same values
pub record SigmaIsomorphic {W : Type 0} (F G : Mapping) (I P Q R : Instance W) : Type 0 where
  pub each : (u : ℕ) → u < G.T.nodes → (n : ℕ) → n < Q.count u → (m : ℕ) × (m < R.count u) × FromOneRow F G I P u n m
  pub each_back : (u : ℕ) → u < G.T.nodes → (m : ℕ) → m < R.count u → (n : ℕ) × (n < Q.count u) × FromOneRow F G I P u n m
  pub one : (u : ℕ) → u < G.T.nodes → (n m k : ℕ) → FromOneRow F G I P u n m → FromOneRow F G I P u n k → m ≡ k
  pub one_back : (u : ℕ) → u < G.T.nodes → (n l m : ℕ) → FromOneRow F G I P u n m → FromOneRow F G I P u l m → n ≡ l
  pub link : (e : ℕ) → e < G.T.edges → (n m : ℕ) → FromOneRow F G I P (G.T.src e) n m → FromOneRow F G I P (G.T.tgt e) (Q.link e n) (R.link e m)
  pub value : (b : ℕ) → b < G.T.attributes → (n m : ℕ) → FromOneRow F G I P (G.T.home b) n m → Q.value b n ≡ R.value b m
