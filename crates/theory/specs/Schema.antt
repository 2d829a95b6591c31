-- A schema, its paths, and when two paths are equal (source document 000, section 2). Nodes, edges and attributes are numbers.
-- The equations are a relation, so that a list of equations and a closed composition table both make a schema.
use Rattle.std.specs.Prelude.{◌≡◌, List, [], ◌∷◌, ◌++◌, ◌⊎◌, ℕ, suc, ◌<◌, length}

pub record Schema : Type 1 where
  pub nodes : ℕ
  pub edges : ℕ
  pub attributes : ℕ
  pub src : ℕ → ℕ
  pub tgt : ℕ → ℕ
  pub home : ℕ → ℕ  -- an attribute's node
  pub kind : ℕ → ℕ
  pub Equation : ℕ → List ℕ → List ℕ → Type 0  -- start, left side, right side

-- the node at which edges, followed from s on, end
abbrev pub endpoint : (ℕ → ℕ) → ℕ → List ℕ → ℕ
endpoint tgt s [] = s
endpoint tgt s (e ∷ p) = endpoint tgt (tgt e) p

-- p is a path from s: its edges exist and join up
abbrev pub IsPath : Schema → ℕ → List ℕ → Type 0
IsPath S s [] = s < S.nodes
IsPath S s (e ∷ p) = (e < S.edges) × (S.src e ≡ s) × IsPath S (S.tgt e) p

pub record IsSchema (S : Schema) : Type 0 where
  pub src_in : (e : ℕ) → e < S.edges → S.src e < S.nodes
  pub tgt_in : (e : ℕ) → e < S.edges → S.tgt e < S.nodes
  pub home_in : (a : ℕ) → a < S.attributes → S.home a < S.nodes
  pub left : (s : ℕ) (a b : List ℕ) → S.Equation s a b → IsPath S s a
  pub right : (s : ℕ) (a b : List ℕ) → S.Equation s a b → IsPath S s b
  pub ends : (s : ℕ) (a b : List ℕ) → S.Equation s a b → endpoint S.tgt s a ≡ endpoint S.tgt s b

-- a step replaces one side of an equation, inside a path from s, by its other side
pub record Step (S : Schema) (s : ℕ) (p q : List ℕ) : Type 0 where
  pub before : List ℕ
  pub after : List ℕ
  pub a : List ℕ
  pub b : List ℕ
  pub equation : S.Equation (endpoint S.tgt s before) a b ⊎ S.Equation (endpoint S.tgt s before) b a
  pub old : p ≡ before ++ (a ++ after)
  pub new : q ≡ before ++ (b ++ after)

-- two paths from s are equal if a chain of steps leads from one to the other
pub data Chain (S : Schema) (s : ℕ) : List ℕ → List ℕ → Type 0 where
  same : {p : List ℕ} → Chain S s p p
  more : {p q r : List ℕ} → Step S s p q → Chain S s q r → Chain S s p r

-- the number of its steps
abbrev pub chain_length : {S : Schema} {s : ℕ} {p q : List ℕ} → Chain S s p q → ℕ
chain_length same = 0
chain_length (more t c) = suc (chain_length c)

-- ---- the order of paths

-- lists of one length, from the left
abbrev pub Lex : List ℕ → List ℕ → Type 0
Lex l [] = ⊥
Lex [] (y ∷ m) = ⊥
Lex (x ∷ l) (y ∷ m) = (x < y) ⊎ ((x ≡ y) × Lex l m)

-- paths from one start: by length, then by edge numbers from the left
abbrev pub PathBefore : List ℕ → List ℕ → Type 0
PathBefore p q = (length p < length q) ⊎ ((length p ≡ length q) × Lex p q)

-- g is the first path of its class of equal paths from d
pub record IsFirst (S : Schema) (d : ℕ) (g : List ℕ) : Type 0 where
  pub path : IsPath S d g
  pub least : (h : List ℕ) → Chain S d g h → PathBefore h g → ⊥
