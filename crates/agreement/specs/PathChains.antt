-- Terms of the statements about chains of steps: the theory's step that three numbers name, where steps lead, the first of the shortest chains, and
-- how many steps away a path is.
use Rattle.std.specs.Prelude.{ℕ, ◌<◌, ◌≤◌, ◌≡◌, ◌↔◌, length}
use mathlib.Core.List.{List, [], ◌∷◌, Memᴰ}
use Rattle.std.proofs.Math.Option.{Option, none, some, Option-elim}
use Rattle.theory.specs.Schema as theory
use Rattle.theory.specs.Schema.{Chain, chain_length, Lex}
use Rattle.theory.specs.Pi.{Sorted}
use Rattle.meaning.specs.Lists as lists
use Rattle.meaning.specs.Schema.{Path, path, Schema, end}
use Rattle.meaning.specs.PathChain.{Step, equation_at, stepped, steps, chains}
use Rattle.meaning.specs.Sheet.{sound, on_sheet}
use Rattle.meaning.specs.Formats.{read_chain, chain_sheet}
use Rattle.meaning.specs.Views.{schema_of}
use Rattle.meaning.specs.Calls.{accepted, path_chain, in_tray}
use Rattle.agreement.specs.Paths.{EqualPaths}

-- ---- steps

module _ (S : Schema) (p q : Path) where
  -- a step of the theory puts r in the place of l, where l starts
  pub record Replaces (s : theory.Step (schema_of S) p.start p.edges q.edges) (l r : Path) : Type 0 where
    pub here : end S.graph (path p.start s.before) ≡ l.start
    pub old : s.a ≡ l.edges
    pub new : s.b ≡ r.edges

  -- the numbers t name a step from p to q: the theory's, of this equation, in this direction, with this many edges before
  pub record NamesStep (t : Step) : Type 0 where
    pub equation_in : t.equation < length S.equations
    pub direction_in : t.direction < 2
    pub starts : p.start ≡ q.start
    pub step : theory.Step (schema_of S) p.start p.edges q.edges
    pub before : length step.before ≡ t.before
    pub forth : t.direction ≡ 0 → Replaces step (equation_at S t.equation).left (equation_at S t.equation).right
    pub back : t.direction ≡ 1 → Replaces step (equation_at S t.equation).right (equation_at S t.equation).left

-- the numbers of a step, and those of all steps in a row, as written
abbrev pub step_numbers : Step → List ℕ
step_numbers t = t.equation ∷ t.direction ∷ t.before ∷ []

abbrev pub chain_numbers : List Step → List ℕ
chain_numbers c = lists.concat_map step_numbers c

abbrev pub StepBefore : Step → Step → Type 0
StepBefore t u = Lex (step_numbers t) (step_numbers u)

pub record StepsAgree (S : Schema) : Type 0 where
  -- numbers make q of p exactly where they name a step of the theory from p to q; where the theory has one, some numbers make q of p
  pub names : (p q : Path) (t : Step) → (stepped S p t ≡ some q) ↔ NamesStep S p q t
  pub each : (p q : Path) → p.start ≡ q.start → theory.Step (schema_of S) p.start p.edges q.edges → (t : Step) × (stepped S p t ≡ some q)
  -- the list of a path's steps has each of them, once, in the order of their numbers
  pub listed : (p : Path) (t : Step) → Memᴰ t (steps S p) ↔ ((q : Path) × (stepped S p t ≡ some q))
  pub in_order : (p : Path) → Sorted StepBefore (steps S p)

-- ---- chains

-- the path to which steps, one after the other, lead from p, or none
abbrev pub led_to : Schema → Path → List Step → Option Path
led_to S p [] = some p
led_to S p (t ∷ c) = Option-elim (stepped S p t) none (λ q. led_to S q c)

-- the lists of chains have each list of k steps that leads from p to q, once, in the order of all their numbers
pub record ChainsAgree (S : Schema) : Type 0 where
  pub listed : (k : ℕ) (p q : Path) (c : List Step) → Memᴰ c (chains S k p q) ↔ ((led_to S p c ≡ some q) × (length c ≡ k))
  pub in_order : (k : ℕ) (p q : Path) → Sorted (λ c d. Lex (chain_numbers c) (chain_numbers d)) (chains S k p q)

-- following c from p ends in q; no chain is shorter; of those as short none stands before it; it has at most 255 steps
pub record IsFirstChain (S : Schema) (p q : Path) (c : List Step) : Type 0 where
  pub leads : led_to S p c ≡ some q
  pub shortest : (d : Chain (schema_of S) p.start p.edges q.edges) → length c ≤ chain_length d
  pub first : (d : List Step) → led_to S p d ≡ some q → length d ≡ length c → Lex (chain_numbers d) (chain_numbers c) → ⊥
  pub few : length c ≤ 255

-- the answer for accepted sheets: none, which is no bytes, exactly for unequal paths; else the sheet of the first chain, which is read back
pub record ChainAnswers (s p q : List ℕ) (S : Schema) (P Q : Path) : Type 0 where
  pub none : (path_chain s p q ≡ accepted []) ↔ (EqualPaths S P Q → ⊥)
  -- in whatever tray: none is the answer 0, which is no chain's, and leaves every byte
  pub zero : (tray : List ℕ) → ((in_tray tray (path_chain s p q)).answer ≡ accepted 0) ↔ (EqualPaths S P Q → ⊥)
  pub untouched : path_chain s p q ≡ accepted [] → (tray : List ℕ) → in_tray tray (path_chain s p q) ≡ record { answer = accepted 0; tray = tray }
  -- paths with other starts or other ends have none
  pub apart : (P.start ≡ Q.start → end S.graph P ≡ end S.graph Q → ⊥) → path_chain s p q ≡ accepted []
  pub chain : EqualPaths S P Q → (c : List Step) × (path_chain s p q ≡ accepted (chain_sheet c)) × IsFirstChain S P Q c × (on_sheet read_chain (chain_sheet c) ≡ sound c)

-- ---- how many steps away a path is

-- p is k steps away from q: `chain` is the first chain of k steps from p to q, and none has fewer
pub record IsDistance (S : Schema) (q p : Path) (k : ℕ) : Type 0 where
  pub chain : List Step
  pub first : lists.first (chains S k p q) ≡ some chain
  pub none_shorter : (j : ℕ) → j < k → chains S j p q ≡ []
