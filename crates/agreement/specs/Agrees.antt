-- What it means that accepted schemas, the path question and migrated tables agree with source document 000, under the row order and the limits of
-- document 01.
use Rattle.std.specs.Prelude.{ℕ, ◌<◌, ◌≤◌, ◌≡◌, true, false, ◌↔◌, length, drop}
use mathlib.Core.List.{List, [], ◌++◌, Memᴰ}
use Rattle.theory.specs.Schema.{IsSchema, IsPath, Chain}
use Rattle.theory.specs.Instance as theory_instance
use Rattle.theory.specs.Instance.{Alike, follow}
use Rattle.theory.specs.Mapping as theory_mapping
use Rattle.theory.specs.Mapping.{Even, Bijective}
use Rattle.theory.specs.Sigma.{IsSigma}
use Rattle.theory.specs.Pi.{Sorted, IsComponents, IsPi}
use Rattle.meaning.specs.Schema.{Path, Schema, end, height}
use Rattle.meaning.specs.PathEquality.{class_of, first_path}
use Rattle.meaning.specs.Category.{equal, listed_category}
use Rattle.meaning.specs.Sheet.{sound}
use Rattle.meaning.specs.Formats.{Mapping, Instance, max_components, max_rows, path_sheet, instance_sheet}
use Rattle.meaning.specs.Views.{schema_of, mapping_of, instance_of}
use Rattle.meaning.specs.Judge.{judge_path, judge_schema, judge_mapping, judge_instance}
use Rattle.meaning.specs.Calls.{refused, accepted, path_question, path_chain, Migrated, delta_tables, sigma_tables, pi_tables, in_tray}
use Rattle.agreement.specs.Paths.{IsHeight, EqualPaths, Before, ListsPaths, FirstEqual}
use Rattle.agreement.specs.Valid.{ValidInstance}

-- ---- an accepted schema

pub record SchemaAgrees (S : Schema) : Type 0 where
  pub is_schema : IsSchema (schema_of S)
  -- the list of all paths is complete and in the paper's order
  pub paths : ListsPaths S
  -- two paths are equal exactly when a chain of steps leads from one to the other; paths with other starts or ends are not
  pub equality : (p q : Path) → IsPath (schema_of S) p.start p.edges → IsPath (schema_of S) q.start q.edges → (equal (listed_category S) p q ≡ true) ↔ EqualPaths S p q
  pub apart : (p q : Path) → IsPath (schema_of S) p.start p.edges → IsPath (schema_of S) q.start q.edges
      → (p.start ≡ q.start → end S.graph p ≡ end S.graph q → ⊥) → equal (listed_category S) p q ≡ false
  -- a path's class has the paths to which a chain leads from it, in order; the first of them is the theory's
  pub class : (p : Path) → IsPath (schema_of S) p.start p.edges → (q : Path) → Memᴰ q (class_of S p) ↔ EqualPaths S p q
  pub class_in_order : (p : Path) → Sorted Before (class_of S p)
  pub first : (p : Path) → IsPath (schema_of S) p.start p.edges → FirstEqual S p (first_path S p)
  -- heights obey the paper's sentence
  pub heights : IsHeight S.graph (height S.graph)

-- the path question on accepted sheets: the sheet of a path to which a chain leads, and none that is equal stands before it
pub record PathAnswer (s p : List ℕ) (S : Schema) (P : Path) : Type 0 where
  pub first : Path
  pub answer : path_question s p ≡ accepted (path_sheet first)
  pub is-path : IsPath (schema_of S) first.start first.edges
  pub equal : EqualPaths S P first
  pub none_before : (q : Path) → EqualPaths S P q → Before q first → ⊥
  pub read_back : judge_path S.graph (path_sheet first) ≡ sound first
  -- asked again of its own answer, with a tray that holds it, the call gives it back byte for byte
  pub again : (tray : List ℕ) → length (path_sheet first) ≤ length tray
      → in_tray tray (path_question s (path_sheet first)) ≡ record { answer = accepted (length (path_sheet first)); tray = path_sheet first ++ drop (length (path_sheet first)) tray }

-- two path questions of one schema: the answers are the same exactly for equal paths; paths with other starts or other ends have different ones; and they
-- differ exactly where the question for a chain (C-11) is answered by none
pub record PathAnswers (s p q : List ℕ) (S : Schema) (P Q : Path) : Type 0 where
  pub same : (path_question s p ≡ path_question s q) ↔ EqualPaths S P Q
  pub apart : (P.start ≡ Q.start → end S.graph P ≡ end S.graph Q → ⊥) → path_question s p ≡ path_question s q → ⊥
  pub none : (path_chain s p q ≡ accepted []) ↔ (path_question s p ≡ path_question s q → ⊥)

-- ---- migrated tables: what the theory says they are, valid, and read back from their own sheets

pub record Lendable (S : Schema) (I : Instance) : Type 0 where
  pub valid : ValidInstance S I
  -- all path equations: equal paths lead each row to the same row
  pub obeys : (n : ℕ) (p q : List ℕ) → IsPath (schema_of S) n p → Chain (schema_of S) n p q
      → (x : ℕ) → x < (instance_of I).count n → follow (instance_of I).link p x ≡ follow (instance_of I).link q x
  pub lent_again : judge_instance S (instance_sheet I) ≡ sound I

-- accepted sheets s, t, f over which a migration was made, and the instance i of the schema R
pub record Inputs (s t f i : List ℕ) (S T R : Schema) (F : Mapping) (I : Instance) : Type 0 where
  pub s_accepted : judge_schema s ≡ sound S
  pub t_accepted : judge_schema t ≡ sound T
  pub f_accepted : judge_mapping (listed_category S) (listed_category T) f ≡ sound F
  pub i_accepted : judge_instance R i ≡ sound I

pub record DeltaAgrees (s t f j : List ℕ) (M : Migrated) : Type 0 where
  pub S : Schema
  pub T : Schema
  pub F : Mapping
  pub J : Instance
  pub inputs : Inputs s t f j S T T F J
  pub schema_is : M.schema ≡ S
  pub is_delta : Alike (schema_of S) (instance_of M.tables) (theory_mapping.delta (mapping_of S T F) (instance_of J))
  pub lendable : Lendable S M.tables

pub record SigmaAgrees (s t f i : List ℕ) (M : Migrated) : Type 0 where
  pub S : Schema
  pub T : Schema
  pub F : Mapping
  pub I : Instance
  pub inputs : Inputs s t f i S T S F I
  pub schema_is : M.schema ≡ T
  pub is-even : Even (mapping_of S T F)
  pub is_sigma : IsSigma (mapping_of S T F) (instance_of I) (instance_of M.tables)
  pub lendable : Lendable T M.tables

pub record PiAgrees (s t f i : List ℕ) (M : Migrated) : Type 0 where
  pub S : Schema
  pub T : Schema
  pub F : Mapping
  pub I : Instance
  pub inputs : Inputs s t f i S T S F I
  pub schema_is : M.schema ≡ T
  pub is-bijective : Bijective (mapping_of S T F)
  pub is_pi : IsPi (mapping_of S T F) (instance_of I) (instance_of M.tables)
  pub lendable : Lendable T M.tables

-- ---- which refusal of all sheets together, or a result, a migration gives on accepted sheets; F and the instance are the theory's

-- Delta's tables have more than 512 rows
abbrev pub DeltaOverfull : theory_mapping.Mapping → theory_instance.Instance ℕ → Type 0
DeltaOverfull F J = max_rows < theory_instance.rows F.S (theory_mapping.delta F J)

pub record DeltaAnswers (s t f j : List ℕ) (F : theory_mapping.Mapping) (J : theory_instance.Instance ℕ) : Type 0 where
  pub overfull : (delta_tables s t f j ≡ refused 15 0) ↔ DeltaOverfull F J
  pub result : ((M : Migrated) × (delta_tables s t f j ≡ accepted M)) ↔ (DeltaOverfull F J → ⊥)

-- 15 never arises for Sigma
pub record SigmaAnswers (s t f i : List ℕ) (F : theory_mapping.Mapping) : Type 0 where
  pub uneven : (sigma_tables s t f i ≡ refused 12 0) ↔ (Even F → ⊥)
  pub result : ((M : Migrated) × (sigma_tables s t f i ≡ accepted M)) ↔ Even F

-- some table has more than 64 components
abbrev pub Wide : theory_mapping.Mapping → Type 0
Wide F = (d : ℕ) × (d < F.T.nodes) × (ks : List (ℕ × List ℕ)) × IsComponents F d ks × (max_components < length ks)

-- Pi has more than 512 rows
abbrev pub PiOverfull : theory_mapping.Mapping → theory_instance.Instance ℕ → Type 0
PiOverfull F I = (P : theory_instance.Instance ℕ) × IsPi F I P × (max_rows < theory_instance.rows F.T P)

pub record PiAnswers (s t f i : List ℕ) (F : theory_mapping.Mapping) (I : theory_instance.Instance ℕ) : Type 0 where
  pub unpaired : (pi_tables s t f i ≡ refused 13 0) ↔ (Bijective F → ⊥)
  pub wide : (pi_tables s t f i ≡ refused 14 0) ↔ (Bijective F × Wide F)
  pub overfull : (pi_tables s t f i ≡ refused 15 0) ↔ (Bijective F × (Wide F → ⊥) × PiOverfull F I)
  pub result : ((M : Migrated) × (pi_tables s t f i ≡ accepted M)) ↔ (Bijective F × (Wide F → ⊥) × (PiOverfull F I → ⊥))
