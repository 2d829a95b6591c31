-- What is shown of a query (document 02, C-15): its tables are source document 000's, which refusal of all sheets together is given when, and that the three
-- public calls, one after the other, accept in the same cases and write the same bytes.
use Rattle.std.specs.Prelude.{ℕ, ◌≡◌, List, ◌⊎◌, ◌↔◌, take}
use Rattle.theory.specs.Instance as theory_instance
use Rattle.theory.specs.Mapping as theory_mapping
use Rattle.theory.specs.Mapping.{Even, Bijective}
use Rattle.theory.specs.Query.{IsQuery}
use Rattle.meaning.specs.Category.{listed_category}
use Rattle.meaning.specs.Sheet.{sound}
use Rattle.meaning.specs.Formats.{Instance, instance_sheet}
use Rattle.meaning.specs.Views.{mapping_of, instance_of}
use Rattle.meaning.specs.Judge.{judge_schema, judge_mapping, judge_instance}
use Rattle.meaning.specs.Calls.{Outcome, refused, accepted, ◌>>=◌, Migrated, delta_tables, sigma_tables, pi_tables, sheet_of, Lent, in_tray}
use Rattle.meaning.specs.Query.{Query, query_tables}
use Rattle.agreement.specs.Agrees.{Lendable, DeltaOverfull, Wide, PiOverfull}

-- ---- the mappings, as the theory has them

abbrev pub mapping_f : Query → theory_mapping.Mapping
mapping_f q = mapping_of q.S2 q.S1 q.F

abbrev pub mapping_g : Query → theory_mapping.Mapping
mapping_g q = mapping_of q.S2 q.S3 q.G

abbrev pub mapping_h : Query → theory_mapping.Mapping
mapping_h q = mapping_of q.S3 q.S4 q.H

-- ---- accepted sheets

pub record QueryInputs (s1 s2 s3 s4 f g h i : List ℕ) (q : Query) (I : Instance) : Type 0 where
  pub s1_accepted : judge_schema s1 ≡ sound q.S1
  pub s2_accepted : judge_schema s2 ≡ sound q.S2
  pub s3_accepted : judge_schema s3 ≡ sound q.S3
  pub s4_accepted : judge_schema s4 ≡ sound q.S4
  pub f_accepted : judge_mapping (listed_category q.S2) (listed_category q.S1) f ≡ sound q.F
  pub g_accepted : judge_mapping (listed_category q.S2) (listed_category q.S3) g ≡ sound q.G
  pub h_accepted : judge_mapping (listed_category q.S3) (listed_category q.S4) h ≡ sound q.H
  pub run_accepted : judge_instance q.S1 i ≡ sound I

-- the result is Sigma of Pi of Delta; each intermediate table is an accepted instance of its schema, and is what the public call gives, lent the sheet of the
-- one before
pub record QueryAgrees (s1 s2 s3 s4 f g h i : List ℕ) (M : Migrated) : Type 0 where
  pub q : Query
  pub run : Instance
  pub inputs : QueryInputs s1 s2 s3 s4 f g h i q run
  pub pulled : Instance
  pub joined : Instance
  pub schema_is : M.schema ≡ q.S4
  pub is-bijective : Bijective (mapping_g q)
  pub is-even : Even (mapping_h q)
  pub is_query : IsQuery (mapping_f q) (mapping_g q) (mapping_h q) (instance_of run) (instance_of pulled) (instance_of joined) (instance_of M.tables)
  pub pulled_lendable : Lendable q.S2 pulled
  pub joined_lendable : Lendable q.S3 joined
  pub lendable : Lendable q.S4 M.tables
  pub pulled_by_call : delta_tables s2 s1 f i ≡ accepted (record { schema = q.S2; tables = pulled })
  pub joined_by_call : pi_tables s2 s3 g (instance_sheet pulled) ≡ accepted (record { schema = q.S3; tables = joined })
  pub pushed_by_call : sigma_tables s3 s4 h (instance_sheet joined) ≡ accepted M

-- ---- which refusal of all sheets together, or a result, is given on accepted sheets

-- Delta's tables have more than 512 rows, or Pi's have; Sigma's have no more than Pi's
abbrev pub QueryOverfull : theory_mapping.Mapping → theory_mapping.Mapping → theory_instance.Instance ℕ → Type 0
QueryOverfull F G I = DeltaOverfull F I ⊎ PiOverfull G (theory_mapping.delta F I)

pub record QueryAnswers (s1 s2 s3 s4 f g h i : List ℕ) (q : Query) (I : theory_instance.Instance ℕ) : Type 0 where
  pub unpaired : (query_tables s1 s2 s3 s4 f g h i ≡ refused 13 0) ↔ (Bijective (mapping_g q) → ⊥)
  pub wide : (query_tables s1 s2 s3 s4 f g h i ≡ refused 14 0) ↔ (Bijective (mapping_g q) × Wide (mapping_g q))
  pub uneven : (query_tables s1 s2 s3 s4 f g h i ≡ refused 12 0) ↔ (Bijective (mapping_g q) × (Wide (mapping_g q) → ⊥) × (Even (mapping_h q) → ⊥))
  pub overfull : (query_tables s1 s2 s3 s4 f g h i ≡ refused 15 0)
      ↔ (Bijective (mapping_g q) × (Wide (mapping_g q) → ⊥) × Even (mapping_h q) × QueryOverfull (mapping_f q) (mapping_g q) I)
  pub result : ((M : Migrated) × (query_tables s1 s2 s3 s4 f g h i ≡ accepted M))
      ↔ (Bijective (mapping_g q) × (Wide (mapping_g q) → ⊥) × Even (mapping_h q) × (QueryOverfull (mapping_f q) (mapping_g q) I → ⊥))

-- ---- the three public calls, one after the other

-- what a call has written, cut to its length
abbrev pub cut_to_length : Lent → Outcome (List ℕ)
cut_to_length l = do
  n ← l.answer
  accepted (take n l.tray)

-- Delta into a first tray, Pi into a second, Sigma into the last; where one refuses, the last tray is as it was
abbrev pub chained : (s1 s2 s3 s4 f g h i first second tray : List ℕ) → Lent
chained s1 s2 s3 s4 f g h i first second tray = in_tray tray (do
  d ← cut_to_length (in_tray first (sheet_of (delta_tables s2 s1 f i)))
  p ← cut_to_length (in_tray second (sheet_of (pi_tables s2 s3 g d)))
  sheet_of (sigma_tables s3 s4 h p))

-- x and y accept in the same cases, with the same length, and leave the same tray; which refusal is given may differ
pub record SameResult (x y : Lent) : Type 0 where
  pub accepts : (n : ℕ) → (x.answer ≡ accepted n) ↔ (y.answer ≡ accepted n)
  pub tray : x.tray ≡ y.tray
