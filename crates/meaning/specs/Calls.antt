-- What each call yields: a refusal's number and place, or a result. Sheets are judged in the order of their places, then 12, 13, 14, 15
-- at place 0, then the matching sheet, last 16 (document 01, 'Why a sheet is sent back').
use Rattle.std.specs.Prelude.{ℕ, Bool, true, false, cond, List, [], ◌++◌, length, drop, leb}
use Rattle.std.proofs.Math.Option.{Option, none, some}
use Rattle.theory.specs.Transposition.{to_raw, to_pushed}
use Rattle.meaning.specs.Lists.{sum_of}
use Rattle.meaning.specs.Schema.{Schema}
use Rattle.meaning.specs.PathChain.{Step, first_chain}
use Rattle.meaning.specs.PathEquality.{first_path}
use Rattle.meaning.specs.Category.{listed_category}
use Rattle.meaning.specs.Sheet.{Judged, faulty, sound}
use Rattle.meaning.specs.Formats.{Mapping, Instance, max_rows, path_sheet, instance_sheet, matching_sheet, chain_sheet}
use Rattle.meaning.specs.Views.{mapping_of, instance_of}
use Rattle.meaning.specs.Judge.{judge_path, judge_schema, judge_mapping, judge_instance}
use Rattle.meaning.specs.Delta.{delta}
use Rattle.meaning.specs.Evenness.{even}
use Rattle.meaning.specs.Sigma.{sigma}
use Rattle.meaning.specs.Pi.{is_bijective, has_few_components, pi}
use Rattle.meaning.specs.Matching.{judge_matching}

infixl 20 ◌>>=◌
-- a refusal is a number and the sheet's place
pub data Outcome (A : Type 0) : Type 0 where
  refused : ℕ → ℕ → Outcome A
  accepted : A → Outcome A

module _ {A B : Type 0} where
  abbrev pub ◌>>=◌ : Outcome A → (A → Outcome B) → Outcome B
  ◌>>=◌ (refused n place) f = refused n place
  ◌>>=◌ (accepted a) f = f a

module _ {A : Type 0} where
  -- a judged sheet at its place, counted from 1
  abbrev pub at : ℕ → Judged A → Outcome A
  at place (faulty n) = refused n place
  at place (sound a) = accepted a

-- a test of all sheets together, at place 0
abbrev pub ensure : Bool → ℕ → Outcome (Unit {0})
ensure true n = accepted tt
ensure false n = refused n 0

-- 15 (overfull): a migrated instance, or a changed run, has at most 512 rows
abbrev pub ensure_fits : Instance → Outcome Instance
ensure_fits J = do
  _ ← ensure (leb (sum_of J.counts) max_rows) 15
  accepted J

-- ---- checks

abbrev pub check_schema : List ℕ → Outcome (Unit {0})
check_schema s = do
  S ← at 1 (judge_schema s)
  accepted tt

-- S, T and a mapping between them
pub record Migration : Type 0 where
  pub S : Schema
  pub T : Schema
  pub F : Mapping

abbrev pub migration : List ℕ → List ℕ → List ℕ → Outcome Migration
migration s t f = do
  S ← at 1 (judge_schema s)
  T ← at 2 (judge_schema t)
  F ← at 3 (judge_mapping (listed_category S) (listed_category T) f)
  accepted (record { S = S; T = T; F = F })

abbrev pub check_mapping : List ℕ → List ℕ → List ℕ → Outcome (Unit {0})
check_mapping s t f = do
  m ← migration s t f
  accepted tt

abbrev pub check_instance : List ℕ → List ℕ → Outcome (Unit {0})
check_instance s i = do
  S ← at 1 (judge_schema s)
  I ← at 2 (judge_instance S i)
  accepted tt

-- ---- the path question: the first path of a path's class (document 02, C-14)

abbrev pub path_question : List ℕ → List ℕ → Outcome (List ℕ)
path_question s p = do
  S ← at 1 (judge_schema s)
  P ← at 2 (judge_path S.graph p)
  accepted (path_sheet (first_path S P))

-- ---- the chain from one path to another (document 02, C-11)

-- none is written as no bytes, for which any tray has room
abbrev pub explanation : Option (List Step) → List ℕ
explanation none = []
explanation (some c) = chain_sheet c

abbrev pub path_chain : List ℕ → List ℕ → List ℕ → Outcome (List ℕ)
path_chain s p q = do
  S ← at 1 (judge_schema s)
  P ← at 2 (judge_path S.graph p)
  Q ← at 3 (judge_path S.graph q)
  accepted (explanation (first_chain S P Q))

-- ---- migrations: a migrated instance, with its schema

pub record Migrated : Type 0 where
  pub schema : Schema
  pub tables : Instance

abbrev pub delta_tables : List ℕ → List ℕ → List ℕ → List ℕ → Outcome Migrated
delta_tables s t f j = do
  m ← migration s t f
  J ← at 4 (judge_instance m.T j)
  D ← ensure_fits (delta m.S m.F J)
  accepted (record { schema = m.S; tables = D })

abbrev pub sigma_tables : List ℕ → List ℕ → List ℕ → List ℕ → Outcome Migrated
sigma_tables s t f i = do
  m ← migration s t f
  I ← at 4 (judge_instance m.S i)
  _ ← ensure (even (listed_category m.S) (listed_category m.T) m.F) 12
  P ← ensure_fits (sigma (listed_category m.S) (listed_category m.T) m.F I)
  accepted (record { schema = m.T; tables = P })

abbrev pub pi_tables : List ℕ → List ℕ → List ℕ → List ℕ → Outcome Migrated
pi_tables s t f i = do
  m ← migration s t f
  I ← at 4 (judge_instance m.S i)
  _ ← ensure (is_bijective m.T m.F) 13
  _ ← ensure (has_few_components (listed_category m.S) (listed_category m.T) m.F) 14
  P ← ensure_fits (pi (listed_category m.S) (listed_category m.T) m.F I)
  accepted (record { schema = m.T; tables = P })

abbrev pub sheet_of : Outcome Migrated → Outcome (List ℕ)
sheet_of o = do
  m ← o
  accepted (instance_sheet m.tables)

-- ---- checkers and turnings: S, T, mapping, run, book, matching

-- the run and the book with both migrated tables
pub record Sides : Type 0 where
  pub m : Migration
  pub run : Instance
  pub book : Instance
  pub pushed : Instance
  pub pulled : Instance

abbrev pub sides : List ℕ → List ℕ → List ℕ → List ℕ → List ℕ → Outcome Sides
sides s t f i j = do
  m ← migration s t f
  I ← at 4 (judge_instance m.S i)
  J ← at 5 (judge_instance m.T j)
  _ ← ensure (even (listed_category m.S) (listed_category m.T) m.F) 12
  P ← ensure_fits (sigma (listed_category m.S) (listed_category m.T) m.F I)
  D ← ensure_fits (delta m.S m.F J)
  accepted (record { m = m; run = I; book = J; pushed = P; pulled = D })

-- the pushed side goes from Sigma's result to the book, the raw side from the run to Delta's result
abbrev pub judge_pushed : Sides → List ℕ → Outcome (List ℕ)
judge_pushed x k = at 6 (judge_matching x.m.T x.pushed x.book k)

abbrev pub judge_raw : Sides → List ℕ → Outcome (List ℕ)
judge_raw x k = at 6 (judge_matching x.m.S x.run x.pulled k)

-- the sheet of a turned list: keeping the book row
abbrev pub raw_sheet : Sides → List ℕ → List ℕ
raw_sheet x l = matching_sheet (to_raw (mapping_of x.m.S x.m.T x.m.F) (instance_of x.run) (instance_of x.pushed) l)

abbrev pub pushed_sheet : Sides → List ℕ → List ℕ
pushed_sheet x l = matching_sheet (to_pushed (mapping_of x.m.S x.m.T x.m.F) (instance_of x.run) (instance_of x.pushed) l)

abbrev pub check_pushed : List ℕ → List ℕ → List ℕ → List ℕ → List ℕ → List ℕ → Outcome (Unit {0})
check_pushed s t f i j k = do
  x ← sides s t f i j
  l ← judge_pushed x k
  accepted tt

abbrev pub check_raw : List ℕ → List ℕ → List ℕ → List ℕ → List ℕ → List ℕ → Outcome (Unit {0})
check_raw s t f i j k = do
  x ← sides s t f i j
  l ← judge_raw x k
  accepted tt

abbrev pub pushed_to_raw : List ℕ → List ℕ → List ℕ → List ℕ → List ℕ → List ℕ → Outcome (List ℕ)
pushed_to_raw s t f i j k = do
  x ← sides s t f i j
  l ← judge_pushed x k
  accepted (raw_sheet x l)

abbrev pub raw_to_pushed : List ℕ → List ℕ → List ℕ → List ℕ → List ℕ → List ℕ → Outcome (List ℕ)
raw_to_pushed s t f i j k = do
  x ← sides s t f i j
  l ← judge_raw x k
  accepted (pushed_sheet x l)

-- ---- a result in a lent tray: its byte length, or 16 (small tray); bytes beyond it keep their values, and a refusal changes none

pub record Lent : Type 0 where
  pub answer : Outcome ℕ
  pub tray : List ℕ

abbrev pub written : List ℕ → List ℕ → Lent
written tray bytes =
    cond (leb (length bytes) (length tray))
    (record { answer = accepted (length bytes); tray = bytes ++ drop (length bytes) tray })
    (record { answer = refused 16 0; tray = tray })

abbrev pub in_tray : List ℕ → Outcome (List ℕ) → Lent
in_tray tray (refused n place) = record { answer = refused n place; tray = tray }
in_tray tray (accepted bytes) = written tray bytes
