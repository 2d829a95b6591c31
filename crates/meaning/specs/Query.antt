-- A query: Sigma after Pi after Delta (document 02, C-15; source document 000, definition 2).
use Rattle.std.specs.Prelude.{ℕ, List}
use Rattle.meaning.specs.Schema.{Schema}
use Rattle.meaning.specs.Category.{listed_category}
use Rattle.meaning.specs.Formats.{Mapping, Instance}
use Rattle.meaning.specs.Judge.{judge_schema, judge_mapping, judge_instance}
use Rattle.meaning.specs.Delta.{delta}
use Rattle.meaning.specs.Evenness.{even}
use Rattle.meaning.specs.Sigma.{sigma}
use Rattle.meaning.specs.Pi.{is_bijective, has_few_components, pi}
use Rattle.meaning.specs.Calls.{Outcome, accepted, ◌>>=◌, at, ensure, ensure_fits, Migrated}

-- four schemas, and F from the second to the first, G from the second to the third, H from the third to the fourth
pub record Query : Type 0 where
  pub S1 : Schema
  pub S2 : Schema
  pub S3 : Schema
  pub S4 : Schema
  pub F : Mapping
  pub G : Mapping
  pub H : Mapping

-- sheets are judged schemas first, then F, G, H
abbrev pub judge_query : (s1 s2 s3 s4 f g h : List ℕ) → Outcome Query
judge_query s1 s2 s3 s4 f g h = do
  S1 ← at 1 (judge_schema s1)
  S2 ← at 2 (judge_schema s2)
  S3 ← at 3 (judge_schema s3)
  S4 ← at 4 (judge_schema s4)
  F ← at 5 (judge_mapping (listed_category S2) (listed_category S1) f)
  G ← at 6 (judge_mapping (listed_category S2) (listed_category S3) g)
  H ← at 7 (judge_mapping (listed_category S3) (listed_category S4) h)
  accepted (record { S1 = S1; S2 = S2; S3 = S3; S4 = S4; F = F; G = G; H = H })

-- 13 and 14 for G, 12 for H
abbrev pub ensure_mappings : Query → Outcome (Unit {0})
ensure_mappings q = do
  _ ← ensure (is_bijective q.S3 q.G) 13
  _ ← ensure (has_few_components (listed_category q.S2) (listed_category q.S3) q.G) 14
  ensure (even (listed_category q.S3) (listed_category q.S4) q.H) 12

-- the three definitions applied one after the other, and 15 after each
abbrev pub migrate_query : Query → Instance → Outcome Migrated
migrate_query q I = do
  D ← ensure_fits (delta q.S2 q.F I)
  P ← ensure_fits (pi (listed_category q.S2) (listed_category q.S3) q.G D)
  Q ← ensure_fits (sigma (listed_category q.S3) (listed_category q.S4) q.H P)
  accepted (record { schema = q.S4; tables = Q })

-- the seven sheets and then the run; then the tests of the mappings; then the migrations in turn
abbrev pub query_tables : (s1 s2 s3 s4 f g h i : List ℕ) → Outcome Migrated
query_tables s1 s2 s3 s4 f g h i = do
  q ← judge_query s1 s2 s3 s4 f g h
  I ← at 8 (judge_instance q.S1 i)
  _ ← ensure_mappings q
  migrate_query q I
