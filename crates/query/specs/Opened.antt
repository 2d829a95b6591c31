-- What the judges of four schemas and three mappings give together, and the tests of the mappings.
use Rattle.std.specs.Prelude.{ℕ, ◌≡◌, Bool, true, ◌&&◌, List}
use Rattle.meaning.specs.Evenness.{even}
use Rattle.meaning.specs.Pi.{is_bijective, has_few_components}
use Rattle.meaning.specs.Calls.{accepted}
use Rattle.meaning.specs.Query as meaning
use Rattle.schema.specs.Decoded.{schema_of, category_of}
use Rattle.schema.specs.Judged as schema
use Rattle.mapping.specs.Decoded.{mapping_of}
use Rattle.mapping.specs.Judged.{Sound}
use Rattle.instance.specs.Decoded as instance
use Rattle.pi.specs.declared.components.Components.{Components}
use Rattle.pi.specs.Components.{AllComponents}
use Rattle.steps.specs.Opened.{IsListed, RoomIn}
use Rattle.query.specs.declared.open.Query.{Query}

abbrev pub query_of : Query → meaning.Query
query_of q = record {
  S1 = schema_of q.first;
  S2 = schema_of q.second.schema;
  S3 = schema_of q.third.schema;
  S4 = schema_of q.fourth.schema;
  F = mapping_of q.second.schema q.f;
  G = mapping_of q.second.schema q.g;
  H = mapping_of q.third.schema q.h;
}

-- judged schemas
pub record Schemas (q : Query) : Type 0 where
  pub first : schema.Sound q.first
  pub second : IsListed q.second
  pub third : IsListed q.third
  pub fourth : IsListed q.fourth

-- what the migrations rely on
pub record Ready (q : Query) : Type 0 where
  pub schemas : Schemas q
  pub f : Sound q.second.schema q.first q.f
  pub g : Sound q.second.schema q.third.schema q.g
  pub h : Sound q.third.schema q.fourth.schema q.h

-- opened from some sheets
pub record FromSheets (q : Query) : Type 0 where
  pub s1 : List ℕ
  pub s2 : List ℕ
  pub s3 : List ℕ
  pub s4 : List ℕ
  pub f : List ℕ
  pub g : List ℕ
  pub h : List ℕ
  pub says : accepted (query_of q) ≡ meaning.judge_query s1 s2 s3 s4 f g h
  pub ready : Ready q

-- all four schemas have few columns
abbrev pub have_few_columns : Query → Bool
have_few_columns q = instance.has_few_columns q.first && instance.has_few_columns q.second.schema && instance.has_few_columns q.third.schema && instance.has_few_columns q.fourth.schema

-- working arrays of these lengths do for the instances of each schema
pub record RoomsIn (q : Query) (links values : ℕ) : Type 0 where
  pub first : RoomIn q.first links values
  pub second : RoomIn q.second.schema links values
  pub third : RoomIn q.third.schema links values
  pub fourth : RoomIn q.fourth.schema links values

-- ---- the tests of G and H

abbrev pub paired : Query → Bool
paired q = is_bijective (query_of q).S3 (query_of q).G

abbrev pub narrow : Query → Bool
narrow q = has_few_components (category_of q.second.schema) (category_of q.third.schema) (query_of q).G

abbrev pub is_even : Query → Bool
is_even q = even (category_of q.third.schema) (category_of q.fourth.schema) (query_of q).H

-- what the tests rely on
pub record Testable (q : Query) (k : Components) : Type 0 where
  pub ready : Ready q
  pub components : AllComponents q.second.schema q.third.schema q.g q.third.schema.graph.nodes k

-- and they are passed
pub record Tested (q : Query) (k : Components) : Type 0 where
  pub testable : Testable q k
  pub bijective : paired q ≡ true
  pub few : narrow q ≡ true
  pub is-even : is_even q ≡ true
