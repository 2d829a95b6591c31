-- What accepted mappings and instances are, in the tables and as the theory has them, and the part of it that each of the tests 7 to 11 decides.
use Rattle.std.specs.Prelude.{ℕ, ◌<◌, ◌≤◌, ◌≡◌, List, ◌⊎◌, length, get_or}
use Rattle.theory.specs.Schema as theory_schema
use Rattle.theory.specs.Schema.{IsPath, Chain, endpoint}
use Rattle.theory.specs.Instance as theory_instance
use Rattle.theory.specs.Instance.{IsInstance, follow}
use Rattle.theory.specs.Mapping as theory_mapping
use Rattle.theory.specs.Mapping.{IsMapping, image}
use Rattle.meaning.specs.Lists.{sum_of}
use Rattle.meaning.specs.Schema.{Schema}
use Rattle.meaning.specs.Category.{Category}
use Rattle.meaning.specs.Sheet.{sound, on_sheet}
use Rattle.meaning.specs.Formats.{Mapping, Instance, read_instance, max_rows, from_to, Kinds, kinds}
use Rattle.meaning.specs.Views.{Shaped, schema_of, mapping_of, instance_of}
use Rattle.agreement.specs.Categories.{IsCategory}

-- v is a value of kind k, by the list ks of kinds: not below its smallest, and not above its largest
abbrev pub InRange : Kinds → ℕ → ℕ → Type 0
InRange ks k v = ((get_or ks k (from_to 0 0)).smallest ≤ v) × (v ≤ (get_or ks k (from_to 0 0)).largest)

pub record ValidMapping (S T : Category) (F : Mapping) : Type 0 where
  pub s_is : IsCategory S
  pub t_is : IsCategory T
  pub attributes : length F.attributes ≡ length S.schema.attributes
  pub is : IsMapping (mapping_of S.schema T.schema F)

pub record ValidInstance (S : Schema) (I : Instance) : Type 0 where
  pub shaped : Shaped S I
  pub is : IsInstance (InRange kinds) (schema_of S) (instance_of I)
  pub few_rows : sum_of I.counts ≤ max_rows

-- ---- of a mapping: fields of `IsMapping`

-- 7: images exist, join and have the right ends; an attribute's image has its kind, at its node's image
pub record ImagesFit (F : theory_mapping.Mapping) : Type 0 where
  pub node_in : (c : ℕ) → c < F.S.nodes → F.node c < F.T.nodes
  pub edge_path : (e : ℕ) → e < F.S.edges → IsPath F.T (F.node (F.S.src e)) (F.edge e)
  pub edge_end : (e : ℕ) → e < F.S.edges → endpoint F.T.tgt (F.node (F.S.src e)) (F.edge e) ≡ F.node (F.S.tgt e)
  pub attribute-in : (a : ℕ) → a < F.S.attributes → F.attribute a < F.T.attributes
  pub attribute_home : (a : ℕ) → a < F.S.attributes → F.T.home (F.attribute a) ≡ F.node (F.S.home a)
  pub attribute_kind : (a : ℕ) → a < F.S.attributes → F.T.kind (F.attribute a) ≡ F.S.kind a

-- 8: each equation of S has equal images
abbrev pub KeepsEquations : theory_mapping.Mapping → Type 0
KeepsEquations F = (s : ℕ) (a b : List ℕ) → F.S.Equation s a b → Chain F.T (F.node s) (image F.edge a) (image F.edge b)

-- ---- of an instance: the fields of `IsInstance`

-- 9: each target row is below its table's count
abbrev pub LinksIn : theory_schema.Schema → theory_instance.Instance ℕ → Type 0
LinksIn S I = (e : ℕ) → e < S.edges → (x : ℕ) → x < I.count (S.src e) → I.link e x < I.count (S.tgt e)

-- 10: each value is one of its kind
abbrev pub ValuesIn : Kinds → theory_schema.Schema → theory_instance.Instance ℕ → Type 0
ValuesIn ks S I = (a : ℕ) → a < S.attributes → (x : ℕ) → x < I.count (S.home a) → InRange ks (S.kind a) (I.value a x)

-- where it is not so: a value below its kind's smallest or above its largest
pub record BeyondRange (ks : Kinds) (S : theory_schema.Schema) (I : theory_instance.Instance ℕ) : Type 0 where
  pub attribute : ℕ
  pub attribute-in : attribute < S.attributes
  pub row : ℕ
  pub row_in : row < I.count (S.home attribute)
  pub beyond : (I.value attribute row < (get_or ks (S.kind attribute) (from_to 0 0)).smallest) ⊎ ((get_or ks (S.kind attribute) (from_to 0 0)).largest < I.value attribute row)

-- the sheet i reads as an instance I of S whose links are in range, with such a value
pub record OffScale (S : Schema) (i : List ℕ) (I : Instance) : Type 0 where
  pub reads : on_sheet (read_instance S) i ≡ sound I
  pub links : LinksIn (schema_of S) (instance_of I)
  pub value : BeyondRange kinds (schema_of S) (instance_of I)

-- 11: the two sides of each equation lead each row to the same row
abbrev pub ObeysEquations : theory_schema.Schema → theory_instance.Instance ℕ → Type 0
ObeysEquations S I = (s : ℕ) (a b : List ℕ) → S.Equation s a b → (x : ℕ) → x < I.count s → follow I.link a x ≡ follow I.link b x
