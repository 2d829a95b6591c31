-- Valid mappings and instances: what accepted sheets give, in the tables and as the theory has it; a valid instance is accepted when its sheet is lent.
use Prim.Native.Nat.{ℕ}
use mathlib.Core.Path.{◌≡◌}
use mathlib.Core.List.{List}
use mathlib.Core.Logic.{◌↔◌}
use Rattle.bits.specs.Field.{Bytes}
use Rattle.meaning.specs.Schema.{Schema}
use Rattle.meaning.specs.Category.{listed_category}
use Rattle.meaning.specs.Sheet.{sound}
use Rattle.meaning.specs.Formats.{Mapping, Instance, instance_sheet}
use Rattle.meaning.specs.Judge.{judge_schema, judge_mapping, judge_instance}
use Rattle.meaning.proofs.Written.{instance-judged-sheet}
use Rattle.meaning.proofs.Facts.{schema-facts, mapping-facts, instance-facts}
use Rattle.agreement.specs.Valid.{ValidInstance, ValidMapping}
use Rattle.agreement.proofs.Instances.{instance-judged}
use Rattle.agreement.proofs.Sheets.{instance-sheet-judged}
use Rattle.agreement.proofs.Categories.{schema-well-formed, listed-category}
use Rattle.agreement.proofs.Mappings.{mapping-judged}

pub mapping-valid : (s t f : List ℕ) {S T : Schema} {F : Mapping} → judge_schema s ≡ sound S → judge_schema t ≡ sound T → judge_mapping (listed_category S) (listed_category T) f ≡ sound F → ValidMapping (listed_category S) (listed_category T) F
mapping-valid s t f {S} {T} a b c =
    let s_is = listed-category S (schema-well-formed (schema-facts s a)) in
    let t_is = listed-category T (schema-well-formed (schema-facts t b)) in
    record { s_is = s_is; t_is = t_is; attributes = (mapping-facts (listed_category S) (listed_category T) f c).attributes; is = mapping-judged s_is t_is f c }

pub instance-valid : (S : Schema) (s : List ℕ) {I : Instance} → judge_instance S s ≡ sound I → ValidInstance S I
instance-valid S s e = let f = instance-facts S s e in record { shaped = f.shaped; is = instance-judged S s e; few_rows = f.few_rows }

-- a valid instance's sheet is accepted and read back as the same tables
pub valid-lent-again : {S : Schema} {I : Instance} → ValidInstance S I → judge_instance S (instance_sheet I) ≡ sound I
valid-lent-again {S} v = instance-sheet-judged S v.shaped v.few_rows v.is

-- a lent sheet is accepted exactly when it is the whole sheet of a valid instance
pub instance-accepted-iff : (S : Schema) (i : List ℕ) → Bytes i → ((I : Instance) × (judge_instance S i ≡ sound I)) ↔ ((I : Instance) × ValidInstance S I × (i ≡ instance_sheet I))
instance-accepted-iff S i b = (
  λ x. (x.0, instance-valid S i x.1, instance-judged-sheet S i b x.1),
  λ x. (x.0, rw x.2 (valid-lent-again x.1)),
)
