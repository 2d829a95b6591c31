-- What the reader of a mapping sheet gives, part by part.
use Prim.Native.Nat.{ℕ, ◌+◌, ◌*◌, ◌<◌, ◌≤◌}
use mathlib.Core.Path.{◌≡◌, ap, ◌∙◌}
use mathlib.Core.Bool.{true, false}
use mathlib.Core.List.{List}
use native.Mathlib.Omega.{arith}
use lib.ListN.{length}
use Rattle.bits.specs.Field as bits
use Rattle.theory.specs.Numbering.{tabulate}
use Rattle.theory.proofs.Numbering.{tabulate-length}
use Rattle.meaning.specs.Sheet.{fails, reads, times, field}
use Rattle.meaning.specs.Formats.{read_edges, read_mapping}
use Rattle.meaning.proofs.Reading.{fixed-field, fixed-times}
use Rattle.schema.specs.declared.Schema.{Schema}
use Rattle.schema.specs.Decoded.{schema_of}
use Rattle.schema.proofs.GraphEdges.{edges-count}

-- ---- an edge's image
module _ (sheet : List ℕ) (p : ℕ) where
  pub edges-cut : p + 4 ≤ 8 * length sheet → 8 * length sheet < p + 4 + 5 * bits.field sheet p 4 → read_edges sheet p ≡ fails 1
  edges-cut h l = rw ((fixed-field 4).here sheet p h, (fixed-times (bits.field sheet p 4) (fixed-field 5)).cut sheet (p + 4) h l)

  pub edges-read : p + 4 + 5 * bits.field sheet p 4 ≤ 8 * length sheet →
      read_edges sheet p ≡ reads (tabulate (bits.field sheet p 4) (λ i. bits.field sheet (p + 4 + 5 * i) 5)) (p + 4 + 5 * bits.field sheet p 4)
  edges-read l = rw ((fixed-field 4).here sheet p (omega arith), (fixed-times (bits.field sheet p 4) (fixed-field 5)).here sheet (p + 4) l)

-- ---- a mapping sheet
-- n numbers of 4 bits from p on
abbrev numbers_in : List ℕ → ℕ → ℕ → List ℕ
numbers_in sheet p n = tabulate n (λ i. bits.field sheet (p + 4 * i) 4)

module _ (s : Schema) (sheet : List ℕ) where
  abbrev n : ℕ
  n = s.graph.nodes

  abbrev k : ℕ
  k = s.graph.edges

  abbrev a : ℕ
  a = s.attributes

  edges_are : length (schema_of s).graph.edges ≡ k
  edges_are = edges-count k s.graph.source s.graph.target

  attributes-are : length (schema_of s).attributes ≡ a
  attributes-are = tabulate-length a _

  pub mapping-short : 8 * length sheet < 4 * n → read_mapping (schema_of s) sheet 0 ≡ fails 1
  mapping-short h = rw ((fixed-times n (fixed-field 4)).cut sheet 0 (omega arith) (omega arith))

  module _ (room : 4 * n ≤ 8 * length sheet) where
    nodes-read : times n (field 4) sheet 0 ≡ reads (numbers_in sheet 0 n) (4 * n)
    nodes-read = (fixed-times n (fixed-field 4)).here sheet 0 (omega arith) ∙ ap (reads (numbers_in sheet 0 n)) (omega arith)

    pub mapping-fails : {number : ℕ} → times k read_edges sheet (4 * n) ≡ fails number → read_mapping (schema_of s) sheet 0 ≡ fails number
    mapping-fails e = rw (nodes-read, edges_are, e)

    module _ {images : List (List ℕ)} {q : ℕ} (e : times k read_edges sheet (4 * n) ≡ reads images q) where
      pub mapping-cut : q ≤ 8 * length sheet → 8 * length sheet < q + 4 * a → read_mapping (schema_of s) sheet 0 ≡ fails 1
      mapping-cut h l = rw (nodes-read, edges_are, e, attributes-are, (fixed-times a (fixed-field 4)).cut sheet q h l)

      pub mapping-tail : q + 4 * a ≤ 8 * length sheet → bits.tail_ok sheet (q + 4 * a) ≡ false → read_mapping (schema_of s) sheet 0 ≡ fails 2
      mapping-tail l o = rw (nodes-read, edges_are, e, attributes-are, (fixed-times a (fixed-field 4)).here sheet q l, o)

      pub mapping-read : q + 4 * a ≤ 8 * length sheet → bits.tail_ok sheet (q + 4 * a) ≡ true →
          read_mapping (schema_of s) sheet 0 ≡ reads (record { nodes = numbers_in sheet 0 n; edges = images; attributes = numbers_in sheet q a }) (q + 4 * a)
      mapping-read l o = rw (nodes-read, edges_are, e, attributes-are, (fixed-times a (fixed-field 4)).here sheet q l, o)
