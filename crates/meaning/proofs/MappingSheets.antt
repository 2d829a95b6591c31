-- Mapping sheets: what is written is read back, a sheet that reads as a mapping is the one that is written of it, and how many bytes it has.
use Prim.Native.Nat.{ℕ, suc, ◌+◌, ◌*◌, ◌<◌, ◌≤◌}
use mathlib.Core.Path.{◌≡◌, sym, ap, ◌∙◌, subst, subst₂}
use mathlib.Core.Bool.{true}
use mathlib.Core.List.{List, [], ◌∷◌, ◌++◌, map}
use native.Mathlib.Omega.{arith}
use lib.ListN.{length, get_or}
use Rattle.bits.specs.Field as bits
use Rattle.bits.specs.Field.{Bytes, bytes_for}
use Rattle.bits.specs.Pack.{total_width, Fit, pack}
use Rattle.bits.proofs.Packing.{length-pack, total_width-append, tail_ok-pack}
use Rattle.meaning.specs.Lists.{concat_map, sum_of}
use Rattle.meaning.specs.Schema.{Schema}
use Rattle.meaning.specs.Category.{Category}
use Rattle.meaning.specs.Sheet.{reads, times, field, sound, on_sheet}
use Rattle.meaning.specs.Formats.{Mapping, fields_of, edges_fields, mapping_fields, mapping_sheet, read_edges, read_mapping, max_mapping_bytes}
use Rattle.meaning.specs.Judge.{images_fit, keeps_equations, judge_mapping}
use Rattle.meaning.proofs.Readers.{judged-sound, reads_same, after-reads, ensure-reads, gives-field, gives-times}
use Rattle.meaning.proofs.FieldsAt.{FieldsAt, one, fields_at-append, fields_at-split, field-fields_at, fields_at-field, times-fields_at, fields_at-times, many-fields_at, fields_at-many, fit_append, fit-fields, pack-fields_at, fields_at-pack, fields_of-width, sum_below, bytes-within}
use Rattle.meaning.proofs.Facts.{SchemaFacts, FitsSheet, mapping-read}

-- ---- the fields of a mapping
module _ (s : List ℕ) where
  edges-fields_at : (p : ℕ) (es : List ℕ) (q : ℕ) → read_edges s p ≡ reads es q → FieldsAt s p (edges_fields es) q
  edges-fields_at p es q e =
      let a = after-reads s (field 4 s p) _ e in
      let n = ((gives-times a.thing (gives-field 5)).so s a.behind a.rest).0 in
      subst (λ (k : ℕ). FieldsAt s p ((4, k) ∷ fields_of 5 es) q) (sym n) (field-fields_at s 4 p a.first (times-fields_at s 5 a.thing a.behind a.rest))

  fields_at-edges : (p : ℕ) (es : List ℕ) (q : ℕ) → FieldsAt s p (edges_fields es) q → read_edges s p ≡ reads es q
  fields_at-edges p es q (one l e k) = rw (fields_at-field s 4 p l e) (fields_at-times s 5 (p + 4) es k)

  module _ (S : Schema) where
    mapping-fields_at : {F : Mapping} {q : ℕ} → read_mapping S s 0 ≡ reads F q → FieldsAt s 0 (mapping_fields F) q × (bits.tail_ok s q ≡ true)
    mapping-fields_at {F} {q} e =
        let n = after-reads s (times S.graph.nodes (field 4) s 0) _ e in
        let m = after-reads s (times (length S.graph.edges) read_edges s n.behind) _ n.rest in
        let a = after-reads s (times (length S.attributes) (field 4) s m.behind) _ m.rest in
        let f = ensure-reads s a.behind (bits.tail_ok s a.behind) 2 _ a.rest in
        let r = reads_same f.1 in
        let G : Mapping = record { nodes = n.thing; edges = m.thing; attributes = a.thing } in
        let h : FieldsAt s 0 (mapping_fields G) a.behind =
        fields_at-append (fields_at-append (times-fields_at s 4 S.graph.nodes 0 n.first) (many-fields_at s read_edges edges_fields edges-fields_at (length S.graph.edges) n.behind m.first))
        (times-fields_at s 4 (length S.attributes) m.behind a.first)
        in
        subst₂ (λ (F : Mapping) (q : ℕ). FieldsAt s 0 (mapping_fields F) q × (bits.tail_ok s q ≡ true)) r.0 r.1 (h, f.0)

    fields_at-mapping : {F : Mapping} {q : ℕ} → FitsSheet S F → FieldsAt s 0 (mapping_fields F) q → bits.tail_ok s q ≡ true → read_mapping S s 0 ≡ reads F q
    fields_at-mapping {F} fits h t =
        let a = fields_at-split (fields_of 4 F.nodes ++ concat_map edges_fields F.edges) h in
        let b = fields_at-split (fields_of 4 F.nodes) a.left in
        rw (
          ← fits.nodes,
          fields_at-times s 4 0 F.nodes b.left,
          ← fits.edges,
          fields_at-many s read_edges edges_fields fields_at-edges b.seam F.edges b.right,
          ← fits.attributes,
          fields_at-times s 4 a.seam F.attributes a.right,
          t,
        )

fit_edges : (ls : List (List ℕ)) → ((e : ℕ) → length (get_or ls e []) ≤ 15) → ((e i : ℕ) → get_or (get_or ls e []) i 0 < 32) → Fit (concat_map edges_fields ls)
fit_edges [] n h = tt
fit_edges (l ∷ ls) n h =
    fit_append (edges_fields l) (concat_map edges_fields ls) (let k = n 0 in omega arith, fit-fields 5 l (h 0)) (fit_edges ls (λ e. n (suc e)) (λ e. h (suc e)))

fit-mapping : {S : Schema} {F : Mapping} → FitsSheet S F → Fit (mapping_fields F)
fit-mapping {F} fits =
    let ns = fields_of 4 F.nodes in
    let es = concat_map edges_fields F.edges in
    fit_append (ns ++ es) (fields_of 4 F.attributes)
    (fit_append ns es (fit-fields 4 F.nodes fits.node_below) (fit_edges F.edges fits.short fits.edge_below))
    (fit-fields 4 F.attributes fits.attribute_below)

-- ---- what is written is read back, and what is read was written
module _ (S : Schema) {F : Mapping} where
  pub mapping-sheet-read : FitsSheet S F → on_sheet (read_mapping S) (mapping_sheet F) ≡ sound F
  mapping-sheet-read fits = let fs = mapping_fields F in rw (fields_at-mapping (pack fs) S fits (pack-fields_at fs (fit-mapping fits)) (tail_ok-pack fs))

  pub mapping-read-sheet : (s : List ℕ) → Bytes s → on_sheet (read_mapping S) s ≡ sound F → s ≡ mapping_sheet F
  mapping-read-sheet s b e = let r = judged-sound (read_mapping S s 0) e in let h = mapping-fields_at s S r.1 in fields_at-pack s b h.0 h.1

module _ (S T : Category) {F : Mapping} where
  -- what passes the tests is accepted as it is written
  pub mapping-sheet-judged : FitsSheet S.schema F → images_fit S.schema T.schema F ≡ true → keeps_equations S T F ≡ true → judge_mapping S T (mapping_sheet F) ≡ sound F
  mapping-sheet-judged fits images keeps = rw (mapping-sheet-read S.schema fits, images, keeps)

  -- an accepted sheet of bytes is the sheet of what it says
  pub mapping-judged-sheet : (s : List ℕ) → Bytes s → judge_mapping S T s ≡ sound F → s ≡ mapping_sheet F
  mapping-judged-sheet s b e = mapping-read-sheet S.schema s b (mapping-read S T s e)

-- ---- byte lengths
edges-width : (ls : List (List ℕ)) → total_width (concat_map edges_fields ls) ≡ 4 * length ls + 5 * sum_of (map length ls)
unfolding total_width
edges-width [] = omega arith
edges-width (l ∷ ls) =
    let h = edges-width ls in
    let k = fields_of-width 5 l in
    total_width-append (edges_fields l) (concat_map edges_fields ls) ∙ omega arith

pub mapping-sheet-length : (F : Mapping) → length (mapping_sheet F) ≡ bytes_for (4 * length F.nodes + (4 * length F.edges + 5 * sum_of (map length F.edges)) + 4 * length F.attributes)
mapping-sheet-length F =
    let ns = fields_of 4 F.nodes in
    let es = concat_map edges_fields F.edges in
    let vs = fields_of 4 F.attributes in
    length-pack (ns ++ es ++ vs)
    ∙ ap bytes_for (omega (arith, total_width-append (ns ++ es) vs, total_width-append ns es, fields_of-width 4 F.nodes, edges-width F.edges, fields_of-width 4 F.attributes))

-- a mapping sheet has at most 332 bytes
pub mapping-sheet-within : {S : Schema} {F : Mapping} → SchemaFacts S → FitsSheet S F → length (mapping_sheet F) ≤ max_mapping_bytes
mapping-sheet-within {F} facts fits =
    let m = 4 * length F.nodes + (4 * length F.edges + 5 * sum_of (map length F.edges)) + 4 * length F.attributes in
    let few = sum_below 15 F.edges fits.short in
    subst (λ (n : ℕ). n ≤ max_mapping_bytes) (sym (mapping-sheet-length F)) (bytes-within max_mapping_bytes m (omega (arith, facts, fits)))
