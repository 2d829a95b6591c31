-- A whole text at the front of a buffer: of a refusal, and of tables.
use Prim.Native.Nat.{ℕ, ◌≤◌, ◌<◌}
use mathlib.Core.Path.{◌≡◌, sym, ap, ◌∙◌, subst}
use mathlib.Core.List.{List, ◌++◌}
use native.Mathlib.Omega.{arith}
use native.Mathlib.Nat.{zero-add, le_trans, le_of_eq}
use lib.ListN.{length, get_or, drop}
use lib.Seq.{sets-eq, get_or-take}
use Rattle.theory.proofs.Numbering.{tabulate-get_or}
use Rattle.meaning.specs.Lists.{sum_of}
use Rattle.meaning.specs.Formats.{max_nodes, max_rows}
use Rattle.meaning.specs.Calls.{refused}
use Rattle.meaning.specs.Program.{printed, shown}
use Rattle.meaning.proofs.Lists.{get_or-sum}
use Rattle.schema.specs.declared.Schema.{Schema}
use Rattle.schema.specs.Decoded.{schema_of}
use Rattle.instance.specs.declared.Instance.{Instance}
use Rattle.instance.specs.Decoded.{tables_of}
use Rattle.text.specs.Appended.{Room, Appended, header_text, refusal_text}
use Rattle.text.specs.Rows.{ColumnsFit}
use Rattle.text.specs.Written.{max_text_bytes, Written, migrated_of, Printable}
use Rattle.text.proofs.Appending.{appended_then, room-first, room-then}
use Rattle.text.proofs.Printing.{refusal-line}
use Rattle.text.proofs.TextLength.{refusal-length, printed-length}
use Rattle.text.proofs.ArrayTexts.{counts_of, source_of, node_of, rows_text, edges-long, attributes-long, Sized, source-long, node_long, counts_long, printed-same}

written : {text l : List ℕ} {r : ℕ} {m : List ℕ} → Room l 0 text → Appended l 0 text r m → Written text l (record { length = r }) m
written {text} {l} {r} {m} R A = record {
  length_is = omega (arith, A.next);
  bytes = A.bytes ∙ sets-eq text l 0 R.room ∙ ap (λ (k : ℕ). text ++ drop k l) (zero-add (length text));
}

-- ---- a refusal

module _ {l : List ℕ} (long : max_text_bytes ≤ length l) (number place : ℕ) where
  pub refusal-room : Room l 0 (refusal_text number place)
  refusal-room = record { room = omega (arith, refusal-length number place) }

  pub refusal-written : {r : ℕ} {m : List ℕ} → Appended l 0 (refusal_text number place) r m → Written (shown (refused number place)) l (record { length = r }) m
  refusal-written A = rw (refusal-line number place) (written refusal-room A)

-- ---- tables

module _ (t : Schema) (i : Instance) (links values : List ℕ) (Z : Sized t i) (P : Printable t i links values) where
  -- ---- what the arrays hold

  pub tables-few : length (counts_of t i) ≤ max_nodes
  tables-few = omega (arith, counts_long Z, P.limits.nodes)

  pub rows_few : (d : ℕ) → d < length (counts_of t i) → get_or (counts_of t i) d 0 ≤ max_rows
  rows_few d h =
      let n : d < t.graph.nodes = omega (arith, counts_long Z) in
      let a : get_or (counts_of t i) d 0 ≡ get_or i.counts d 0 = get_or-take t.graph.nodes i.counts d 0 n in
      let b = tabulate-get_or t.graph.nodes (λ c. get_or i.counts c 0) 0 d n in
      omega (arith, get_or-sum (tables_of t i links values).counts d, P.rows)

  pub columns-fit : ColumnsFit (source_of t) links (node_of t) values
  columns-fit = record {
    for_links = omega (arith, source-long Z, P.room.for_links);
    for_values = omega (arith, node_long Z, P.room.for_values);
  }

  -- ---- the text

  abbrev header : List ℕ
  header = header_text t.graph.nodes (sum_of (tables_of t i links values).counts)

  whole : printed (migrated_of t i links values) ≡ header ++ rows_text t i links values
  whole = printed-same t i links values Z

  whole-fits : length (header ++ rows_text t i links values) ≤ max_text_bytes
  whole-fits =
      le_trans (le_of_eq (sym (ap length whole)))
      (printed-length (schema_of t) (tables_of t i links values) P.limits.nodes (omega (arith, edges-long t, P.limits.edges)) (omega (arith, attributes-long t, P.limits.attributes)) P.rows (λ e h r. P.targets e (omega (arith, edges-long t)) r))

  module _ (l : List ℕ) (long : max_text_bytes ≤ length l) where
    whole_room : Room l 0 (header ++ rows_text t i links values)
    whole_room = record { room = omega (arith, whole-fits) }

    pub header-room : Room l 0 header
    header-room = room-first header (rows_text t i links values) whole_room

    module _ {p : ℕ} {m : List ℕ} (A : Appended l 0 header p m) where
      pub rows-room : Room m p (rows_text t i links values)
      rows-room = room-then A (rows_text t i links values) whole_room

      pub tables-written : {r : ℕ} {n : List ℕ} → Appended m p (rows_text t i links values) r n → Written (printed (migrated_of t i links values)) l (record { length = r }) n
      tables-written {r} {n} B = subst (λ (w : List ℕ). Written w l (record { length = r }) n) (sym whole) (written whole_room (appended_then A B))
