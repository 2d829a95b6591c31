-- Accepted instances in working arrays are valid, as `agreement` has it.
use Prim.Native.Nat.{ℕ, ◌*◌, ◌+◌, ◌<◌}
use mathlib.Core.Path.{◌≡◌, sym, ap, ◌∙◌}
use mathlib.Core.List.{List, []}
use lib.ListN.{length, get_or}
use Rattle.theory.proofs.Numbering.{tabulate-length, tabulate-get_or}
use Rattle.meaning.specs.Schema.{Attribute}
use Rattle.meaning.specs.Formats as formats
use Rattle.meaning.specs.Formats.{kinds}
use Rattle.meaning.specs.Views.{Shaped, count}
use Rattle.agreement.proofs.Instances.{instance-is}
use Rattle.agreement.specs.Valid.{ValidInstance}
use Rattle.schema.specs.declared.Schema.{Schema}
use Rattle.schema.specs.Decoded.{schema_of}
use Rattle.schema.specs.Judged.{Sound}
use Rattle.schema.proofs.GraphEdges.{edges-count, source-at}
use Rattle.schema.proofs.SoundSchema.{source_in, home_in}
use Rattle.instance.specs.declared.Instance.{Instance}
use Rattle.instance.specs.Decoded.{rows_of, column_of, columns_of, tables_of, Limits}
use Rattle.instance.specs.Tested.{Accepted}
use Rattle.instance.proofs.Following.{count_at}

module _ {t : Schema} (A : Sound t) (i : Instance) (links values : List ℕ) where
  abbrev I : formats.Instance
  I = tables_of t i links values

  abbrev attribute : ℕ → Attribute
  attribute a = record { node = get_or t.node a 0; kind = get_or t.kind a 0 }

  column-length : (n : ℕ) (rows : ℕ → ℕ) (l : List ℕ) (k : ℕ) → k < n → length (get_or (columns_of n rows l) k []) ≡ rows k
  column-length n rows l k h =
      ap length (tabulate-get_or n (λ j. column_of l (512 * j) (rows j)) [] k h) ∙ tabulate-length (rows k) (λ r. get_or l (512 * k + r) 0)

  pub tables-shaped : Shaped (schema_of t) I
  tables-shaped = record {
    tables = tabulate-length t.graph.nodes (λ k. get_or i.counts k 0);
    edges = tabulate-length t.graph.edges (λ k. column_of links (512 * k) (rows_of t.graph.source i.counts k)) ∙ sym (edges-count t.graph.edges t.graph.source t.graph.target);
    attributes = tabulate-length t.attributes (λ k. column_of values (512 * k) (rows_of t.node i.counts k)) ∙ sym (tabulate-length t.attributes attribute);
    links = λ e l.
        let h : e < t.graph.edges = rw (edges-count t.graph.edges t.graph.source t.graph.target) at l in
        column-length t.graph.edges (rows_of t.graph.source i.counts) links e h
        ∙ sym (ap (count I) (source-at t.graph.edges t.graph.source t.graph.target e h) ∙ count_at t A i links values (get_or t.graph.source e 0) (source_in t A e h));
    values = λ a l.
        let h : a < t.attributes = rw (tabulate-length t.attributes attribute) at l in
        column-length t.attributes (rows_of t.node i.counts) values a h
        ∙ sym (ap (λ (x : Attribute). count I x.node) (tabulate-get_or t.attributes attribute _ a h) ∙ count_at t A i links values (get_or t.node a 0) (home_in t A a h));
  }

  pub accepted-valid : Limits t i → Accepted t i links values → ValidInstance (schema_of t) I
  accepted-valid L H = record { shaped = tables-shaped; is = instance-is kinds (schema_of t) I tables-shaped H.links_in H.values_in H.obeys; few_rows = L.rows }
