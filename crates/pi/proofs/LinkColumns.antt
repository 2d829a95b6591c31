-- The links that arrays give are those of Pi.
use Prim.Native.Nat.{ℕ, ◌+◌, ◌*◌, ◌<◌}
use mathlib.Core.Path.{◌≡◌, sym, ap, ap₂, ◌∙◌}
use mathlib.Core.List.{List, [], ◌∷◌, map}
use lib.ListN.{length, get_or}
use Rattle.theory.specs.Numbering.{tabulate}
use Rattle.meaning.specs.Lists.{upto, position, same_list}
use Rattle.meaning.specs.Schema.{path, source, target}
use Rattle.meaning.specs.Pi.{component_at, no_component, pi}
use Rattle.meaning.proofs.Tabulate.{tabulate-same, tabulate-upto}
use Rattle.schema.specs.declared.Schema.{Schema}
use Rattle.schema.specs.Decoded.{graph_of, category_of}
use Rattle.schema.proofs.GraphEdges.{edges-count, source-at, target_at}
use Rattle.paths.specs.declared.Paths.{Paths}
use Rattle.instance.specs.declared.Instance.{Instance}
use Rattle.instance.specs.Decoded.{rows_of, column_of, tables_of}
use Rattle.mapping.specs.declared.Mapping.{Mapping}
use Rattle.mapping.specs.Decoded.{mapping_of}
use Rattle.pi.specs.declared.components.Components.{Components}
use Rattle.pi.specs.Given.{Mapped}
use Rattle.pi.specs.Components.{components_of}
use Rattle.pi.specs.Families.{Gathered, families_of, family_count, FamiliesUpto}
use Rattle.pi.specs.Links.{source_of, target_of, place_after, entry_of, row_place, table_rows, link_row}
use Rattle.pi.proofs.Places.{position-upto}
use Rattle.pi.proofs.Tracing.{width_is, here_in, there-in, place_after_lem}
use Rattle.pi.proofs.ListedRows.{map-places, row_is, entry-is}

module _ {s t : Schema} {paths : Paths} {f : Mapping} {k : Components} {run : Instance} {links counts table : List ℕ} (M : Mapped s t paths f) (K : Gathered s t f k) (L : FamiliesUpto s t f run links t.graph.nodes counts table) where
  -- the row at the end of e from d to h of a row at d
  abbrev restrict_to : ℕ → ℕ → ℕ → List ℕ → List ℕ
  restrict_to d h e rs = map (λ x. get_or rs (component_at (category_of t) (components_of s t f d) x.node (path d (e ∷ x.first.edges))) 0) (components_of s t f h)

  -- where it stands
  abbrev link_to : ℕ → ℕ → ℕ → List ℕ → ℕ
  link_to d h e rs = position (same_list (restrict_to d h e rs)) (families_of s t f run links h)

  module _ (e : ℕ) (l : e < t.graph.edges) where
    abbrev here : ℕ
    here = source_of t.graph e

    abbrev there : ℕ
    there = target_of t.graph e

    abbrev family : ℕ → List ℕ
    family x = get_or (families_of s t f run links here) x []

    module _ (x : ℕ) (h : x < family_count s t f run links here) where
      abbrev taken : ℕ → ℕ
      taken j = entry_of table (64 * ((table_rows counts k.count here).first + x)) (get_or k.count here 0) (place_after t.graph paths k e j)

      restricted : tabulate (get_or k.count there 0) taken ≡ restrict_to here there e (family x)
      restricted =
          ap (λ (n : ℕ). tabulate n taken) (width_is K there (there-in M K e l))
          ∙ tabulate-same (length (components_of s t f there)) (λ j m. entry-is M K L here (here_in M K e l) x h (place_after t.graph paths k e j) ∙ ap (λ (p : ℕ). get_or (family x) p 0) (place_after_lem M K e l j m))
          ∙ map-places (λ c. get_or (family x) (component_at (category_of t) (components_of s t f here) c.node (path here (e ∷ c.first.edges))) 0) no_component (components_of s t f there)

      placed : (w : List ℕ) → row_place table (table_rows counts k.count there).first (get_or counts there 0) w (get_or k.count there 0) ≡ position (same_list w) (families_of s t f run links there)
      placed w =
          ap (λ (n : ℕ). position (λ y. same_list w (column_of table (64 * ((table_rows counts k.count there).first + y)) (get_or k.count there 0))) (upto n)) (L.count there (there-in M K e l))
          ∙ position-upto (λ y. same_list w (column_of table (64 * ((table_rows counts k.count there).first + y)) (get_or k.count there 0))) (same_list w) [] (families_of s t f run links there) (λ y m. ap (same_list w) (row_is M K L there (there-in M K e l) y m))

      link-is : link_row t.graph paths k counts table e x ≡ link_to here there e (family x)
      link-is =
          ap (λ (w : List ℕ). row_place table (table_rows counts k.count there).first (get_or counts there 0) w (get_or k.count there 0)) restricted
          ∙ placed (restrict_to here there e (family x))

    column-is : tabulate (rows_of t.graph.source counts e) (link_row t.graph paths k counts table e) ≡ map (link_to (source (graph_of t.graph) e) (target (graph_of t.graph) e) e) (families_of s t f run links (source (graph_of t.graph) e))
    column-is =
        let a = L.count here (here_in M K e l) in
        tabulate-same (rows_of t.graph.source counts e) (λ x h. link-is x (rw a at h))
        ∙ ap (λ (n : ℕ). tabulate n (λ x. link_to here there e (family x))) a
        ∙ map-places (link_to here there e) [] (families_of s t f run links here)
        ∙ ap₂ (λ (d h : ℕ). map (link_to d h e) (families_of s t f run links d)) (sym (source-at t.graph.edges t.graph.source t.graph.target e l)) (sym (target_at t.graph.edges t.graph.source t.graph.target e l))

  pub links-are : (values : List ℕ) → tabulate t.graph.edges (λ e. tabulate (rows_of t.graph.source counts e) (link_row t.graph paths k counts table e)) ≡ (pi (category_of s) (category_of t) (mapping_of s f) (tables_of s run links values)).links
  links-are values =
      tabulate-upto t.graph.edges column-is
      ∙ ap (λ (n : ℕ). map (λ e. map (link_to (source (graph_of t.graph) e) (target (graph_of t.graph) e) e) (families_of s t f run links (source (graph_of t.graph) e))) (upto n)) (sym (edges-count t.graph.edges t.graph.source t.graph.target))
