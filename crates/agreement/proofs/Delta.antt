-- Delta of tables is the theory's Delta, a valid instance, and read back from its sheet.
use Prim.Native.Nat.{ℕ, ◌<◌, ◌≤◌}
use mathlib.Core.Path.{◌≡◌, sym, ap, ◌∙◌}
use mathlib.Core.List.{List, [], map}
use lib.ListN.{length, get_or}
use Rattle.theory.specs.Instance as theory_instance
use Rattle.theory.specs.Instance.{IsInstance, Alike}
use Rattle.theory.specs.Mapping as theory
use Rattle.theory.proofs.Instance.{alike-rows, alike-sym, alike_is}
use Rattle.theory.proofs.Mapping.{delta-is}
use Rattle.meaning.specs.Lists.{sum_of}
use Rattle.meaning.specs.Schema.{Schema, source, attribute_at}
use Rattle.meaning.specs.Category.{Category}
use Rattle.meaning.specs.Formats.{Mapping, Instance, max_rows}
use Rattle.meaning.specs.Views.{Shaped, schema_of, node_image, edge_image, attribute_image, mapping_of, count, rows, column, follow, instance_of}
use Rattle.meaning.specs.Delta.{delta}
use Rattle.agreement.proofs.Tables.{rows-sum}
use Rattle.agreement.specs.Valid.{ValidMapping, ValidInstance}
use Rattle.agreement.proofs.Joined.{map-upto-length, map-upto-get_or}

module _ (S : Schema) (F : Mapping) (J : Instance) where
  delta-count : (c : ℕ) → c < S.graph.nodes → count (delta S F J) c ≡ count J (node_image F c)
  delta-count c h = map-upto-get_or (λ c. count J (node_image F c)) S.graph.nodes 0 c h

  delta-links : (e : ℕ) → e < length S.graph.edges → get_or (delta S F J).links e [] ≡ map (follow J (edge_image F e)) (rows J (node_image F (source S.graph e)))
  delta-links e h = map-upto-get_or (λ e. map (follow J (edge_image F e)) (rows J (node_image F (source S.graph e)))) (length S.graph.edges) [] e h

  delta-column : (a : ℕ) → a < length S.attributes → column (delta S F J) a ≡ column J (attribute_image F a)
  delta-column a h = map-upto-get_or (λ a. column J (attribute_image F a)) (length S.attributes) [] a h

module _ {S T : Category} {F : Mapping} (v : ValidMapping S T F) (J : Instance) where
  -- the tables are the theory's Delta
  pub delta-alike : Alike (schema_of S.schema) (instance_of (delta S.schema F J)) (theory.delta (mapping_of S.schema T.schema F) (instance_of J))
  delta-alike = record {
    count = delta-count S.schema F J;
    link = λ e h x r.
        let n = count J (node_image F (source S.schema.graph e)) in
        let k : x < n = rw (delta-count S.schema F J (source S.schema.graph e) (v.is.s_is.src_in e h)) at r in
        ap (λ (l : List ℕ). get_or l x 0) (delta-links S.schema F J e h) ∙ map-upto-get_or (follow J (edge_image F e)) n 0 x k;
    value = λ a h x r. ap (λ (l : List ℕ). get_or l x 0) (delta-column S.schema F J a h);
  }

  pub delta-shaped : Shaped T.schema J → Shaped S.schema (delta S.schema F J)
  delta-shaped shaped = record {
    tables = map-upto-length (λ c. count J (node_image F c)) S.schema.graph.nodes;
    edges = map-upto-length (λ e. map (follow J (edge_image F e)) (rows J (node_image F (source S.schema.graph e)))) (length S.schema.graph.edges);
    attributes = map-upto-length (λ a. column J (attribute_image F a)) (length S.schema.attributes);
    links = λ e h.
        ap length (delta-links S.schema F J e h)
        ∙ map-upto-length (follow J (edge_image F e)) (count J (node_image F (source S.schema.graph e)))
        ∙ sym (delta-count S.schema F J (source S.schema.graph e) (v.is.s_is.src_in e h));
    values = λ a h.
        ap length (delta-column S.schema F J a h)
        ∙ shaped.values (attribute_image F a) (v.is.attribute-in a h)
        ∙ ap (count J) (v.is.attribute_home a h)
        ∙ sym (delta-count S.schema F J (attribute_at S.schema a).node (v.is.s_is.home_in a h));
  }

  -- Delta is an instance of S: links and values in range, and all path equations
  delta-instance : {Range : ℕ → ℕ → Type 0} → IsInstance Range (schema_of T.schema) (instance_of J) → IsInstance Range (schema_of S.schema) (instance_of (delta S.schema F J))
  delta-instance J-is = alike_is (delta-is v.is J-is) (alike-sym v.is.s_is delta-alike) v.is.s_is

  -- its rows, counted in the theory
  pub delta-rows : Shaped T.schema J → theory_instance.rows (schema_of S.schema) (theory.delta (mapping_of S.schema T.schema F) (instance_of J)) ≡ sum_of (delta S.schema F J).counts
  delta-rows shaped = sym (alike-rows delta-alike) ∙ rows-sum S.schema (delta S.schema F J) (delta-shaped shaped).tables

  -- where it has at most 512 rows
  module _ (i : ValidInstance T.schema J) (few : sum_of (delta S.schema F J).counts ≤ max_rows) where
    pub delta-valid : ValidInstance S.schema (delta S.schema F J)
    delta-valid = record { shaped = delta-shaped i.shaped; is = delta-instance i.is; few_rows = few }
