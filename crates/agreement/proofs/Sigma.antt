-- Sigma of tables along an even mapping is the theory's Sigma, a valid instance with as many rows as the run, and read back from its sheet.
use Prim.Native.Nat.{ℕ, ◌+◌, ◌<◌}
use mathlib.Core.Path.{◌≡◌, sym, ap, ap₂, ◌∙◌}
use mathlib.Core.List.{List, [], ◌∷◌}
use lib.ListN.{length, get_or}
use borrow.Author.Tests.{le-leb}
use Rattle.theory.specs.Schema.{endpoint}
use Rattle.theory.specs.Instance.{IsInstance}
use Rattle.theory.specs.Mapping.{Even}
use Rattle.theory.specs.Sigma.{place, IsSigma}
use Rattle.theory.proofs.Schema.{chain-path}
use Rattle.theory.proofs.Instance.{follow-chain}
use Rattle.theory.proofs.Sigma.{sigma-is, sigma-rows}
use Rattle.meaning.specs.Lists.{concat_map, sum_of}
use Rattle.meaning.specs.Schema.{source, target, attribute_at, end}
use Rattle.meaning.specs.Category.{Category}
use Rattle.meaning.specs.Formats.{Mapping, Instance, max_rows, kinds}
use Rattle.meaning.specs.Views.{Shaped, schema_of, node_image, mapping_of, count, column, value, follow, instance_of}
use Rattle.meaning.specs.Sigma.{fibre, rows_in, first_row, lift, links_along, attribute_over, sigma}
use Rattle.meaning.specs.Calls.{accepted, ensure_fits}
use Rattle.agreement.specs.Valid.{InRange, ValidMapping, ValidInstance}
use Rattle.agreement.proofs.Tables.{rows-sum}
use Rattle.agreement.proofs.Joined.{map-upto-length, map-upto-get_or, fibre-length, fibre-at, rows_in-share, place_is}
use Rattle.agreement.proofs.Evenness.{lift-is, attribute_over-is}

-- ---- the tables, list by list

module _ (S T : Category) (F : Mapping) (I : Instance) where
  -- the targets of c's rows along the edge e of T, and c's column over the attribute b of T
  abbrev links_from : ℕ → ℕ → List ℕ
  links_from e c = links_along S.schema F I c (lift S T F c e)

  abbrev column_from : ℕ → ℕ → List ℕ
  column_from b c = column I (attribute_over S.schema F c b)

  sigma-count : (d : ℕ) → d < T.schema.graph.nodes → count (sigma S T F I) d ≡ rows_in I (fibre S.schema F d)
  sigma-count d h = map-upto-get_or (λ d. rows_in I (fibre S.schema F d)) T.schema.graph.nodes 0 d h

  sigma-links : (e : ℕ) → e < length T.schema.graph.edges → get_or (sigma S T F I).links e [] ≡ concat_map (links_from e) (fibre S.schema F (source T.schema.graph e))
  sigma-links e h = map-upto-get_or (λ e. concat_map (links_from e) (fibre S.schema F (source T.schema.graph e))) (length T.schema.graph.edges) [] e h

  sigma-column : (b : ℕ) → b < length T.schema.attributes → column (sigma S T F I) b ≡ concat_map (column_from b) (fibre S.schema F (attribute_at T.schema b).node)
  sigma-column b h = map-upto-get_or (λ b. concat_map (column_from b) (fibre S.schema F (attribute_at T.schema b).node)) (length T.schema.attributes) [] b h

  links_from-length : (e c : ℕ) → length (links_from e c) ≡ count I c
  links_from-length e c = map-upto-length (λ r. first_row F I (end S.schema.graph (lift S T F c e)) + follow I (lift S T F c e).edges r) (count I c)

module _ {S T : Category} {F : Mapping} (v : ValidMapping S T F) (E : Even (mapping_of S.schema T.schema F)) {I : Instance} (i : ValidInstance S.schema I) where
  column_from-length : (b : ℕ) → b < length T.schema.attributes → (c : ℕ) → c < S.schema.graph.nodes → node_image F c ≡ (attribute_at T.schema b).node → length (column_from S T F I b c) ≡ count I c
  column_from-length b h c l e =
      let o = attribute_over-is v E c l b h (sym e) in
      i.shaped.values (attribute_over S.schema F c b) o.attribute-in ∙ ap (count I) o.home_is

  sigma-shaped : Shaped T.schema (sigma S T F I)
  sigma-shaped = record {
    tables = map-upto-length (λ d. rows_in I (fibre S.schema F d)) T.schema.graph.nodes;
    edges = map-upto-length (λ e. concat_map (links_from S T F I e) (fibre S.schema F (source T.schema.graph e))) (length T.schema.graph.edges);
    attributes = map-upto-length (λ b. concat_map (column_from S T F I b) (fibre S.schema F (attribute_at T.schema b).node)) (length T.schema.attributes);
    links = λ e h.
        let d = source T.schema.graph e in
        ap length (sigma-links S T F I e h)
        ∙ fibre-length S.schema T.schema F I d (links_from S T F I e) S.schema.graph.nodes (λ c l g. links_from-length S T F I e c)
        ∙ sym (sigma-count S T F I d (v.is.t_is.src_in e h) ∙ rows_in-share S.schema T.schema F I d S.schema.graph.nodes);
    values = λ b h.
        let d = (attribute_at T.schema b).node in
        ap length (sigma-column S T F I b h)
        ∙ fibre-length S.schema T.schema F I d (column_from S T F I b) S.schema.graph.nodes (column_from-length b h)
        ∙ sym (sigma-count S T F I d (v.is.t_is.home_in b h) ∙ rows_in-share S.schema T.schema F I d S.schema.graph.nodes);
  }

  -- the tables are the theory's Sigma
  pub sigma-is-sigma : IsSigma (mapping_of S.schema T.schema F) (instance_of I) (instance_of (sigma S T F I))
  sigma-is-sigma = record {
    count = λ d h. sigma-count S T F I d h ∙ rows_in-share S.schema T.schema F I d S.schema.graph.nodes;
    link = λ c x h r e p o l g.
        let n = place (mapping_of S.schema T.schema F) (instance_of I) c x in
        let u = lift-is v E c h e (l, g, v.is.t_is.tgt_in e l) in
        let q = (lift S T F c e).edges in
        let k = E.lift_one c h (e ∷ []) q p u.1 o in
        ap (λ (t : List ℕ). get_or t n 0) (sigma-links S T F I e l)
        ∙ ap (λ (d : ℕ). get_or (concat_map (links_from S T F I e) (fibre S.schema F d)) n 0) g
        ∙ fibre-at S.schema T.schema F I (links_from S T F I e) 0 S.schema.graph.nodes c x (λ b j y. links_from-length S T F I e b) h r
        ∙ map-upto-get_or (λ r. first_row F I (end S.schema.graph (lift S T F c e)) + follow I q r) (count I c) 0 x r
        ∙ ap₂ (λ (d y : ℕ). first_row F I d + y)
        (ap (λ (d : ℕ). endpoint (target S.schema.graph) d q) u.0 ∙ (chain-path v.is.s_is c k u.1.path).1)
        (follow-chain v.is.s_is i.is c k u.1.path x r)
        ∙ sym (place_is S.schema T.schema F I (endpoint (target S.schema.graph) c p) (follow I p x));
    value = λ c x h r b a o l g.
        let n = place (mapping_of S.schema T.schema F) (instance_of I) c x in
        ap (λ (t : List ℕ). get_or t n 0) (sigma-column S T F I b l)
        ∙ ap (λ (d : ℕ). get_or (concat_map (column_from S T F I b) (fibre S.schema F d)) n 0) g
        ∙ fibre-at S.schema T.schema F I (column_from S T F I b) 0 S.schema.graph.nodes c x (λ y j z. column_from-length b l y j (z ∙ sym g)) h r
        ∙ ap (λ (y : ℕ). value I y x) (E.attribute_one c h b (attribute_over S.schema F c b) a (attribute_over-is v E c h b l g) o);
  }

  -- Sigma is an instance of T: links and values in range, and all path equations
  sigma-instance : IsInstance (InRange kinds) (schema_of T.schema) (instance_of (sigma S T F I))
  sigma-instance = sigma-is v.is E i.is sigma-is-sigma

  -- as many rows as the run, so that refusal 15 never arises
  pub sigma-total : sum_of (sigma S T F I).counts ≡ sum_of I.counts
  sigma-total = sym (rows-sum T.schema (sigma S T F I) sigma-shaped.tables) ∙ sigma-rows v.is sigma-is-sigma ∙ rows-sum S.schema I i.shaped.tables

  pub sigma-valid : ValidInstance T.schema (sigma S T F I)
  sigma-valid = record { shaped = sigma-shaped; is = sigma-instance; few_rows = rw sigma-total i.few_rows }

  pub sigma-never-overfull : ensure_fits (sigma S T F I) ≡ accepted (sigma S T F I)
  sigma-never-overfull = rw (le-leb (sum_of (sigma S T F I).counts) max_rows sigma-valid.few_rows)
