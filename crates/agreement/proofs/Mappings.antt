-- Tests 7 and 8 decide the theory's mappings, and each of them its part.
use Prim.Native.Nat.{ℕ, ◌<◌}
use mathlib.Core.Path.{◌≡◌, sym, subst}
use mathlib.Core.Bool.{true, ◌&&◌}
use mathlib.Core.List.{List}
use mathlib.Core.Logic.{◌↔◌}
use lib.ListN.{length}
use lib.Dec.{ltb, eqb}
use borrow.Author.Tests.{ltb-true, lt-ltb, eqb-true, eq-eqb}
use Rattle.theory.specs.Schema.{IsPath, endpoint}
use Rattle.theory.specs.Mapping.{IsMapping, image}
use Rattle.theory.proofs.Mapping.{CarriesPaths, carried-path}
use Rattle.meaning.specs.Lists.{upto, all}
use Rattle.meaning.specs.Schema.{path, Equation, Schema, source, target, attribute_at, joins}
use Rattle.meaning.specs.Category.{Category, equal}
use Rattle.meaning.specs.Formats.{Mapping}
use Rattle.meaning.specs.Views.{IsListed, listed, schema_of, node_image, edge_image, attribute_image, path_image, mapping_of}
use Rattle.meaning.specs.Sheet.{sound}
use Rattle.meaning.specs.Judge.{is_well_formed, judge_mapping, edge_image_fits, attribute_image_fits, images_fit, keeps_equations}
use Rattle.meaning.proofs.Tabulate.{and_both}
use Rattle.meaning.proofs.Lists.{and_intro, all_in, all_of, all-upto, upto_all, all-places, places-all}
use Rattle.agreement.specs.Categories.{IsCategory}
use Rattle.agreement.specs.Valid.{ImagesFit, KeepsEquations}
use Rattle.agreement.proofs.Paths.{schema_is, same-starts, path-iff}
use Rattle.agreement.proofs.Categories.{equal-iff}
use Rattle.meaning.proofs.Facts.{mapping-facts}

-- ---- what test 7 gives

pub record Fits (S T : Schema) (F : Mapping) : Type 0 where
  pub node_in : (c : ℕ) → c < S.graph.nodes → node_image F c < T.graph.nodes
  pub edge_joins : (e : ℕ) → e < length S.graph.edges → joins T.graph (node_image F (source S.graph e)) (edge_image F e) ≡ true
  pub edge_end : (e : ℕ) → e < length S.graph.edges → endpoint (target T.graph) (node_image F (source S.graph e)) (edge_image F e) ≡ node_image F (target S.graph e)
  pub attribute-fits : (a : ℕ) → a < length S.attributes → attribute_image_fits S T F a ≡ true

module _ (S T : Schema) (F : Mapping) where
  edge-fits : (e : ℕ) → edge_image_fits S T F e ≡ true →
      (joins T.graph (node_image F (source S.graph e)) (edge_image F e) ≡ true) ×
      (endpoint (target T.graph) (node_image F (source S.graph e)) (edge_image F e) ≡ node_image F (target S.graph e))
  edge-fits e h =
      let n = node_image F (source S.graph e) in
      let u = and_both (joins T.graph n (edge_image F e)) (eqb (endpoint (target T.graph) n (edge_image F e)) (node_image F (target S.graph e))) h in
      (u.0, eqb-true (endpoint (target T.graph) n (edge_image F e)) (node_image F (target S.graph e)) u.1)

  pub fits : length F.nodes ≡ S.graph.nodes → images_fit S T F ≡ true → Fits S T F
  fits nodes h =
      let n = all (λ d. ltb d T.graph.nodes) F.nodes in
      let e = all (edge_image_fits S T F) (upto (length S.graph.edges)) in
      let a = all (attribute_image_fits S T F) (upto (length S.attributes)) in
      let u = and_both (n && e) a h in
      let v = and_both n e u.0 in
      let edge = upto_all (edge_image_fits S T F) (length S.graph.edges) v.1 in
      record {
        node_in = λ c l. ltb-true (node_image F c) T.graph.nodes (all-places (λ d. ltb d T.graph.nodes) F.nodes 0 v.0 c (rw nodes l));
        edge_joins = λ e l. (edge-fits e (edge e l)).0;
        edge_end = λ e l. (edge-fits e (edge e l)).1;
        attribute-fits = upto_all (attribute_image_fits S T F) (length S.attributes) u.1;
      }

module _ {S T : Schema} {F : Mapping} (s : is_well_formed S ≡ true) (t : is_well_formed T ≡ true) (f : Fits S T F) where
  -- paths are carried to paths
  pub carries : CarriesPaths (mapping_of S T F)
  carries = record {
    node_in = f.node_in;
    edge_path = λ e l.
        let n = node_image F (source S.graph e) in
        (path-iff T t n (edge_image F e)).0 (and_intro (lt-ltb n T.graph.nodes (f.node_in (source S.graph e) ((schema_is S s).src_in e l))) (f.edge_joins e l));
    edge_end = f.edge_end;
  }

module _ (S T : Category) (F : Mapping) (s : IsCategory S) (t : IsCategory T) (nodes : length F.nodes ≡ S.schema.graph.nodes) where
  path-joins : (n : ℕ) (p : List ℕ) → IsPath (schema_of T.schema) n p → joins T.schema.graph n p ≡ true
  path-joins n p h = (and_both (ltb n T.schema.graph.nodes) (joins T.schema.graph n p) ((path-iff T.schema t.fits n p).1 h)).1

  module _ (f : Fits S.schema T.schema F) where
    carried : (n : ℕ) (p : List ℕ) → IsPath (schema_of S.schema) n p → IsPath (schema_of T.schema) (node_image F n) (image (edge_image F) p)
    carried = carried-path (carries s.fits t.fits f)

    keeps : keeps_equations S T F ≡ true → KeepsEquations (mapping_of S.schema T.schema F)
    keeps h n a b (listed {q} m) =
        let r = schema_is S.schema s.fits in
        let e : equal T (path_image F q.left) (path_image F q.right) ≡ true = all_of (λ (q : Equation). equal T (path_image F q.left) (path_image F q.right)) S.schema.equations h m in
        let e' : equal T (path (node_image F n) (image (edge_image F) a)) (path (node_image F n) (image (edge_image F) b)) ≡ true =
        subst (λ (c : ℕ). equal T (path_image F q.left) (path (node_image F c) (image (edge_image F) b)) ≡ true) (sym (same-starts S.schema s.fits q m)) e
        in
        (equal-iff t (node_image F n) (image (edge_image F) a) (image (edge_image F) b) (carried n a (r.left n a b (listed m))) (carried n b (r.right n a b (listed m)))).0 e'

    record Imaged (a : ℕ) : Type 0 where
      exists : attribute_image F a < length T.schema.attributes
      kind : (attribute_at T.schema (attribute_image F a)).kind ≡ (attribute_at S.schema a).kind
      home : (attribute_at T.schema (attribute_image F a)).node ≡ node_image F (attribute_at S.schema a).node

    imaged : (a : ℕ) → a < length S.schema.attributes → Imaged a
    imaged a l =
        let b = attribute_image F a in
        let exists = ltb b (length T.schema.attributes) in
        let kind = eqb (attribute_at T.schema b).kind (attribute_at S.schema a).kind in
        let u = and_both (exists && kind) (eqb (attribute_at T.schema b).node (node_image F (attribute_at S.schema a).node)) (f.attribute-fits a l) in
        let v = and_both exists kind u.0 in
        record { exists = ltb-true b (length T.schema.attributes) v.0; kind = eqb-true (attribute_at T.schema b).kind (attribute_at S.schema a).kind v.1; home = eqb-true (attribute_at T.schema b).node (node_image F (attribute_at S.schema a).node) u.1 }

  -- 7, and 8 where 7 is passed
  pub images-iff : (images_fit S.schema T.schema F ≡ true) ↔ ImagesFit (mapping_of S.schema T.schema F)
  images-iff = (
    λ h.
        let f = fits S.schema T.schema F nodes h in
        let c = carries s.fits t.fits f in
        record {
          node_in = c.node_in;
          edge_path = c.edge_path;
          edge_end = c.edge_end;
          attribute-in = λ a l. (imaged f a l).exists;
          attribute_home = λ a l. (imaged f a l).home;
          attribute_kind = λ a l. (imaged f a l).kind;
        },
    λ is. and_intro (and_intro
        (places-all (λ d. ltb d T.schema.graph.nodes) F.nodes 0 (λ c l. lt-ltb (node_image F c) T.schema.graph.nodes (is.node_in c (rw nodes at l))))
        (all-upto (edge_image_fits S.schema T.schema F) (length S.schema.graph.edges) (λ e l.
        let n = node_image F (source S.schema.graph e) in
        and_intro (path-joins n (edge_image F e) (is.edge_path e l)) (eq-eqb (endpoint (target T.schema.graph) n (edge_image F e)) (node_image F (target S.schema.graph e)) (is.edge_end e l)))))
        (all-upto (attribute_image_fits S.schema T.schema F) (length S.schema.attributes) (λ a l.
        let b = attribute_image F a in
        and_intro (and_intro (lt-ltb b (length T.schema.attributes) (is.attribute-in a l)) (eq-eqb (attribute_at T.schema b).kind (attribute_at S.schema a).kind (is.attribute_kind a l)))
        (eq-eqb (attribute_at T.schema b).node (node_image F (attribute_at S.schema a).node) (is.attribute_home a l)))),
  )

  pub keeps-iff : images_fit S.schema T.schema F ≡ true → (keeps_equations S T F ≡ true) ↔ KeepsEquations (mapping_of S.schema T.schema F)
  keeps-iff h = (keeps f, equations-kept)
    where
      f : Fits S.schema T.schema F
      f = fits S.schema T.schema F nodes h

      equations-kept : KeepsEquations (mapping_of S.schema T.schema F) → keeps_equations S T F ≡ true
      equations-kept is =
          all_in (λ (q : Equation). equal T (path_image F q.left) (path_image F q.right)) S.schema.equations (λ q m.
          let r = schema_is S.schema s.fits in
          let n = q.left.start in
          let a = q.left.edges in
          let b = q.right.edges in
          let q-is : IsListed S.schema n a b = listed m in
          let e : equal T (path (node_image F n) (image (edge_image F) a)) (path (node_image F n) (image (edge_image F) b)) ≡ true =
          (equal-iff t (node_image F n) (image (edge_image F) a) (image (edge_image F) b) (carried f n a (r.left n a b q-is)) (carried f n b (r.right n a b q-is))).1 (is n a b q-is)
          in
          subst (λ (c : ℕ). equal T (path_image F q.left) (path (node_image F c) (image (edge_image F) b)) ≡ true) (same-starts S.schema s.fits q m) e)

  pub mapping-is : images_fit S.schema T.schema F ≡ true → keeps_equations S T F ≡ true → IsMapping (mapping_of S.schema T.schema F)
  mapping-is h k =
      let i = images-iff.0 h in
      record {
        s_is = schema_is S.schema s.fits;
        t_is = schema_is T.schema t.fits;
        node_in = i.node_in;
        edge_path = i.edge_path;
        edge_end = i.edge_end;
        equation = (keeps-iff h).0 k;
        attribute-in = i.attribute-in;
        attribute_home = i.attribute_home;
        attribute_kind = i.attribute_kind;
      }

  pub mapping-iff : ((images_fit S.schema T.schema F ≡ true) × (keeps_equations S T F ≡ true)) ↔ IsMapping (mapping_of S.schema T.schema F)
  mapping-iff = (λ h. mapping-is h.0 h.1, λ is. let h = images-iff.1 (images is) in (h, (keeps-iff h).1 is.equation))
    where
      images : IsMapping (mapping_of S.schema T.schema F) → ImagesFit (mapping_of S.schema T.schema F)
      images is = record {
        node_in = is.node_in;
        edge_path = is.edge_path;
        edge_end = is.edge_end;
        attribute-in = is.attribute-in;
        attribute_home = is.attribute_home;
        attribute_kind = is.attribute_kind;
      }

-- ---- of accepted sheets

pub mapping-judged : {S T : Category} → IsCategory S → IsCategory T → (f : List ℕ) {F : Mapping} → judge_mapping S T f ≡ sound F → IsMapping (mapping_of S.schema T.schema F)
mapping-judged {S} {T} s t f {F} e = let m = mapping-facts S T f e in mapping-is S T F s t m.nodes m.fits m.keeps
