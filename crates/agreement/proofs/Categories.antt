-- In a category two paths are found equal exactly when a chain of steps leads from one to the other, and a path stands for its class exactly when it is the
-- theory's first; a schema without a loop presents such a category.
use Prim.Native.Nat.{ℕ}
use mathlib.Core.Path.{◌≡◌, refl, sym, ap, ◌∙◌, subst}
use mathlib.Core.Bool.{true, false}
use mathlib.Core.List.{List}
use mathlib.Core.Logic.{◌↔◌}
use Rattle.theory.specs.Schema.{IsPath, endpoint, Chain, IsFirst}
use Rattle.theory.proofs.Schema.{chain-path}
use Rattle.theory.proofs.Order.{first_one}
use Rattle.meaning.specs.Schema.{Path, path, Schema, target, end}
use Rattle.meaning.specs.Category.{Category, equal, is_first, listed_category}
use Rattle.meaning.specs.Views.{schema_of}
use Rattle.meaning.proofs.Facts.{SchemaFacts}
use Rattle.meaning.proofs.Lists.{test-false}
use Rattle.agreement.specs.Paths.{EqualPaths, WellFormed}
use Rattle.agreement.specs.Categories.{IsCategory}
use Rattle.agreement.proofs.Paths.{schema_is, paths_from-each, paths_from-sorted, identical-iff}
use Rattle.agreement.proofs.FirstPaths.{equal_paths-sym, equal_paths-trans, first-is}

module _ {C : Category} (c : IsCategory C) where
  -- equal paths have one first path
  pub first-same : (p q : Path) → IsPath (schema_of C.schema) p.start p.edges → IsPath (schema_of C.schema) q.start q.edges
      → EqualPaths C.schema p q → C.first_path p ≡ C.first_path q
  first-same p q h k e =
      let a = c.first p h in
      let b = c.first q k in
      let r = equal_paths-trans (equal_paths-sym a.equal) (equal_paths-trans e b.equal) in
      let d : Chain (schema_of C.schema) p.start (C.first_path p).edges (C.first_path q).edges =
      subst (λ (n : ℕ). Chain (schema_of C.schema) n (C.first_path p).edges (C.first_path q).edges) (sym a.equal.starts) r.chain
      in
      let f : IsFirst (schema_of C.schema) p.start (C.first_path q).edges = subst (λ (n : ℕ). IsFirst (schema_of C.schema) n (C.first_path q).edges) (sym e.starts) b.first in
      let o = first_one a.first f d in
      let s = r.starts in
      λ i. path (s i) (o i)

  pub equal-paths-iff : (p q : Path) → IsPath (schema_of C.schema) p.start p.edges → IsPath (schema_of C.schema) q.start q.edges
      → (equal C p q ≡ true) ↔ EqualPaths C.schema p q
  equal-paths-iff p q h k = (
    λ e.
        let o = (identical-iff (C.first_path p) (C.first_path q)).0 e in
        equal_paths-trans (c.first p h).equal (subst (λ (x : Path). EqualPaths C.schema x q) (sym o) (equal_paths-sym (c.first q k).equal)),
    λ e. (identical-iff (C.first_path p) (C.first_path q)).1 (first-same p q h k e),
  )

  pub equal-iff : (n : ℕ) (p q : List ℕ) → IsPath (schema_of C.schema) n p → IsPath (schema_of C.schema) n q → (equal C (path n p) (path n q) ≡ true) ↔ Chain (schema_of C.schema) n p q
  equal-iff n p q h k = let t = equal-paths-iff (path n p) (path n q) h k in (λ e. (t.0 e).chain, λ d. t.1 (record { starts = refl; chain = d }))

  -- paths with different starts or ends are not equal
  pub unequal : (p q : Path) → IsPath (schema_of C.schema) p.start p.edges → IsPath (schema_of C.schema) q.start q.edges
      → (p.start ≡ q.start → end C.schema.graph p ≡ end C.schema.graph q → ⊥) → equal C p q ≡ false
  unequal p q h k d = test-false (equal C p q) (λ e.
      let t = (equal-paths-iff p q h k).0 e in
      d t.starts ((chain-path (schema_is C.schema c.fits) p.start t.chain h).1 ∙ ap (λ (n : ℕ). endpoint (target C.schema.graph) n q.edges) t.starts))

  pub first-iff : (n : ℕ) (g : List ℕ) → IsPath (schema_of C.schema) n g → (is_first C (path n g) ≡ true) ↔ IsFirst (schema_of C.schema) n g
  first-iff n g h = (
    λ e. subst (λ (x : Path). IsFirst (schema_of C.schema) n x.edges) ((identical-iff (C.first_path (path n g)) (path n g)).0 e) (c.first (path n g) h).first,
    λ f.
        let a = c.first (path n g) h in
        let o = first_one f a.first a.equal.chain in
        let s = a.equal.starts in
        (identical-iff (C.first_path (path n g)) (path n g)).1 (λ i. path (sym s i) (sym o i)),
  )

-- ---- of a schema without a loop

pub schema-well-formed : {S : Schema} → SchemaFacts S → WellFormed S
schema-well-formed f = record { fits = f.well-formed; acyclic = f.loop_free }

pub listed-category : (S : Schema) → WellFormed S → IsCategory (listed_category S)
listed-category S wf = record {
  fits = wf.fits;
  first = first-is S wf;
  from_path = λ n h p m. (paths_from-each S wf n h p).0 m;
  in_order = paths_from-sorted S.graph;
  listed = λ n h g f. (paths_from-each S wf n h (path n g)).1 (refl, f.path);
}
