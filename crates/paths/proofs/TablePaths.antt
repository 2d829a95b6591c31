-- The table of a schema's paths, by paths: their classes, and the paths from a node.
use Prim.Native.Nat.{ℕ, ◌<◌}
use mathlib.Core.Path.{◌≡◌, refl, sym, ap, ◌∙◌, subst}
use mathlib.Core.List.{List, [], ◌∷◌, Memᴰ}
use mathlib.Core.Logic.{inl, inr}
use native.Mathlib.Omega.{arith}
use borrow.Author.Tests.{eq-eqb, eqb-true}
use lib.ListN.{get_or}
use lib.Dec.{eqb}
use Rattle.theory.specs.Schema.{IsPath, PathBefore}
use Rattle.theory.specs.Pi.{Sorted}
use Rattle.theory.proofs.Order.{sorted-one}
use Rattle.meaning.specs.Lists.{filter}
use Rattle.meaning.specs.Schema as meaning
use Rattle.meaning.specs.Schema.{Path, all_paths, paths_from}
use Rattle.meaning.specs.Views as views
use Rattle.meaning.proofs.Lists.{filter-in, filter-of, sorted_filter}
use Rattle.agreement.specs.Paths.{WellFormed, path_count, number_of, path_at, class_number, Before}
use Rattle.agreement.proofs.Paths.{number_in, number-path, path_at-in, all_paths-each, paths_from-each, before-asymmetric, all_paths-sorted, paths_from-sorted}
use Rattle.agreement.proofs.Classes.{class-least}
use Rattle.schema.specs.declared.Schema.{Schema}
use Rattle.schema.specs.Decoded.{graph_of, schema_of}
use Rattle.schema.specs.Judged.{Sound}
use Rattle.paths.specs.declared.Paths.{Paths}
use Rattle.paths.specs.Classes.{IsPaths}

pub formed : {s : Schema} → Sound s → WellFormed (schema_of s)
formed h = record { fits = h.well-formed; acyclic = h.acyclic }

-- ---- the paths from c among all paths
module _ (S : meaning.Schema) (f : WellFormed S) (c : ℕ) (h : c < S.graph.nodes) where
  from_start : (p : Path) → Memᴰ p (paths_from S.graph c) → p.start ≡ c
  from_start p m = ((paths_from-each S f c h p).0 m).0

  sorted-from : (l : List Path) → ((p : Path) → Memᴰ p l → p.start ≡ c) → Sorted (λ p q. PathBefore p.edges q.edges) l → Sorted Before l
  sorted-from [] k o = tt
  sorted-from (p ∷ l) k o = (λ q m. go q m (o.0 q m), sorted-from l (λ q m. k q (Memᴰ.tail m)) o.1)
    where
      go : (q : Path) → Memᴰ q l → PathBefore p.edges q.edges → Before p q
      go q m (inl a) = inl a
      go q m (inr a) = inr (a.0, inr (k p (Memᴰ.head refl) ∙ sym (k q (Memᴰ.tail m)), a.1))

  pub paths-from : paths_from S.graph c ≡ filter (λ p. eqb p.start c) (all_paths S.graph)
  paths-from = sorted-one Before before-asymmetric (paths_from S.graph c) (filter (λ p. eqb p.start c) (all_paths S.graph))
      (sorted-from (paths_from S.graph c) from_start (paths_from-sorted S.graph c)) (sorted_filter Before (λ p. eqb p.start c) (all_paths S.graph) (all_paths-sorted S.graph))
      (λ p m. let k = (paths_from-each S f c h p).0 m in filter-in (λ p. eqb p.start c) (all_paths S.graph) ((all_paths-each S f p).1 (subst (λ (n : ℕ). IsPath (views.schema_of S) n p.edges) (sym k.0) k.1)) (eq-eqb p.start c k.0))
      (λ p m.
      let k = filter-of (λ p. eqb p.start c) (all_paths S.graph) m in
      let e = eqb-true p.start c k.1 in
      (paths_from-each S f c h p).1 (e, subst (λ (n : ℕ). IsPath (views.schema_of S) n p.edges) e ((all_paths-each S f p).0 k.0)))

-- ---- a schema's table of paths
module _ {s : Schema} {p : Paths} (sound : Sound s) (t : IsPaths (schema_of s) p) where
  abbrev G : meaning.Graph
  G = graph_of s.graph

  counted : (i : ℕ) → i < p.count → i < path_count G
  counted i l = let e = t.table.counted in omega arith

  pub class-at : (i : ℕ) → i < p.count → get_or p.class i 0 ≡ class_number (schema_of s) (path_at G i)
  class-at i l = t.class.each i l

  pub class_low : (i : ℕ) → i < p.count → get_or p.class i 0 < 256
  class_low i l =
      let a = class-least (schema_of s) (formed sound) i (counted i l) in
      let b = t.table.few in
      omega (arith, t.class.each i l)

  -- the paths from c are those that start there by the table
  pub from-table : (c i : ℕ) → c < s.graph.nodes → i < p.count → get_or p.start i 0 ≡ c → Memᴰ (path_at G i) (paths_from G c)
  from-table c i h l e =
      let q : (path_at G i).start ≡ c = sym (t.table.columns.start.each i l) ∙ e in
      let w = (all_paths-each (schema_of s) (formed sound) (path_at G i)).0 (path_at-in G i (counted i l)) in
      (paths_from-each (schema_of s) (formed sound) c h (path_at G i)).1 (q, subst (λ (n : ℕ). IsPath (views.schema_of (schema_of s)) n (path_at G i).edges) q w)

  pub record Numbered (c : ℕ) (q : Path) : Type 0 where
    pub number : ℕ
    pub below : number < p.count
    pub is : path_at G number ≡ q
    pub starts : get_or p.start number 0 ≡ c

  pub numbered : (c : ℕ) → c < s.graph.nodes → (q : Path) → Memᴰ q (paths_from G c) → Numbered c q
  numbered c h q m =
      let k = (paths_from-each (schema_of s) (formed sound) c h q).0 m in
      let w = (all_paths-each (schema_of s) (formed sound) q).1 (subst (λ (n : ℕ). IsPath (views.schema_of (schema_of s)) n q.edges) (sym k.0) k.1) in
      let l : number_of G q < p.count = omega (arith, number_in G w, t.table.counted) in
      record { number = number_of G q; below = l; is = number-path G w; starts = t.table.columns.start.each (number_of G q) l ∙ ap (λ (x : Path). x.start) (number-path G w) ∙ k.0 }
