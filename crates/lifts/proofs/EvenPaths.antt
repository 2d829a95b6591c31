-- The paths' part of evenness, by the tables of paths: each class over a class of T is the class of all paths over it, and each path of T has one.
use Prim.Native.Nat.{ℕ, ◌<◌}
use mathlib.Core.Path.{◌≡◌, refl, sym, ap, ◌∙◌, subst}
use mathlib.Core.Bool.{Bool, true, false, cond, ◌&&◌}
use mathlib.Core.List.{List, Memᴰ}
use native.Mathlib.Omega.{arith}
use borrow.Author.Tests.{eq-eqb, eqb-true}
use lib.ListN.{get_or}
use lib.Dec.{eqb}
use Rattle.meaning.specs.Lists.{upto, all}
use Rattle.meaning.specs.Schema as meaning
use Rattle.meaning.specs.Schema.{Path, paths_from}
use Rattle.meaning.specs.Category.{equal}
use Rattle.meaning.specs.Formats as formats
use Rattle.meaning.specs.Views.{node_image, path_image}
use Rattle.meaning.specs.Evenness.{lifts, one_class}
use Rattle.meaning.proofs.Tabulate.{and_both}
use Rattle.meaning.proofs.Lists.{and_intro, both_ways, filter-in, filter-of, all_in, all_of, all-upto, upto_all}
use Rattle.agreement.specs.Paths.{path_at, class_number, number_of}
use Rattle.agreement.proofs.Paths.{paths_from-each}
use Rattle.agreement.proofs.Evenness.{one_class-some, one_class-same, same-one_class}
use Rattle.agreement.proofs.Classes.{same_first, equal-classes}
use Rattle.schema.specs.declared.Schema.{Schema}
use Rattle.schema.specs.Decoded.{schema_of, category_of}
use Rattle.paths.specs.declared.Paths.{Paths}
use Rattle.paths.specs.Table.{Filled}
use Rattle.paths.proofs.TablePaths.{formed, class-at, class_low, from-table, numbered}
use Rattle.mapping.specs.declared.Mapping.{Mapping}
use Rattle.mapping.specs.Decoded.{mapping_of}
use Rattle.mapping.specs.Judged.{Schemas, Imageable, Sound, image_number}
use Rattle.mapping.proofs.Viewing.{node_at}
use Rattle.mapping.proofs.Imaging.{image-path}
use Rattle.mapping.proofs.ImageTable.{images, image-class}
use Rattle.std.specs.Prelude.{Option, Some, None, is_some}
use Rattle.lifts.specs.Even.{image_class, lift_classes, is_class, unique_at, has_lift_at, even_paths_at}
use Rattle.lifts.proofs.Lifting.{lifts-some, lifts-every, is_class-some, value_of, some-is, is-some}

-- ---- tests
cond-is : (a b : Bool) → (a ≡ true → b ≡ true) → cond a b true ≡ true
cond-is true b h = h refl
cond-is false b h = refl

some_one : {x y : ℕ} → Some x ≡ Some y → x ≡ y
some_one e = cc

-- ---- both tables
module _ {s t : Schema} {source-paths target-paths : Paths} {f : Mapping} (h : Schemas s t source-paths target-paths) (k : Sound s t f) {over : List ℕ} (o : Filled 256 (image_class (schema_of s) (schema_of t) (mapping_of s f)) source-paths.count over) where
  abbrev S : meaning.Schema
  S = schema_of s

  abbrev T : meaning.Schema
  T = schema_of t

  abbrev F : formats.Mapping
  F = mapping_of s f

  passed : Imageable s t source-paths target-paths f
  passed = record { schemas = h; short = k.short; fits = k.fits }

  over-low : (i : ℕ) → i < source-paths.count → get_or over i 0 < 256
  over-low i l =
      let c = image-class passed i l in
      omega (arith, o.each i l, c.is, class_low h.target h.target-paths (image_number S T F i) c.low)

  -- a path of S lies over a path of T where their classes are one
  over-in : (c : ℕ) (q p : Path) → Memᴰ p (paths_from S.graph c) → class_number T (path_image F p) ≡ class_number T q → Memᴰ p (lifts (category_of s) (category_of t) F c q)
  over-in c q p i e = filter-in (λ x. equal (category_of t) (path_image F x) q) (paths_from S.graph c) i (equal-classes T (path_image F p) q ∙ eq-eqb (class_number T (path_image F p)) (class_number T q) e)

  over-of : (c : ℕ) (q p : Path) → Memᴰ p (lifts (category_of s) (category_of t) F c q) → Memᴰ p (paths_from S.graph c) × (class_number T (path_image F p) ≡ class_number T q)
  over-of c q p i = let u = filter-of (λ x. equal (category_of t) (path_image F x) q) (paths_from S.graph c) i in (u.0, eqb-true (class_number T (path_image F p)) (class_number T q) (sym (equal-classes T (path_image F p) q) ∙ u.1))

  module _ (c : ℕ) (l : c < s.graph.nodes) where
    abbrev d : ℕ
    d = node_image F c

    d-in : d < t.graph.nodes
    d-in = (images passed).node_in c l

    abbrev classes_over : List (Option ℕ)
    classes_over = lift_classes source-paths.start source-paths.class over c source-paths.count

    abbrev unique : ℕ → Bool
    unique = unique_at source-paths.start source-paths.class over classes_over c

    abbrev has_lift : ℕ → Bool
    has_lift = has_lift_at target-paths.start target-paths.class classes_over (get_or f.node c 0)

    every : (i : ℕ) → i < source-paths.count → get_or source-paths.start i 0 ≡ c → get_or classes_over (get_or over i 0) None ≡ None → ⊥
    every i b e = lifts-every source-paths.start source-paths.class over c source-paths.count i b (over-low i b) e

    -- ---- from the arrays
    module _ (a : all unique (upto source-paths.count) ≡ true) (e : all has_lift (upto target-paths.count) ≡ true) where
      unique-class : (p : Path) → Memᴰ p (paths_from S.graph c) → get_or classes_over (class_number T (path_image F p)) None ≡ Some (class_number S p)
      unique-class p i =
          let n = numbered h.source h.source-paths c l p i in
          let x = n.number in
          let u : get_or classes_over (get_or over x 0) None ≡ Some (get_or source-paths.class x 0) =
          is_class-some (get_or classes_over (get_or over x 0) None) (get_or source-paths.class x 0)
          (subst (λ (b : Bool). cond b (is_class (get_or classes_over (get_or over x 0) None) (get_or source-paths.class x 0)) true ≡ true) (eq-eqb (get_or source-paths.start x 0) c n.starts) (upto_all unique source-paths.count a x n.below)) in
          subst (λ (w : Path). get_or classes_over (class_number T (path_image F w)) None ≡ Some (class_number S w)) n.is
          (ap (λ (y : ℕ). get_or classes_over y None) (sym (o.each x n.below)) ∙ u ∙ ap Some (class-at h.source h.source-paths x n.below))

      some-lift : (q : Path) → Memᴰ q (paths_from T.graph d) → (p : Path) × Memᴰ p (lifts (category_of s) (category_of t) F c q)
      some-lift q i =
          let n = numbered h.target h.target-paths d d-in q i in
          let y = n.number in
          let u : is_some (get_or classes_over (get_or target-paths.class y 0) None) ≡ true =
          subst (λ (b : Bool). cond b (is_some (get_or classes_over (get_or target-paths.class y 0) None)) true ≡ true) (eq-eqb (get_or target-paths.start y 0) (get_or f.node c 0) (n.starts ∙ node_at s f c l)) (upto_all has_lift target-paths.count e y n.below) in
          let w = value_of (get_or classes_over (get_or target-paths.class y 0) None) (is-some (get_or classes_over (get_or target-paths.class y 0) None) u) in
          let v = lifts-some source-paths.start source-paths.class over c source-paths.count (get_or target-paths.class y 0) w.0 (class_low h.target h.target-paths y n.below) w.1 in
          let x = v.number in (
            path_at S.graph x,
            over-in c q (path_at S.graph x) (from-table h.source h.source-paths c x l v.below v.starts)
                (sym (o.each x v.below) ∙ v.lies ∙ class-at h.target h.target-paths y n.below ∙ ap (class_number T) n.is),
          )

      one-lift : (q : Path) → Memᴰ q (paths_from T.graph d) → one_class (category_of s) (lifts (category_of s) (category_of t) F c q) ≡ true
      one-lift q i = same-one_class (category_of s) (lifts (category_of s) (category_of t) F c q) (some-lift q i).1 (λ p r x y.
          let u = over-of c q p x in
          let v = over-of c q r y in
          same_first S p r (some_one (sym (unique-class p u.0) ∙ ap (λ (z : ℕ). get_or classes_over z None) (u.1 ∙ sym v.1) ∙ unique-class r v.0)))

    -- ---- to the arrays
    module _ (e : all (λ q. one_class (category_of s) (lifts (category_of s) (category_of t) F c q)) (paths_from T.graph d) ≡ true) where
      image-from : (x : ℕ) → x < source-paths.count → get_or source-paths.start x 0 ≡ c → Memᴰ (path_image F (path_at S.graph x)) (paths_from T.graph d)
      image-from x b z =
          let p = path_at S.graph x in
          let w = (paths_from-each S (formed h.source) c l p).0 (from-table h.source h.source-paths c x l b z) in
          (paths_from-each T (formed h.target) d d-in (path_image F p)).1 (ap (node_image F) w.0, image-path (formed h.source) (formed h.target) (images passed) c p.edges w.1)

      each-unique : (x : ℕ) → x < source-paths.count → unique x ≡ true
      each-unique x b = cond-is (eqb (get_or source-paths.start x 0) c) (is_class (get_or classes_over (get_or over x 0) None) (get_or source-paths.class x 0)) (λ z.
          let st = eqb-true (get_or source-paths.start x 0) c z in
          let q = path_image F (path_at S.graph x) in
          let w = value_of (get_or classes_over (get_or over x 0) None) (every x b st) in
          let v = lifts-some source-paths.start source-paths.class over c source-paths.count (get_or over x 0) w.0 (over-low x b) w.1 in
          let y = v.number in
          let one = all_of (λ (q : Path). one_class (category_of s) (lifts (category_of s) (category_of t) F c q)) (paths_from T.graph d) e (image-from x b st) in
          let same = one_class-same (category_of s) (lifts (category_of s) (category_of t) F c q) one (path_at S.graph y) (path_at S.graph x)
          (over-in c q (path_at S.graph y) (from-table h.source h.source-paths c y l v.below v.starts) (sym (o.each y v.below) ∙ v.lies ∙ o.each x b))
          (over-in c q (path_at S.graph x) (from-table h.source h.source-paths c x l b st) refl) in
          ap (λ (u : Option ℕ). is_class u (get_or source-paths.class x 0)) w.1
          ∙ eq-eqb w.0 (get_or source-paths.class x 0)
          (sym v.has ∙ class-at h.source h.source-paths y v.below ∙ ap (number_of S.graph) same ∙ sym (class-at h.source h.source-paths x b)))

      each-has-lift : (y : ℕ) → y < target-paths.count → has_lift y ≡ true
      each-has-lift y b = cond-is (eqb (get_or target-paths.start y 0) (get_or f.node c 0)) (is_some (get_or classes_over (get_or target-paths.class y 0) None)) (λ z.
          let st : get_or target-paths.start y 0 ≡ d = eqb-true (get_or target-paths.start y 0) (get_or f.node c 0) z ∙ sym (node_at s f c l) in
          let q = path_at T.graph y in
          let p = one_class-some (category_of s) (lifts (category_of s) (category_of t) F c q) (all_of (λ (q : Path). one_class (category_of s) (lifts (category_of s) (category_of t) F c q)) (paths_from T.graph d) e (from-table h.target h.target-paths d y d-in b st)) in
          let u = over-of c q p.0 p.1 in
          let n = numbered h.source h.source-paths c l p.0 u.0 in
          let x = n.number in
          let lies_over : get_or over x 0 ≡ get_or target-paths.class y 0 = o.each x n.below ∙ ap (λ (w : Path). class_number T (path_image F w)) n.is ∙ u.1 ∙ sym (class-at h.target h.target-paths y b) in
          some-is (get_or classes_over (get_or target-paths.class y 0) None) (λ r. every x n.below n.starts (ap (λ (w : ℕ). get_or classes_over w None) lies_over ∙ r)))

    pub even-paths : even_paths_at source-paths target-paths over f.node c ≡ all (λ q. one_class (category_of s) (lifts (category_of s) (category_of t) F c q)) (paths_from T.graph d)
    even-paths = both_ways (all unique (upto source-paths.count) && all has_lift (upto target-paths.count)) (all (λ q. one_class (category_of s) (lifts (category_of s) (category_of t) F c q)) (paths_from T.graph d))
        (λ e. let u = and_both (all unique (upto source-paths.count)) (all has_lift (upto target-paths.count)) e in all_in (λ (q : Path). one_class (category_of s) (lifts (category_of s) (category_of t) F c q)) (paths_from T.graph d) (λ q i. one-lift u.0 u.1 q i))
        (λ e. and_intro (all-upto unique source-paths.count (each-unique e)) (all-upto has_lift target-paths.count (each-has-lift e)))
