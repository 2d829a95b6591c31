-- The chain between two paths by their numbers in the table: they are equal where they are in one class, and the chain down the levels is the first one.
use Prim.Native.Nat.{ℕ, ◌<◌, ◌≤◌}
use mathlib.Core.Path.{◌≡◌, sym, ap, ap₂, ◌∙◌, subst}
use mathlib.Core.Bool.{Bool, true, false, cond}
use mathlib.Core.List.{List, map}
use mathlib.Core.Option.{none, some}
use native.Mathlib.Omega.{arith}
use lib.ListN.{get_or}
use lib.Dec.{eqb}
use borrow.Author.Tests.{lt-ltb}
use Rattle.theory.specs.Schema.{IsPath}
use Rattle.meaning.specs.Schema as meaning
use Rattle.meaning.specs.PathChain.{first_chain}
use Rattle.meaning.specs.Category.{equal}
use Rattle.meaning.specs.Views as views
use Rattle.meaning.proofs.Lists.{no_bool}
use Rattle.meaning.proofs.StepNumbers.{step_of}
use Rattle.agreement.specs.Paths.{WellFormed, path_at}
use Rattle.agreement.specs.PathChains.{IsDistance}
use Rattle.agreement.proofs.Paths.{path-iff}
use Rattle.agreement.proofs.Categories.{equal-paths-iff, listed-category}
use Rattle.agreement.proofs.Distances.{distance-chain, no_chain}
use Rattle.agreement.proofs.Classes.{equal-classes}
use Rattle.schema.specs.declared.Path.{Path}
use Rattle.schema.specs.declared.Schema.{Schema}
use Rattle.schema.specs.Decoded.{front_of, path_of, graph_of, schema_of, category_of}
use Rattle.schema.specs.Judged.{Sound, SoundPath}
use Rattle.paths.specs.declared.Paths.{Paths}
use Rattle.paths.specs.PathWalks.{walk_from, WalkIn}
use Rattle.paths.specs.Classes.{IsPaths}
use Rattle.paths.proofs.PathWalks.{Numbered}
use Rattle.paths.proofs.EquationPairs.{table-index, path-numbered, path-class}
use Rattle.chain.specs.Levels.{Linked, Reaches}
use Rattle.chain.specs.Nearer.{Descended}
use Rattle.chain.specs.Found.{chain_of}

module _ (t : Schema) (p : Paths) (sound : Sound t) (paths : IsPaths (schema_of t) p) where
  abbrev S : meaning.Schema
  S = schema_of t

  well : WellFormed S
  well = record { fits = sound.well-formed; acyclic = sound.acyclic }

  is-path : {w : Path} → SoundPath t.graph w → IsPath (views.schema_of S) (path_of w).start (path_of w).edges
  is-path {w} h = (path-iff S sound.well-formed (path_of w).start (path_of w).edges).0 h.path

  -- a judged path's edges stay in the table
  pub walk-ready : {w : Path} → SoundPath t.graph w → (w.length ≤ 16) × WalkIn p.first p.rank w.start (path_of w).edges
  walk-ready h = (omega (arith, h.short), (path-numbered t p sound paths.table h).within)

  -- the number of a judged path, as it is walked
  pub record NumberOf (w : Path) (x : ℕ) : Type 0 where
    pub walked : x ≡ walk_from p.first p.rank w.start (path_of w).edges
    pub path : SoundPath t.graph w

  module _ {w : Path} {x : ℕ} (is : NumberOf w x) where
    numbered : Numbered (graph_of t.graph) sound.acyclic (table-index t p sound paths.table) (path_of w) x
    numbered = rw is.walked (path-numbered t p sound paths.table is.path)

    pub number_low : x < 256
    number_low = omega (arith, numbered.below, paths.table.counted, paths.table.few)

    path-at : path_at S.graph x ≡ path_of w
    path-at = numbered.is

  module _ {a b : Path} {x y : ℕ} (first : NumberOf a x) (second : NumberOf b y) where
    same_test : eqb (get_or p.class x 0) (get_or p.class y 0) ≡ equal (category_of t) (path_of a) (path_of b)
    same_test =
        ap₂ eqb (path-class t p sound paths.table paths.class first.path first.walked) (path-class t p sound paths.table paths.class second.path second.walked)
        ∙ sym (equal-classes S (path_of a) (path_of b))

    pub linked : eqb (get_or p.class x 0) (get_or p.class y 0) ≡ true → Linked S x y
    linked e = record {
      x_in = (numbered first).below;
      y_in = (numbered second).below;
      equal = rw (path-at first, path-at second) ((equal-paths-iff (listed-category S well) (path_of a) (path_of b) (is-path first.path) (is-path second.path)).0 (sym same_test ∙ e));
    }

    pub none_found : eqb (get_or p.class x 0) (get_or p.class y 0) ≡ false → none ≡ first_chain S (path_of a) (path_of b)
    none_found e =
        sym (no_chain S well (path_of a) (path_of b) (λ h.
        no_bool (sym ((equal-paths-iff (listed-category S well) (path_of a) (path_of b) (is-path first.path) (is-path second.path)).1 h) ∙ sym same_test ∙ e)))

    pub chain-found : {l : List ℕ} (steps : List ℕ) {n : ℕ} → n ≡ get_or l x 0 → Reaches S x y l → Descended S l x n steps → chain_of n steps ≡ first_chain S (path_of a) (path_of b)
    chain-found {l} steps {n} away r d =
        let u : meaning.Path = path_at S.graph x in
        let v : meaning.Path = path_at S.graph y in
        let h : IsDistance S v u n = subst (IsDistance S v u) (sym away) r.here in
        let k : IsPath (views.schema_of S) u.start u.edges = rw (path-at first) (is-path first.path) in
        let c : first_chain S u v ≡ some (map step_of (front_of n steps)) = distance-chain S well u v k h ∙ d y r in
        ap (λ (z : Bool). cond z (some (map step_of (front_of n steps))) none) (lt-ltb n 256 (omega (arith, r.few, away))) ∙ sym c ∙ ap₂ (first_chain S) (path-at first) (path-at second)
