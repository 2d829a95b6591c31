-- What a step makes of a path, in the table of paths: the landing by the columns of the table is the number of the path that is made.
use Prim.Native.Nat.{ℕ, ◌+◌, ◌<◌, ◌≤◌}
use mathlib.Core.Path.{◌≡◌, refl, sym, ap, ap₂, ◌∙◌, subst}
use mathlib.Core.Bool.{Bool, true, false, cond}
use mathlib.Core.List.{List, [], ◌++◌, append_assoc}
use native.Mathlib.Omega.{arith}
use lib.ListN.{length, get_or, take, drop, length-append, take-append-drop}
use lib.Seq.{length-take-le, take_at}
use lib.Dec.{ltb, eqb}
use borrow.Author.Tests.{ltb-false, le-ltb, eqb-true, eq-eqb}
use Rattle.theory.specs.Schema.{IsPath}
use Rattle.theory.proofs.Schema.{path-last}
use Rattle.theory.proofs.Numbering.{tabulate-length, tabulate-get_or}
use Rattle.meaning.specs.Schema as meaning
use Rattle.meaning.specs.Schema.{end, joins}
use Rattle.meaning.specs.PathChain.{Step, equation_at, old_side, new_side, is_step, made}
use Rattle.meaning.specs.Views as views
use Rattle.meaning.proofs.Tabulate.{and_both}
use Rattle.meaning.proofs.Lists.{no_bool}
use Rattle.agreement.specs.Paths.{path_count, number_of, path_at}
use Rattle.agreement.proofs.Paths.{path-iff, path-short, all_paths-each, number_in, number-path, number_at, path_at-in}
use Rattle.agreement.proofs.Steps.{is_step-of, is_step-in, old-split, stands-split, made-path}
use Rattle.schema.specs.declared.Path.{Path}
use Rattle.schema.specs.declared.Schema.{Schema}
use Rattle.schema.specs.Decoded.{graph_of, path_of, no_path, equation_of, schema_of}
use Rattle.schema.specs.Judged.{Sound}
use Rattle.schema.proofs.SoundSchema.{sides-at}
use Rattle.paths.specs.declared.Paths.{Paths}
use Rattle.paths.specs.Table.{IsTable}
use Rattle.paths.specs.PathNumbers.{start_of, end_of}
use Rattle.paths.specs.PathWalks.{walk_from}
use Rattle.paths.proofs.PathWalks.{walk-append, Reached, walk-reaches}
use Rattle.paths.proofs.EquationPairs.{table-index}
use Rattle.paths.proofs.TablePaths.{formed}
use Rattle.chain.specs.Places.{step_number, old_of, new_of, Prefixes, rest_edges, landing_at, LandIn, LandsIn}
use Rattle.chain.proofs.PathFronts.{Front, front_at, rest-edges}

-- three tests that hold together exactly where one does
tests_agree : (a b c s : Bool) {v w : ℕ} → (s ≡ true → (a ≡ false) × (b ≡ true) × (c ≡ true)) → (a ≡ false → b ≡ true → c ≡ true → s ≡ true) → (s ≡ true → v ≡ w)
    → cond a 256 (cond b (cond c v 256) 256) ≡ cond s w 256
tests_agree a b c true of to e = let h = of refl in rw (h.0, h.1, h.2) (e refl)
tests_agree true b c false of to e = refl
tests_agree false false c false of to e = refl
tests_agree false true false false of to e = refl
tests_agree false true true false of to e = absurd (no_bool (sym (to refl refl refl)))

module _ (t : Schema) (p : Paths) (sound : Sound t) (table : IsTable (graph_of t.graph) p) where
  abbrev G : meaning.Graph
  G = graph_of t.graph

  abbrev S : meaning.Schema
  S = schema_of t

  counted : (x : ℕ) → x < p.count → x < path_count G
  counted x h = omega (arith, table.counted)

  is-path : (x : ℕ) → x < p.count → IsPath (views.schema_of S) (start_of G x) (path_at G x).edges
  is-path x h = (all_paths-each S (formed sound) (path_at G x)).0 (path_at-in G x (counted x h))

  pub length-low : (x : ℕ) → x < p.count → get_or p.length x 0 ≤ 15
  length-low x h = omega (arith, table.columns.length.each x h, path-short S (formed sound) (start_of G x) (path_at G x).edges (is-path x h), sound.limits.nodes)

  -- ---- the number of the path that a step makes

  pub step-number-path : (x : ℕ) → x < p.count → (s : Step) → is_step (schema_of t) (path_at (graph_of t.graph) x) s ≡ true
      → (step_number (schema_of t) x s < p.count) × (path_at (graph_of t.graph) (step_number (schema_of t) x s) ≡ made (schema_of t) (path_at (graph_of t.graph) x) s)
  step-number-path x h s e =
      let m = (all_paths-each S (formed sound) (made S (path_at G x) s)).1 (made-path S (formed sound) (path_at G x) s (is-path x h) e) in
      rw e (omega (arith, number_in G m, table.counted), number-path G m)

  pub step-number-none : (x : ℕ) (s : Step) → is_step (schema_of t) (path_at (graph_of t.graph) x) s ≡ false → step_number (schema_of t) x s ≡ 256
  step-number-none x s e = ap (λ (c : Bool). cond c (number_of G (made S (path_at G x) s)) 256) e

  pub step-number-in : (x : ℕ) → x < p.count → (s : Step) → step_number (schema_of t) x s < 256 → step_number (schema_of t) x s < p.count
  step-number-in x h s l = go (is_step S (path_at G x) s) refl
    where
      go : (b : Bool) → is_step S (path_at G x) s ≡ b → step_number (schema_of t) x s < p.count
      go true e = (step-number-path x h s e).0
      go false e = absurd (omega (arith, step-number-none x s e, l))

  -- ---- the two sides of an equation

  record Sides (old new : Path) : Type 0 where
    old_joins : joins G old.start (path_of old).edges ≡ true
    old_short : old.length ≤ 15
    new_short : new.length ≤ 15

  sides : (q d : ℕ) → q < t.equations → Sides (old_of t q d) (new_of t q d)
  sides q d h = go (eqb d 0)
    where
      left : Path
      left = get_or t.left q no_path

      right : Path
      right = get_or t.right q no_path

      go : (b : Bool) → Sides (cond b left right) (cond b right left)
      go true = record { old_joins = (sides-at t sound q h).left_joins; old_short = sound.limits.left.each q h; new_short = sound.limits.right.each q h }
      go false = record { old_joins = (sides-at t sound q h).right_joins; old_short = sound.limits.right.each q h; new_short = sound.limits.left.each q h }

  equation-is : (q : ℕ) → q < t.equations → equation_at S q ≡ equation_of (get_or t.left q no_path) (get_or t.right q no_path)
  equation-is q h = tabulate-get_or t.equations (λ i. equation_of (get_or t.left i no_path) (get_or t.right i no_path)) (record { left = meaning.path 0 []; right = meaning.path 0 [] }) q h

  module _ (x : ℕ) (x_in : x < p.count) (prefix : List ℕ) (fronts : Prefixes p.parent x (get_or p.length x 0) prefix) (q d : ℕ) (q-in : q < t.equations) (d-in : d < 2) where
    abbrev n : ℕ
    n = get_or p.length x 0

    abbrev es : List ℕ
    es = (path_at G x).edges

    abbrev old : Path
    old = old_of t q d

    abbrev new : Path
    new = new_of t q d

    abbrev m : ℕ
    m = old.length

    size : n ≡ length es
    size = table.columns.length.each x x_in

    old-size : length (path_of old).edges ≡ m
    old-size = tabulate-length m (λ i. get_or old.edges i 0)

    module _ (b : ℕ) (b-in : b ≤ n) where
      abbrev s : Step
      s = record { equation = q; direction = d; before = b }

      abbrev u : ℕ
      u = get_or prefix b 0

      old-is : old_side S s ≡ path_of old
      old-is = go (eqb d 0)
        where
          go : (c : Bool) → cond c (equation_at S q).left (equation_at S q).right ≡ path_of (cond c (get_or t.left q no_path) (get_or t.right q no_path))
          go true = ap (λ (y : meaning.Equation). y.left) (equation-is q q-in)
          go false = ap (λ (y : meaning.Equation). y.right) (equation-is q q-in)

      new_is : new_side S s ≡ path_of new
      new_is = go (eqb d 0)
        where
          go : (c : Bool) → cond c (equation_at S q).right (equation_at S q).left ≡ path_of (cond c (get_or t.right q no_path) (get_or t.left q no_path))
          go true = ap (λ (y : meaning.Equation). y.right) (equation-is q q-in)
          go false = ap (λ (y : meaning.Equation). y.left) (equation-is q q-in)

      front : Front G x b u
      front = front_at G sound.acyclic p table x x_in prefix fronts b b-in

      ends : get_or p.end u 0 ≡ end G (meaning.path (start_of G x) (take b es))
      ends = table.columns.end.each u (omega (arith, front.below, table.counted)) ∙ ap (end G) front.is

      -- the front, and edges behind it
      behind-front : (l : List ℕ) → meaning.path (start_of G u) ((path_at G u).edges ++ l) ≡ meaning.path (start_of G x) (take b es ++ l)
      behind-front l = ap (λ (w : meaning.Path). meaning.path w.start (w.edges ++ l)) front.is

      to-old : get_or p.end u 0 ≡ old.start → Reached G sound.acyclic (table-index t p sound table) u (path_of old).edges (walk_from p.first p.rank u (path_of old).edges)
      to-old e =
          let z : end_of G u ≡ old.start = ap (end G) front.is ∙ sym ends ∙ e in
          walk-reaches G sound.acyclic (table-index t p sound table) u (path_of old).edges front.below (rw z (sides q d q-in).old_joins)

      -- what the code tests
      record Found : Type 0 where
        fits : b + m ≤ n
        meets : get_or p.end u 0 ≡ old.start
        leads : walk_from p.first p.rank u (path_of old).edges ≡ get_or prefix (b + m) 0

      front-old : b + m ≤ n → Front G x (b + m) (get_or prefix (b + m) 0)
      front-old h = front_at G sound.acyclic p table x x_in prefix fronts (b + m) h

      found-step : Found → is_step S (path_at G x) s ≡ true
      found-step f =
          let a : take b es ++ (path_of old).edges ≡ take (b + m) es =
          ap (λ (w : meaning.Path). w.edges) (sym ((to-old f.meets).is ∙ behind-front (path_of old).edges) ∙ ap (path_at G) f.leads ∙ (front-old f.fits).is) in
          let split : es ≡ take b es ++ ((old_side S s).edges ++ drop (b + m) es) =
          sym (take-append-drop (b + m) es) ∙ ap (λ (l : List ℕ). l ++ drop (b + m) es) (sym a) ∙ append_assoc (take b es) (path_of old).edges (drop (b + m) es)
          ∙ ap (λ (w : meaning.Path). take b es ++ (w.edges ++ drop (b + m) es)) (sym old-is) in
          let i : q < length S.equations = rw (tabulate-length t.equations (λ i. equation_of (get_or t.left i no_path) (get_or t.right i no_path))) q-in in
          is_step-in S (path_at G x) s (stands-split S (path_at G x) s (take b es) (drop (b + m) es) (length-take-le b es (omega (arith, size))) split i d-in (sym ends ∙ f.meets ∙ ap (λ (w : meaning.Path). w.start) (sym old-is)))

      module _ (e : is_step S (path_at G x) s ≡ true) where
        split-old : es ≡ (take b es ++ (path_of old).edges) ++ drop (b + length (path_of old).edges) es
        split-old =
            subst (λ (w : meaning.Path). es ≡ take b es ++ (w.edges ++ drop (b + length w.edges) es)) old-is (old-split S (path_at G x) s (is_step-of S (path_at G x) s e))
            ∙ sym (append_assoc (take b es) (path_of old).edges (drop (b + length (path_of old).edges) es))

        front_length : length (take b es ++ (path_of old).edges) ≡ b + m
        front_length = length-append (take b es) (path_of old).edges ∙ ap₂ (λ (i j : ℕ). i + j) (length-take-le b es (omega (arith, size))) old-size

        step-found : Found
        step-found =
            let l : b + m ≤ n = omega (arith, size, ap length split-old, length-append (take b es ++ (path_of old).edges) (drop (b + length (path_of old).edges) es), front_length) in
            let at : get_or p.end u 0 ≡ old.start = ends ∙ (is_step-of S (path_at G x) s e).here ∙ ap (λ (w : meaning.Path). w.start) old-is in
            let a : take (b + m) es ≡ take b es ++ (path_of old).edges = ap (take (b + m)) split-old ∙ take_at (take b es ++ (path_of old).edges) (drop (b + length (path_of old).edges) es) (b + m) front_length in
            let r = to-old at in
            let f = front-old l in
            let same : path_at G (walk_from p.first p.rank u (path_of old).edges) ≡ path_at G (get_or prefix (b + m) 0) = r.is ∙ behind-front (path_of old).edges ∙ ap (meaning.path (start_of G x)) (sym a) ∙ sym f.is in
            record { fits = l; meets = at; leads = sym (number_at G _ r.below) ∙ ap (number_of G) same ∙ number_at G _ f.below }

        abbrev rest : List ℕ
        rest = rest_edges p.last prefix (b + m) n

        made-is : made S (path_at G x) s ≡ meaning.path (start_of G x) (take b es ++ ((path_of new).edges ++ rest))
        made-is =
            ap₂ (λ (v w : meaning.Path). meaning.path (start_of G x) (take b es ++ (w.edges ++ drop (b + length v.edges) es))) old-is new_is
            ∙ ap (λ (k : ℕ). meaning.path (start_of G x) (take b es ++ ((path_of new).edges ++ drop (b + k) es))) old-size
            ∙ ap (λ (l : List ℕ). meaning.path (start_of G x) (take b es ++ ((path_of new).edges ++ l))) (sym (rest-edges G sound.acyclic p table x x_in prefix fronts (b + m) step-found.fits))

        -- new and what stood behind old, walked from the front
        to-new : Reached G sound.acyclic (table-index t p sound table) u ((path_of new).edges ++ rest) (walk_from p.first p.rank u ((path_of new).edges ++ rest))
        to-new =
            let whole : IsPath (views.schema_of S) (start_of G x) (take b es ++ ((path_of new).edges ++ rest)) =
            subst (λ (w : meaning.Path). IsPath (views.schema_of S) (start_of G x) w.edges) made-is (made-path S (formed sound) (path_at G x) s (is-path x x_in) e) in
            let v = end G (meaning.path (start_of G x) (take b es)) in
            let h = (path-iff S sound.well-formed v ((path_of new).edges ++ rest)).1 (path-last (views.schema_of S) (start_of G x) (take b es) ((path_of new).edges ++ rest) whole) in
            let j : joins G v ((path_of new).edges ++ rest) ≡ true = (and_both (ltb v G.nodes) (joins G v ((path_of new).edges ++ rest)) h).1 in
            walk-reaches G sound.acyclic (table-index t p sound table) u ((path_of new).edges ++ rest) front.below (rw (ap (end G) front.is) j)

        lands : walk_from p.first p.rank (walk_from p.first p.rank u (path_of new).edges) rest ≡ number_of G (made S (path_at G x) s)
        lands =
            sym (walk-append p.first p.rank u (path_of new).edges rest) ∙ sym (number_at G _ to-new.below)
            ∙ ap (number_of G) (to-new.is ∙ behind-front ((path_of new).edges ++ rest) ∙ sym made-is)

      pub landing_is : landing_at p.end p.last p.first p.rank prefix (get_or p.length x 0) (old_of t q d) (new_of t q d) b ≡ step_number (schema_of t) x (record { equation = q; direction = d; before = b })
      landing_is =
          let a = walk_from p.first p.rank u (path_of old).edges in
          let c = get_or prefix (b + m) 0 in
          tests_agree (ltb n (b + m)) (eqb (get_or p.end u 0) old.start) (eqb a c) (is_step S (path_at G x) s)
          (λ e. let f = step-found e in (le-ltb n (b + m) f.fits, eq-eqb (get_or p.end u 0) old.start f.meets, eq-eqb a c f.leads))
          (λ i j k. found-step (record { fits = ltb-false n (b + m) i; meets = eqb-true (get_or p.end u 0) old.start j; leads = eqb-true a c k }))
          lands

      land-in : LandIn p.end p.last p.first p.rank prefix (get_or p.length x 0) (old_of t q d) (new_of t q d) b
      land-in = record {
        short = length-low x x_in;
        place = b-in;
        old_short = (sides q d q-in).old_short;
        new_short = (sides q d q-in).new_short;
        old_in = λ h e. (to-old e).within;
        new_in = λ h e w. (to-new (found-step (record { fits = h; meets = e; leads = w }))).within;
      }

    pub lands-in : LandsIn p.end p.last p.first p.rank prefix (get_or p.length x 0) (old_of t q d) (new_of t q d)
    lands-in b h = land-in b h
