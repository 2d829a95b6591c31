-- The least step of a path that makes one k steps away: equation after equation, in each direction, the first such place.
use Prim.Native.Nat.{ℕ, ◌+◌, ◌*◌, ◌<◌, ◌≤◌}
use mathlib.Core.Path.{◌≡◌, refl, sym, ap, ◌∙◌, subst}
use mathlib.Core.Bool.{true, false, ◌&&◌}
use mathlib.Core.List.{List}
use mathlib.Core.Logic.{inl, inr}
use native.Mathlib.Omega.{arith}
use native.Mathlib.Decide.{dec_lt}
use lib.ListN.{length, get_or}
use lib.Dec.{leb, ltb}
use borrow.Author.Tests.{leb-true, le-leb, ltb-true, lt-ltb}
use Rattle.theory.proofs.Numbering.{tabulate-length}
use Rattle.meaning.specs.Schema as meaning
use Rattle.meaning.specs.PathChain.{Step, is_numbered}
use Rattle.meaning.proofs.Lists.{and_intro}
use Rattle.meaning.proofs.Tabulate.{and_both}
use Rattle.meaning.proofs.StepNumbers.{step_of, step-of}
use Rattle.agreement.specs.Paths.{path_at}
use Rattle.agreement.specs.PathChains.{StepBefore}
use Rattle.schema.specs.declared.Path.{Path}
use Rattle.schema.specs.declared.Schema.{Schema}
use Rattle.schema.specs.Decoded.{no_path, graph_of, equation_of, schema_of}
use Rattle.schema.specs.Judged.{Sound}
use Rattle.paths.specs.declared.Paths.{Paths}
use Rattle.paths.specs.PathNumbers.{length_of}
use Rattle.paths.specs.Table.{IsTable}
use Rattle.chain.specs.declared.nearer.Move.{Move}
use Rattle.chain.specs.Places.{Prefixes, step_number, old_of, new_of, landing_at, LandsIn}
use Rattle.chain.specs.Nearer.{is_at, PlaceFound, NoPlace, StepFound, NoStep}
use Rattle.chain.proofs.StepPlaces.{lands-in, landing_is, length-low}

-- ---- the first place

module _ (end last first rank prefix : List ℕ) (n : ℕ) (old new : Path) (l : List ℕ) (k : ℕ) where
  -- no place before b has a landing k steps away
  pub record NoneBefore (b : ℕ) : Type 0 where
    pub each : (a : ℕ) → a < b → is_at l (landing_at end last first rank prefix n old new a) k ≡ false

  pub none-before-start : NoneBefore 0
  none-before-start = record { each = λ a h. absurd (omega arith) }

  module _ {b y : ℕ} (none : NoneBefore b) (landed : y ≡ landing_at end last first rank prefix n old new b) where
    pub none-before-more : is_at l y k ≡ false → NoneBefore (b + 1)
    none-before-more e = record { each = λ a h. go a h (dec_lt a b) }
      where
        go : (a : ℕ) → a < b + 1 → Dec (a < b) → is_at l (landing_at end last first rank prefix n old new a) k ≡ false
        go a h (yes i) = none.each a i
        go a h (no i) = let j : a ≡ b = omega arith in ap (λ (c : ℕ). is_at l (landing_at end last first rank prefix n old new c) k) j ∙ ap (λ (z : ℕ). is_at l z k) (sym landed) ∙ e

    pub place_found : b ≤ n → is_at l y k ≡ true → PlaceFound end last first rank prefix n old new l k (record { step = b; path = y })
    place_found h e = record { place = h; path = landed; near = e; first_such = none.each }

  pub no_place : {b : ℕ} → NoneBefore b → n < b → NoPlace end last first rank prefix n old new l k
  no_place none h = record { none = λ a i. none.each a (omega arith) }

-- ---- steps passed over

-- no step of path x with an equation below q makes a path k steps away
pub record NoneBelow (S : meaning.Schema) (l : List ℕ) (x k q : ℕ) : Type 0 where
  pub each : (u : Step) → is_numbered S (path_at S.graph x) u ≡ true → u.equation < q → is_at l (step_number S x u) k ≡ false

-- nor one of equation q in direction d
pub record NoneAlong (S : meaning.Schema) (l : List ℕ) (x k q d : ℕ) : Type 0 where
  pub each : (u : Step) → is_numbered S (path_at S.graph x) u ≡ true → u.equation ≡ q → u.direction ≡ d → is_at l (step_number S x u) k ≡ false

pub none-start : (S : meaning.Schema) (l : List ℕ) (x k : ℕ) → NoneBelow S l x k 0
none-start S l x k = record { each = λ u e h. absurd (omega arith) }

-- the three tests of numbers
numbers-in : (S : meaning.Schema) (w : meaning.Path) (u : Step) → is_numbered S w u ≡ true → (u.equation < length S.equations) × (u.direction < 2) × (u.before ≤ length w.edges)
numbers-in S w u e =
    let n = length S.equations in
    let m = length w.edges in
    let b = and_both (ltb u.equation n && ltb u.direction 2) (leb u.before m) e in
    let c = and_both (ltb u.equation n) (ltb u.direction 2) b.0 in
    (ltb-true u.equation n c.0, ltb-true u.direction 2 c.1, leb-true u.before m b.1)

-- both directions of an equation
pub none_more : {S : meaning.Schema} {l : List ℕ} {x k q : ℕ} → NoneBelow S l x k q → NoneAlong S l x k q 0 → NoneAlong S l x k q 1 → NoneBelow S l x k (q + 1)
none_more {S} {l} {x} {k} {q} below there back = record { each = λ u e h. go u e h (dec_lt u.equation q) (dec_lt u.direction 1) }
  where
    go : (u : Step) → is_numbered S (path_at S.graph x) u ≡ true → u.equation < q + 1 → Dec (u.equation < q) → Dec (u.direction < 1) → is_at l (step_number S x u) k ≡ false
    go u e h (yes a) b = below.each u e a
    go u e h (no a) (yes b) = there.each u e (omega arith) (omega arith)
    go u e h (no a) (no b) = back.each u e (omega arith) (omega (arith, (numbers-in S (path_at S.graph x) u e).1))

pub equation-count : (t : Schema) → length (schema_of t).equations ≡ t.equations
equation-count t = tabulate-length t.equations (λ i. equation_of (get_or t.left i no_path) (get_or t.right i no_path))

-- all equations
pub none_done : {S : meaning.Schema} {l : List ℕ} {x k q : ℕ} → NoneBelow S l x k q → length S.equations ≤ q → NoStep S l x k
none_done {S} {l} {x} {k} {q} below all = record { none = λ u e. below.each u e (omega (arith, (numbers-in S (path_at S.graph x) u e).0)) }

-- ---- the places of one equation in one direction

-- path x of a table, with n edges, and its fronts
pub record Ready (t : Schema) (p : Paths) (x : ℕ) (prefix : List ℕ) (n : ℕ) : Type 0 where
  pub sound : Sound t
  pub table : IsTable (graph_of t.graph) p
  pub x_in : x < p.count
  pub fronts : Prefixes p.parent x (get_or p.length x 0) prefix
  pub size : n ≡ get_or p.length x 0

module _ {t : Schema} {p : Paths} {x : ℕ} {prefix : List ℕ} {n : ℕ} (ready : Ready t p x prefix n) where
  abbrev S : meaning.Schema
  S = schema_of t

  size_low : n ≤ 15
  size_low = omega (arith, ready.size, length-low t p ready.sound ready.table x ready.x_in)

  module _ (q d : ℕ) (q-in : q < t.equations) (d-in : d < 2) where
    pub places-in : LandsIn p.end p.last p.first p.rank prefix n (old_of t q d) (new_of t q d)
    places-in =
        subst (λ (m : ℕ). LandsIn p.end p.last p.first p.rank prefix m (old_of t q d) (new_of t q d)) (sym ready.size)
        (lands-in t p ready.sound ready.table x ready.x_in prefix ready.fronts q d q-in d-in)

    abbrev numbered : ℕ → Step
    numbered b = record { equation = q; direction = d; before = b }

    abbrev landed : ℕ → ℕ
    landed = landing_at p.end p.last p.first p.rank prefix n (old_of t q d) (new_of t q d)

    landed-is : (b : ℕ) → b ≤ n → landed b ≡ step_number S x (numbered b)
    landed-is b h =
        subst (λ (m : ℕ). b ≤ m → landing_at p.end p.last p.first p.rank prefix m (old_of t q d) (new_of t q d) b ≡ step_number S x (numbered b)) (sym ready.size)
        (landing_is t p ready.sound ready.table x ready.x_in prefix ready.fronts q d q-in d-in b) h

    size_is : n ≡ length_of S.graph x
    size_is = ready.size ∙ ready.table.columns.length.each x ready.x_in

    -- a step along them lands at its place
    at_place : (l : List ℕ) (k : ℕ) (u : Step) → u.equation ≡ q → u.direction ≡ d → u.before ≤ n → is_at l (step_number S x u) k ≡ is_at l (landed u.before) k
    at_place l k u f g i =
        let w : u ≡ numbered u.before = λ j. record { equation = f j; direction = g j; before = u.before } in
        ap (λ (v : Step). is_at l (step_number S x v) k) w ∙ ap (λ (y : ℕ). is_at l y k) (sym (landed-is u.before i))

    module _ {l : List ℕ} {k : ℕ} where
      pub none-along : NoPlace p.end p.last p.first p.rank prefix n (old_of t q d) (new_of t q d) l k → NoneAlong S l x k q d
      none-along near = record { each = λ u e f g. let i : u.before ≤ n = omega (arith, size_is, (numbers-in S (path_at S.graph x) u e).2) in at_place l k u f g i ∙ near.none u.before i }

      module _ {r : Move} (here : PlaceFound p.end p.last p.first p.rank prefix n (old_of t q d) (new_of t q d) l k r) where
        pub place-low : r.step ≤ 15
        place-low = omega (arith, here.place, size_low)

        -- the first such place is of the least step
        pub found-along : NoneBelow S l x k q → ((e : ℕ) → e < d → NoneAlong S l x k q e) → (step : ℕ) → step ≡ 32 * q + 16 * d + r.step → StepFound S l x k (record { step = step; path = r.path })
        found-along below along step code = record {
          low = omega (arith, code, place-low, ready.sound.limits.equations);
          numbered = subst (λ (u : Step). is_numbered S (path_at S.graph x) u ≡ true) (sym step_is) is-numbered;
          path = here.path ∙ landed-is r.step here.place ∙ ap (step_number S x) (sym step_is);
          near = here.near;
          first_such = λ u e b. before u e (subst (StepBefore u) step_is b);
        }
          where
            step_is : step_of step ≡ numbered r.step
            step_is = ap step_of code ∙ step-of q d r.step d-in (omega (arith, place-low))

            is-numbered : is_numbered S (path_at S.graph x) (numbered r.step) ≡ true
            is-numbered = and_intro (and_intro (lt-ltb q (length S.equations) (omega (arith, equation-count t))) (lt-ltb d 2 d-in)) (le-leb r.step (length_of S.graph x) (omega (arith, here.place, size_is)))

            before : (u : Step) → is_numbered S (path_at S.graph x) u ≡ true → StepBefore u (numbered r.step) → is_at l (step_number S x u) k ≡ false
            before u e (inl a) = below.each u e a
            before u e (inr (a, inl b)) = (along u.direction b).each u e a refl
            before u e (inr (a, inr (b, inl c))) = at_place l k u a b (omega (arith, here.place)) ∙ here.first_such u.before c
            before u e (inr (a, inr (b, inr (c, z)))) = absurd z
