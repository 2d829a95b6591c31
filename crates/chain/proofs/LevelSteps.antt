-- The paths that steps make of one path, equation after equation, are the landings by the columns of the table.
use Prim.Native.Nat.{ℕ, suc, ◌+◌, ◌<◌, ◌≤◌}
use mathlib.Core.Path.{◌≡◌, sym, ap, ◌∙◌}
use mathlib.Core.Bool.{true}
use mathlib.Core.List.{List, [], ◌++◌, Memᴰ}
use native.Mathlib.Omega.{arith}
use lib.ListN.{length, get_or}
use Rattle.theory.specs.Numbering.{tabulate}
use Rattle.theory.proofs.Numbering.{tabulate-length, tabulate-mem, mem-tabulate}
use Rattle.meaning.specs.Lists.{upto, concat_map}
use Rattle.meaning.specs.Schema as meaning
use Rattle.meaning.specs.PathChain.{Step, is_step}
use Rattle.meaning.proofs.Tabulate.{tabulate-same}
use Rattle.meaning.proofs.Lists.{concat_map-in, concat_map-of, in-upto}
use Rattle.agreement.specs.Paths.{path_at}
use Rattle.agreement.proofs.Steps.{is_step-of}
use Rattle.schema.specs.declared.Schema.{Schema}
use Rattle.schema.specs.Decoded.{no_path, equation_of, graph_of, schema_of}
use Rattle.schema.specs.Judged.{Sound}
use Rattle.paths.specs.declared.Paths.{Paths}
use Rattle.paths.specs.PathNumbers.{length_of}
use Rattle.paths.specs.Table.{IsTable}
use Rattle.chain.specs.Places.{step_number, old_of, new_of, Prefixes, landings, LandsIn}
use Rattle.chain.specs.Levels.{mark_all, path_steps}
use Rattle.chain.proofs.StepPlaces.{landing_is, lands-in}
use Rattle.chain.proofs.Marking.{mark_all-append, Turns, turns_more, turns-done}

-- what steps of equation q in direction d make of path x
abbrev pub direction_steps : meaning.Schema → ℕ → ℕ → ℕ → List ℕ
direction_steps S x q d = tabulate (suc (length_of S.graph x)) (λ b. step_number S x (record { equation = q; direction = d; before = b }))

-- and in both directions
abbrev pub equation_steps : meaning.Schema → ℕ → ℕ → List ℕ
equation_steps S x q = concat_map (direction_steps S x q) (upto 2)

-- a step of a path is among them, and each of them is by a step
module _ (S : meaning.Schema) (x : ℕ) where
  pub path_steps-in : (s : Step) → is_step S (path_at S.graph x) s ≡ true → Memᴰ (step_number S x s) (path_steps S x)
  path_steps-in s e =
      let h = is_step-of S (path_at S.graph x) s e in
      let b = tabulate-mem (suc (length_of S.graph x)) (λ b. step_number S x (record { equation = s.equation; direction = s.direction; before = b })) s.before (let i = h.before_in in omega arith) in
      let d = concat_map-in (direction_steps S x s.equation) (upto 2) (in-upto 2 s.direction h.direction_in) b in
      concat_map-in (equation_steps S x) (upto (length S.equations)) (in-upto (length S.equations) s.equation h.equation_in) d

  pub path_steps-of : (y : ℕ) → Memᴰ y (path_steps S x) → (s : Step) × (y ≡ step_number S x s)
  path_steps-of y m =
      let a = concat_map-of (equation_steps S x) (upto (length S.equations)) m in
      let b = concat_map-of (direction_steps S x a.0) (upto 2) a.2 in
      let c = mem-tabulate (suc (length_of S.graph x)) (λ i. step_number S x (record { equation = a.0; direction = b.0; before = i })) y b.2 in
      (record { equation = a.0; direction = b.0; before = c.0 }, c.2)

-- ---- marked equation after equation

module _ (t : Schema) (p : Paths) (sound : Sound t) (table : IsTable (graph_of t.graph) p) (x : ℕ) (x_in : x < p.count) where
  -- the steps of the first q equations are marked
  abbrev pub StepTurns : ℕ → List ℕ → ℕ → List ℕ → Type 0
  StepTurns = Turns (equation_steps (schema_of t) x) t.equations

  pub steps-done : {k q : ℕ} {l m : List ℕ} → StepTurns k l q m → t.equations ≤ q → m ≡ mark_all k (path_steps (schema_of t) x) l
  steps-done {k} {q} {l} {m} r h =
      turns-done r h
      ∙ ap (λ (n : ℕ). mark_all k (concat_map (equation_steps (schema_of t) x) (upto n)) l) (sym (tabulate-length t.equations (λ i. equation_of (get_or t.left i no_path) (get_or t.right i no_path))))

  module _ (n : ℕ) (long : n ≡ get_or p.length x 0) (prefix : List ℕ) (fronts : Prefixes p.parent x (get_or p.length x 0) prefix) where
    abbrev pub places_of : ℕ → ℕ → List ℕ
    places_of q d = landings p.end p.last p.first p.rank prefix n (old_of t q d) (new_of t q d)

    pub lands : (q d : ℕ) → q < t.equations → d < 2 → LandsIn p.end p.last p.first p.rank prefix n (old_of t q d) (new_of t q d)
    lands q d i j = rw long (lands-in t p sound table x x_in prefix fronts q d i j)

    places-are : (q d : ℕ) → q < t.equations → d < 2 → places_of q d ≡ direction_steps (schema_of t) x q d
    places-are q d i j =
        ap (λ (n : ℕ). landings p.end p.last p.first p.rank prefix n (old_of t q d) (new_of t q d)) long
        ∙ tabulate-same (suc (get_or p.length x 0)) (λ b h. landing_is t p sound table x x_in prefix fronts q d i j b (omega arith))
        ∙ ap (λ (n : ℕ). tabulate (suc n) (λ b. step_number (schema_of t) x (record { equation = q; direction = d; before = b }))) (table.columns.length.each x x_in)

    -- one equation more, in both directions
    pub steps-more : {k q : ℕ} {l m : List ℕ} → StepTurns k l q m → q < t.equations → {u v : List ℕ} → u ≡ mark_all k (places_of q 0) m → v ≡ mark_all k (places_of q 1) u → StepTurns k l (q + 1) v
    steps-more {k} {q} {l} {m} r h {u} {v} e f =
        let there = direction_steps (schema_of t) x q 0 in
        let back = direction_steps (schema_of t) x q 1 in
        turns_more r h
        (f ∙ ap (λ (ys : List ℕ). mark_all k ys u) (places-are q 1 h (omega arith))
        ∙ ap (mark_all k back) (e ∙ ap (λ (ys : List ℕ). mark_all k ys m) (places-are q 0 h (omega arith)))
        ∙ sym (mark_all-append k there (back ++ []) m ∙ mark_all-append k back [] (mark_all k there m)))
