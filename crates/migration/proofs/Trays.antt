-- The sheets of a path and of a chain in a lent tray: written where there is room for them, or refused with the tray as it was.
use Prim.Native.Nat.{ℕ, ◌+◌, ◌*◌, ◌≤◌, ◌<◌}
use mathlib.Core.Path.{◌≡◌, refl, sym, ap, ◌∙◌}
use mathlib.Core.Bool.{Bool, true, false, cond}
use mathlib.Core.List.{List, map}
use mathlib.Core.Option.{Option}
use Rattle.std.specs.Prelude.{None, Some, Ok, Err}
use native.Mathlib.Omega.{arith}
use borrow.Author.Tests.{lt-ltb, ne_eqb, eqb-true}
use lib.ListN.{length, get_or, length-map}
use lib.Dec.{eqb}
use Rattle.bits.specs.Field.{bytes_for}
use Rattle.theory.proofs.Numbering.{tabulate-length}
use Rattle.meaning.specs.PathChain.{Step}
use Rattle.meaning.specs.Schema.{Path, path}
use Rattle.meaning.specs.Formats.{path_sheet, chain_sheet}
use Rattle.meaning.specs.Calls.{Outcome, refused, accepted, explanation, Lent, written, in_tray}
use Rattle.meaning.proofs.StepNumbers.{step_of}
use Rattle.meaning.proofs.Written.{path-sheet-length, chain-sheet-length}
use Rattle.schema.specs.Decoded.{front_of}
use Rattle.chain.specs.Found.{chain_of}
use Rattle.encoding.specs.Written.{Written}
use Rattle.steps.specs.declared.Refusal.{Refusal}
use Rattle.migration.specs.Answers.{Explained, explained_of, explanation_of, explained, encoded, returned}
use Rattle.steps.proofs.Trays.{lent, tray-written, tray-small}

-- ---- the first path of a class, by its start and its edges
module _ (tray : List ℕ) (start n : ℕ) (l : List ℕ) {g : Path} (e : path start (front_of n l) ≡ g) where
  path_bytes : length (path_sheet (path start (front_of n l))) ≡ bytes_for (8 + 5 * n)
  path_bytes = path-sheet-length (path start (front_of n l)) ∙ ap (λ (k : ℕ). bytes_for (8 + 5 * k)) (tabulate-length n (λ i. get_or l i 0))

  pub path-told : {m : ℕ} {out : List ℕ} → bytes_for (8 + 5 * n) ≤ length tray → Written (path_sheet (path start (front_of n l))) tray m out → lent (accepted m) out ≡ in_tray tray (accepted (path_sheet g))
  path-told h w = tray-written (path_sheet (path start (front_of n l))) tray (omega (arith, path_bytes)) w ∙ ap (λ (x : Path). written tray (path_sheet x)) e

  pub path-small : {r : Refusal} → r ≡ record { number = 16; place = 0 } → length tray < bytes_for (8 + 5 * n) → lent (refused r.number r.place) tray ≡ in_tray tray (accepted (path_sheet g))
  path-small d h = tray-small (path_sheet (path start (front_of n l))) tray d (omega (arith, path_bytes)) ∙ ap (λ (x : Path). written tray (path_sheet x)) e

-- ---- the chain between two paths, which is told as none where there are no bytes
module _ (tray : List ℕ) (n : ℕ) (l : List ℕ) {x : Option (List Step)} (e : chain_of n l ≡ x) where
  abbrev steps : List Step
  steps = map step_of (front_of n l)

  steps-bytes : length (chain_sheet steps) ≡ bytes_for (8 + 10 * n)
  steps-bytes = chain-sheet-length steps ∙ ap (λ (k : ℕ). bytes_for (8 + 10 * k)) (length-map (front_of n l) step_of ∙ tabulate-length n (λ i. get_or l i 0))

  module _ (h : n < 256) where
    some-steps : written tray (chain_sheet steps) ≡ in_tray tray (accepted (explanation x))
    some-steps = rw (← e, lt-ltb n 256 h)

    pub chain-explained : {m : ℕ} {out : List ℕ} → bytes_for (8 + 10 * n) ≤ length tray → Written (chain_sheet steps) tray m out
        → (Ok (Some m), out) ≡ explained (in_tray tray (accepted (explanation x)))
    chain-explained {m} {out} k w =
        let b = steps-bytes in
        let some : m ≡ 0 → ⊥ = λ z. omega (arith, w.length_is) in
        let told : Ok (Some m) ≡ explanation_of (accepted m) = rw (ne_eqb m 0 some) in
        ap (λ (r : Explained). (r, out)) told ∙ ap explained (tray-written (chain_sheet steps) tray (omega arith) w ∙ some-steps)

    pub chain-small : {r : Refusal} → r ≡ record { number = 16; place = 0 } → length tray < bytes_for (8 + 10 * n) → (Err r, tray) ≡ explained (in_tray tray (accepted (explanation x)))
    chain-small d k =
        let b = steps-bytes in
        ap (λ (r : Refusal). (Err r, tray)) d ∙ ap explained (tray-small (chain_sheet steps) tray refl (omega arith) ∙ some-steps)

-- what is told is the answer
told_back : (o : Outcome ℕ) → explained_of (explanation_of o) ≡ o
told_back (refused n place) = refl
told_back (accepted n) = go (eqb n 0) refl
  where
    go : (b : Bool) → eqb n 0 ≡ b → explained_of (Ok (cond b None (Some n))) ≡ accepted n
    go true e = ap accepted (sym (eqb-true n 0 e))
    go false e = refl

pub explained-returned : (l : Lent) {r : Explained} {out : List ℕ} → (r, out) ≡ explained l → (encoded (explained_of r), out) ≡ returned l
explained-returned l e = ap (λ (x : Explained × List ℕ). (encoded (explained_of x.0), x.1)) e ∙ ap (λ (o : Outcome ℕ). (encoded o, l.tray)) (told_back l.answer)
