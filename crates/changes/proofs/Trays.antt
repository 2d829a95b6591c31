-- Both sheets of a change in their trays: written where there is room for each, or refused with the trays as they were.
use Prim.Native.Nat.{ℕ, ◌≤◌, ◌<◌}
use mathlib.Core.Path.{◌≡◌, refl, sym, ap, subst, ◌∙◌}
use mathlib.Core.Bool.{Bool, true, false, cond, ◌&&◌}
use mathlib.Core.List.{List, ◌++◌}
use Rattle.std.proofs.Common.{Ok, Err, rules}
use native.Mathlib.Omega.{arith}
use borrow.Author.Tests.{le-leb, lt-leb}
use lib.Dec.{leb}
use lib.ListN.{length, drop}
use Rattle.meaning.specs.Formats.{max_instance_bytes}
use Rattle.meaning.specs.Calls.{Outcome, refused, accepted, ◌>>=◌, ensure}
use Rattle.meaning.specs.Changes.{Sheets, Trays, both_written, in_trays}
use Rattle.encoding.specs.Written.{Written, sheet_bytes}
use Rattle.encoding.proofs.Writing.{sheet-length}
use Rattle.steps.specs.declared.open.Opened.{Opened}
use Rattle.agreement.proofs.ChangeTests.{accepted-trays}
use Rattle.migration.specs.Encoding.{BothWithin}
use Rattle.changes.specs.declared.results.Change.{Change}
use Rattle.changes.specs.Answers.{Changed, changed_of, LengthsWithin}
use Rattle.changes.specs.Changed.{sheets_in}

abbrev lent : Outcome (ℕ × ℕ) → List ℕ → List ℕ → Trays
lent answer run pushed = record { answer = answer; run = run; pushed = pushed }

-- both tests of the room in turn, and what they decide together
module _ (run pushed : List ℕ) (yes : Trays) where
  first_small : {n place : ℕ} (a b : Bool) → refused n place ≡ ensure a 16 → lent (refused n place) run pushed ≡ cond (a && b) yes (lent (refused 16 0) run pushed)
  first_small false b e = ap (λ (o : Outcome (Unit {0})). lent (o >>= λ _. accepted (0, 0)) run pushed) e
  first_small true b e = search rules

  second_small : {n place : ℕ} (a b : Bool) → accepted tt ≡ ensure a 16 → refused n place ≡ ensure b 16 → lent (refused n place) run pushed ≡ cond (a && b) yes (lent (refused 16 0) run pushed)
  second_small true false d e = ap (λ (o : Outcome (Unit {0})). lent (o >>= λ _. accepted (0, 0)) run pushed) e
  second_small true true d e = search rules
  second_small false b d e = search rules

  both_large : (a b : Bool) → accepted tt ≡ ensure a 16 → accepted tt ≡ ensure b 16 → yes ≡ cond (a && b) yes (lent (refused 16 0) run pushed)
  both_large true true d e = refl
  both_large true false d e = search rules
  both_large false b d e = search rules

module _ (o : Opened) (x : Change) (run-links run-values links values run pushed : List ℕ) where
  abbrev sheets : Sheets
  sheets = sheets_in o x run-links run-values links values

  abbrev written : Trays
  written = record { answer = accepted (length sheets.run, length sheets.pushed); run = sheets.run ++ drop (length sheets.run) run; pushed = sheets.pushed ++ drop (length sheets.pushed) pushed }

  run_size : length sheets.run ≡ sheet_bytes o.source x.run
  run_size = sheet-length o.source x.run run-links run-values

  pushed_size : length sheets.pushed ≡ sheet_bytes o.target x.pushed
  pushed_size = sheet-length o.target x.pushed links values

  module _ {n m : ℕ} (d : n ≡ sheet_bytes o.source x.run) (e : m ≡ sheet_bytes o.target x.pushed) where
    run_is : length sheets.run ≡ n
    run_is = run_size ∙ sym d

    pushed_is : length sheets.pushed ≡ m
    pushed_is = pushed_size ∙ sym e

    pub run_small : {k place : ℕ} → refused k place ≡ ensure (leb n (length run)) 16 → lent (refused k place) run pushed ≡ both_written run pushed sheets
    run_small f = first_small run pushed written (leb (length sheets.run) (length run)) (leb (length sheets.pushed) (length pushed)) (rw run_is f)

    pub pushed-small : {k place : ℕ} → accepted tt ≡ ensure (leb n (length run)) 16 → refused k place ≡ ensure (leb m (length pushed)) 16 → lent (refused k place) run pushed ≡ both_written run pushed sheets
    pushed-small f g = second_small run pushed written (leb (length sheets.run) (length run)) (leb (length sheets.pushed) (length pushed)) (rw run_is f) (rw pushed_is g)

    pub both-fit : accepted tt ≡ ensure (leb n (length run)) 16 → accepted tt ≡ ensure (leb m (length pushed)) 16 → {k l : ℕ} {a b : List ℕ} → Written sheets.run run k a → Written sheets.pushed pushed l b
        → lent (accepted (k, l)) a b ≡ both_written run pushed sheets
    both-fit f g u v = rw (u.length_is, u.says, v.length_is, v.says) (both_large run pushed written (leb (length sheets.run) (length run)) (leb (length sheets.pushed) (length pushed)) (rw run_is f) (rw pushed_is g))

-- the byte lengths that an answer gives are those of instance sheets
pub low-answer : (r : Changed) (run pushed : List ℕ) (o : Outcome Sheets) → changed_of r ≡ (in_trays run pushed o).answer → BothWithin max_instance_bytes o → LengthsWithin r
low-answer (Ok x) run pushed o e within =
    let y = accepted-trays run pushed o (sym e) in
    let w = within y.sheets y.result in
    (subst (λ (m : ℕ). m ≤ max_instance_bytes) y.run_size w.0, subst (λ (m : ℕ). m ≤ max_instance_bytes) y.pushed_size w.1)
low-answer (Err r) run pushed o e within = tt
