-- Withdrawing the row that an addition has put gives the first run back: its sheet, and its Sigma's, for which there is room where there was for the longer ones.
use Prim.Native.Nat.{ℕ, suc, ◌+◌, ◌<◌, ◌≤◌}
use mathlib.Core.Path.{◌≡◌, sym, ap, ◌∙◌}
use mathlib.Core.List.{List, [], ◌∷◌, ◌++◌, map}
use native.Mathlib.Omega.{arith}
use native.Mathlib.Decide.{dec_lt}
use lib.ListN.{length, get_or, take, drop, length-take, get_or-eq_default}
use lib.Seq.{get_or-take}
use borrow.Author.Tests.{le-leb, lt-ltb}
use Rattle.bits.specs.Field.{Bytes, bytes_for}
use Rattle.theory.specs.Schema.{IsSchema}
use Rattle.meaning.specs.Lists.{sum_of}
use Rattle.meaning.specs.Schema.{Schema, source, attribute_at}
use Rattle.meaning.specs.Category.{Category, listed_category}
use Rattle.meaning.specs.Formats.{Mapping, Instance, instance_sheet}
use Rattle.meaning.specs.Views.{Shaped, schema_of, count}
use Rattle.meaning.specs.Sigma.{fibre, rows_in, sigma}
use Rattle.meaning.specs.Calls.{accepted, sigma_tables, sheet_of}
use Rattle.meaning.specs.Rows.{added}
use Rattle.meaning.specs.Changes.{Run, Sheets, sheets_of, addition_sheets, withdrawal_sheets, Trays, in_trays, add_row}
use Rattle.meaning.proofs.Lists.{everywhere}
use Rattle.meaning.proofs.Written.{instance-judged-sheet, instance-sheet-length}
use Rattle.agreement.specs.CallTests.{Results}
use Rattle.agreement.specs.Changes.{GivesBack}
use Rattle.agreement.proofs.Joined.{map-upto-get_or}
use Rattle.agreement.proofs.Valid.{valid-lent-again}
use Rattle.agreement.proofs.Accepted.{RunSound, run_accepted, run-accepts}
use Rattle.agreement.proofs.ChangeTests.{accepted-trays}
use Rattle.agreement.proofs.Rows.{row_read, adds-table}
use Rattle.agreement.proofs.Withdrawals.{added-unheld, added-withdrawn}
use Rattle.agreement.proofs.Changes.{run-formed, run-mapped, run-valid, pushed-valid, pushed_by_call, AdditionSound, addition-accepted}

-- ---- a sheet has no fewer bytes where no table has fewer rows

-- as many columns, none of them longer
columns-below : (k l : List (List ℕ)) → length k ≡ length l → ((i : ℕ) → i < length k → length (get_or k i []) ≤ length (get_or l i [])) → sum_of (map length k) ≤ sum_of (map length l)
columns-below [] l e h = omega arith
columns-below (x ∷ k) [] e h = absurd (omega arith)
columns-below (x ∷ k) (y ∷ l) e h = let r = columns-below k l (omega arith) (λ i p. h (suc i) (omega arith)) in omega (arith, h 0 (omega arith))

bytes_below : (n m : ℕ) → n ≤ m → bytes_for n ≤ bytes_for m
bytes_below n m h = omega arith

module _ {S : Schema} (s_is : IsSchema (schema_of S)) {I J : Instance} (i : Shaped S I) (j : Shaped S J) (below : (c : ℕ) → c < S.graph.nodes → count I c ≤ count J c) where
  sheet-below : length (instance_sheet I) ≤ length (instance_sheet J)
  sheet-below =
      let links = columns-below I.links J.links (i.edges ∙ sym j.edges) (λ e h.
      let k : e < length S.graph.edges = rw i.edges at h in
      omega (arith, i.links e k, j.links e k, below (source S.graph e) (s_is.src_in e k))) in
      let values = columns-below I.values J.values (i.attributes ∙ sym j.attributes) (λ a h.
      let k : a < length S.attributes = rw i.attributes at h in
      omega (arith, i.values a k, j.values a k, below (attribute_at S a).node (s_is.home_in a k))) in
      rw (instance-sheet-length I, instance-sheet-length J) (bytes_below _ _ (omega (arith, i.tables, j.tables)))

-- no table of Sigma has fewer rows where none of the run has
rows-below : (I J : Instance) → ((c : ℕ) → count I c ≤ count J c) → (cs : List ℕ) → rows_in I cs ≤ rows_in J cs
rows-below I J h [] = omega arith
rows-below I J h (c ∷ cs) = let r = rows-below I J h cs in omega (arith, h c)

module _ (S T : Category) (F : Mapping) (I J : Instance) (below : (c : ℕ) → count I c ≤ count J c) where
  sigma-below : (d : ℕ) → d < T.schema.graph.nodes → count (sigma S T F I) d ≤ count (sigma S T F J) d
  sigma-below d h =
      rw (map-upto-get_or (λ d. rows_in I (fibre S.schema F d)) T.schema.graph.nodes 0 d h, map-upto-get_or (λ d. rows_in J (fibre S.schema F d)) T.schema.graph.nodes 0 d h)
      (rows-below I J below (fibre S.schema F d))

-- with rows added no table has fewer
added-below : (S : Schema) {I : Instance} (R : Instance) → Shaped S I → (c : ℕ) → count I c ≤ count (added S I R) c
added-below S {I} R i c = elim (dec_lt c S.graph.nodes) [
  | yes h ↦ omega (arith, map-upto-get_or (λ d. count I d + count R d) S.graph.nodes 0 c h)
  | no h ↦ omega (arith, get_or-eq_default I.counts 0 {n = c} (rw i.tables (omega arith)))
]

-- ---- the first run again

module _ {s t f i : List ℕ} {c : ℕ} {row : List ℕ} {x : Run} {R : Instance} (k : AdditionSound s t f i c row x R) where
  abbrev J : Instance
  J = added x.m.S x.tables R

  sound-run : RunSound s t f i x
  sound-run = run_accepted s t f i k.run_accepted

  -- lent the changed run's sheet, the withdrawal of the new row gives the first tables
  withdrawn-again : withdrawal_sheets s t f (instance_sheet J) c (count x.tables c) ≡ accepted (sheets_of x x.tables)
  withdrawn-again =
      let h = sound-run in
      let is = row_read x.m.S c k.table_in row k.row_read in
      let after : Run = record { m = x.m; tables = J } in
      let more = (adds-table (run-formed h) (run-valid h) k.table_in is).one_more in
      rw (
        run-accepts s t f (instance_sheet J) {x = after} (record { migration_sound = h.migration_sound; tables_sound = valid-lent-again k.lendable.valid; is-even = h.is-even }),
        lt-ltb c x.m.S.graph.nodes k.table_in,
        lt-ltb (count x.tables c) (count J c) (omega arith),
        added-unheld (run-formed h) (run-valid h) k.table_in is,
      ) (ap (λ (I : Instance). accepted (sheets_of x I)) (added-withdrawn (run-formed h) (run-valid h) k.table_in is))

  -- their Sigma's sheet is no longer than that of the changed run's Sigma
  pushed-below : length (sheets_of x x.tables).pushed ≤ length (sheets_of x J).pushed
  pushed-below =
      let h = sound-run in
      sheet-below (run-mapped h).is.t_is (pushed-valid h (run-valid h)).shaped (pushed-valid h k.lendable.valid).shaped
      (sigma-below (listed_category x.m.S) (listed_category x.m.T) x.m.F x.tables J (added-below x.m.S R (run-valid h).shaped))

-- the front of a list of bytes
bytes-taken : (n : ℕ) (l : List ℕ) → Bytes l → Bytes (take n l)
bytes-taken n l b = everywhere (λ v. v < 256) (take n l) 0 (omega arith) (λ i h. rw (get_or-take n l i 0 (omega (arith, length-take n l))) (b i))

-- two sheets for which there is room
both-in : (run pushed : List ℕ) (x : Sheets) → length x.run ≤ length run → length x.pushed ≤ length pushed
    → in_trays run pushed (accepted x) ≡ record { answer = accepted (length x.run, length x.pushed); run = x.run ++ drop (length x.run) run; pushed = x.pushed ++ drop (length x.pushed) pushed }
both-in run pushed x h k = rw (le-leb (length x.run) (length run) h, le-leb (length x.pushed) (length pushed) k)

module _ (s t f run : List ℕ) (n c : ℕ) (row pushed : List ℕ) (bytes : Bytes run) {a b : ℕ} {x : Run} {R : Instance} (k : AdditionSound s t f (take n run) c row x R)
    (r : Results run pushed (addition_sheets s t f (take n run) c row) a b) (w : r.sheets ≡ sheets_of x (added x.m.S x.tables R)) where
  abbrev changed : Trays
  changed = add_row s t f run n c row pushed

  -- the first tables' sheets
  abbrev again : Sheets
  again = sheets_of x x.tables

  -- the run's sheet was that of its tables, and is now that of the changed ones
  first-sheet : take n run ≡ again.run
  first-sheet = instance-judged-sheet x.m.S (take n run) (bytes-taken n run bytes) (sound-run k).tables_sound

  changed-sheet : take a changed.run ≡ instance_sheet (added x.m.S x.tables R)
  changed-sheet = ap (λ (m : ℕ). take m changed.run) (sym r.run_size) ∙ r.run_written.front ∙ ap (λ (y : Sheets). y.run) w

  -- both trays have room
  run_room : length again.run ≤ length changed.run
  run_room = omega (arith, ap length first-sheet, length-take n run, r.run_written.whole)

  pushed_room : length again.pushed ≤ length changed.pushed
  pushed_room = omega (arith, pushed-below k, ap (λ (y : Sheets). length y.pushed) w, r.pushed_written.room, r.pushed_written.whole)

  given_back : GivesBack s t f run n c row pushed a
  given_back =
      let h = sound-run k in
      record {
        S = x.m.S;
        s_accepted = h.migration_sound.s_sound;
        first = x.tables;
        first_accepted = h.tables_sound;
        first_pushed = again.pushed;
        first_pushed_by_call = ap (λ (i : List ℕ). sheet_of (sigma_tables s t f i)) first-sheet ∙ ap sheet_of (pushed_by_call h (run-valid h));
        back =
            ap (λ (i : List ℕ). in_trays changed.run changed.pushed (withdrawal_sheets s t f i c (count x.tables c))) changed-sheet
            ∙ ap (in_trays changed.run changed.pushed) (withdrawn-again k)
            ∙ both-in changed.run changed.pushed again run_room pushed_room
            ∙ ap (λ (l : List ℕ). record { answer = accepted (length l, length again.pushed); run = l ++ drop (length l) changed.run; pushed = again.pushed ++ drop (length again.pushed) changed.pushed }) (sym first-sheet);
      }

-- after an accepted addition, the withdrawal of its row
pub gives_back : (s t f run : List ℕ) (n c : ℕ) (row pushed : List ℕ) → Bytes run → {a b : ℕ} → (add_row s t f run n c row pushed).answer ≡ accepted (a, b)
    → GivesBack s t f run n c row pushed a
gives_back s t f run n c row pushed bytes e =
    let r = accepted-trays run pushed (addition_sheets s t f (take n run) c row) e in
    let y = addition-accepted s t f (take n run) c row r.result in
    given_back s t f run n c row pushed bytes y.2 r y.3
