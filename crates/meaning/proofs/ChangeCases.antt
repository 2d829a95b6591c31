-- Changes of the base example's run (document 02, C-16), computed: a dent is added and withdrawn again, and each refusal of a change itself.
use Prim.Native.Nat.{ℕ}
use Prim.Native.String.{String}
use mathlib.Core.Path.{◌≡◌, refl}
use mathlib.Core.List.{List, [], ◌∷◌, ◌++◌, map}
use lib.ListN.{replicate, drop}
use Rattle.bits.specs.Field.{field, bit, tail_ok}
use Rattle.bits.specs.Pack.{pack, gather, bits_of, digits, number, total_width}
use Rattle.meaning.specs.Calls.{refused, accepted}
use Rattle.meaning.specs.Changes.{Trays, add_row, withdraw_row}
use Rattle.meaning.proofs.Examples.{vendor, operator, vendor_to_operator, run, pushed_run}

-- ---- sheets

-- a dent at joint 0, station 500; one at joint 2, which is not there; and one with a filling bit of 1
abbrev pub dent : List ℕ
dent = 0x00 ∷ 0x00 ∷ 0x00 ∷ 0x00 ∷ 0xFA ∷ 0x00 ∷ []

abbrev pub dangling_dent : List ℕ
dangling_dent = 0x01 ∷ 0x00 ∷ 0x00 ∷ 0x00 ∷ 0xFA ∷ 0x00 ∷ []

abbrev pub filled_dent : List ℕ
filled_dent = 0x00 ∷ 0x00 ∷ 0x00 ∷ 0x00 ∷ 0xFA ∷ 0x01 ∷ []

-- the run with the dent, and Sigma of it
abbrev pub dented_run : List ℕ
dented_run =
    0x00 ∷ 0xC0 ∷ 0x20 ∷ 0x04 ∷ 0x02 ∷ 0x00 ∷ 0x00 ∷ 0x00 ∷ 0x40 ∷ 0x00 ∷ 0x00 ∷ 0xAF ∷ 0x00 ∷ 0x00 ∷ 0x00 ∷ 0x4B ∷ 0x00 ∷ 0x00 ∷ 0x00 ∷ 0x7D ∷ 0x00 ∷ 0x00 ∷ 0x00 ∷
    0xB0 ∷ 0x40 ∷ []

abbrev pub dented_pushed : List ℕ
dented_pushed =
    0x01 ∷ 0x00 ∷ 0x20 ∷ 0x08 ∷ 0x00 ∷ 0x00 ∷ 0x01 ∷ 0x00 ∷ 0x00 ∷ 0x02 ∷ 0xBC ∷ 0x00 ∷ 0x00 ∷ 0x01 ∷ 0x2C ∷ 0x00 ∷ 0x00 ∷ 0x01 ∷ 0xF4 ∷ 0x00 ∷ 0x00 ∷ 0x02 ∷ 0xC1 ∷ []

-- the run in a tray of 26 bytes, and a tray for Sigma of 24
abbrev pub tray : List ℕ
tray = run ++ replicate 6 0xA5

abbrev pub other : List ℕ
other = replicate 24 0xA5

-- ---- the table: the trays after a call, and as they should be

pub record Change : Type 0 where
  pub name : String
  pub yields : Trays
  pub should : Trays

abbrev change : String → Trays → Trays → Change
change name yields should = record { name = name; yields = yields; should = should }

-- refused, with both trays as they were
abbrev unchanged : ℕ → List ℕ → List ℕ → Trays
unchanged n run pushed = record { answer = refused n 0; run = run; pushed = pushed }

abbrev adds : List ℕ → ℕ → List ℕ → List ℕ → Trays
adds run c row pushed = add_row vendor operator vendor_to_operator run 20 c row pushed

abbrev withdraws : ℕ → ℕ → ℕ → Trays
withdraws n c r = withdraw_row vendor operator vendor_to_operator tray n c r other

abbrev pub change_cases : List Change
change_cases =
    change "a dent is added" (adds tray 0 dent other) (record { answer = accepted (25, 23); run = dented_run ++ (0xA5 ∷ []); pushed = dented_pushed ++ (0xA5 ∷ []) }) ∷
    change "and withdrawn" (withdraw_row vendor operator vendor_to_operator (dented_run ++ (0xA5 ∷ [])) 25 0 2 other)
    (record { answer = accepted (20, 18); run = run ++ drop 20 (dented_run ++ (0xA5 ∷ [])); pushed = pushed_run ++ replicate 6 0xA5 }) ∷
    change "a joint, of which nothing is written but the count" (adds tray 1 [] other) (record { answer = accepted (20, 18); run = 0x00 ∷ 0x80 ∷ 0x30 ∷ drop 3 tray; pushed = 0x00 ∷ 0xC0 ∷ 0x30 ∷ drop 3 pushed_run ++ replicate 6 0xA5 }) ∷
    change "a table that is not there" (adds tray 3 dent other) (unchanged 18 tray other) ∷
    change "a row that is cut" (adds tray 0 (0x00 ∷ []) other) (unchanged 1 tray other) ∷
    change "a filling bit of 1" (adds tray 0 filled_dent other) (unchanged 2 tray other) ∷
    change "a dent at joint 2" (adds tray 0 dangling_dent other) (unchanged 9 tray other) ∷
    change "the run's tray is small" (adds run 0 dent other) (unchanged 16 run other) ∷
    change "the pushed tray is small" (adds tray 0 dent (replicate 22 0)) (unchanged 16 tray (replicate 22 0)) ∷
    change "dent 0 is withdrawn" (withdraws 20 0 0)
    (record {
      answer = accepted (14, 13);
      run = 0x00 ∷ 0x40 ∷ 0x20 ∷ 0x04 ∷ 0x00 ∷ 0x01 ∷ 0x00 ∷ 0x00 ∷ 0x01 ∷ 0x2C ∷ 0x00 ∷ 0x00 ∷ 0x02 ∷ 0xC1 ∷ drop 14 tray;
      pushed = 0x00 ∷ 0x80 ∷ 0x20 ∷ 0x00 ∷ 0x04 ∷ 0x00 ∷ 0x00 ∷ 0x04 ∷ 0xB0 ∷ 0x00 ∷ 0x00 ∷ 0x0B ∷ 0x04 ∷ replicate 11 0xA5;
    }) ∷
    change "a dent that is not there" (withdraws 20 0 2) (unchanged 18 tray other) ∷
    change "a joint that is still held" (withdraws 20 1 1) (unchanged 19 tray other) ∷
    []

pub change-cases-hold : map (λ c. c.yields) change_cases ≡ map (λ c. c.should) change_cases
unfolding field bit tail_ok pack gather bits_of digits number total_width
change-cases-hold = refl
