-- Laws of a line's pieces, written one after the other.
use Prim.Native.Nat.{ℕ, ◌+◌, ◌<◌}
use mathlib.Core.Path.{◌≡◌, ◌∙◌}
use mathlib.Core.Bool.{Bool, true, false}
use mathlib.Core.List.{List, [], ◌∷◌, ◌++◌}
use native.Mathlib.Omega.{arith}
use lib.ListN.{length, set}
use Rattle.meaning.specs.Program.{space, newline}
use Rattle.text.specs.Appended.{Room, Appended, digits, part, line_of}
use Rattle.text.specs.Rows.{part_if}
use Rattle.text.proofs.Appending.{appended-byte, appended_then, appended-long, room-first, room-then}

-- ---- a space and a number

module _ {l : List ℕ} {at : ℕ} (n : ℕ) where
  pub space-room : Room l at (part n) → at < length l
  unfolding part
  space-room R = omega (arith, (room-first (space ∷ []) (digits n) R).room)

  pub number-room : Room l at (part n) → Room (set l at space) (at + 1) (digits n)
  unfolding part
  number-room R = room-then (appended-byte l at space) (digits n) R

  pub part-written : {r : ℕ} {m : List ℕ} → Appended (set l at space) (at + 1) (digits n) r m → Appended l at (part n) r m
  unfolding part
  part-written A = appended_then (appended-byte l at space) A

-- ---- the same, where it is the row's own

module _ {own : Bool} (n : ℕ) where
  pub own-part : own ≡ true → part_if own n ≡ part n
  unfolding part_if
  own-part e = rw e

  pub no_part : own ≡ false → part_if own n ≡ []
  unfolding part_if
  no_part e = rw e

-- ---- four pieces and a newline

-- all but the newline is stored in l, which gives k, and the newline's place is s
pub record LineEnds (l : List ℕ) (at : ℕ) (line : List ℕ) (s : ℕ) (k : List ℕ) : Type 0 where
  pub room : s < length k
  pub long : length k ≡ length l
  pub written : Appended l at line (s + 1) (set k s newline)

module _ {l : List ℕ} {at : ℕ} (a b c d : List ℕ) (R : Room l at (line_of a b c d)) where
  abbrev from_fourth : List ℕ
  from_fourth = d ++ (newline ∷ [])

  abbrev from_third : List ℕ
  from_third = c ++ from_fourth

  abbrev from_second : List ℕ
  from_second = b ++ from_third

  from_first : Room l at (a ++ from_second)
  unfolding line_of
  from_first = R

  pub first-room : Room l at a
  first-room = room-first a from_second from_first

  module _ {p : ℕ} {m : List ℕ} (A : Appended l at a p m) where
    from_second_lem : Room m p from_second
    from_second_lem = room-then A from_second from_first

    pub second-room : Room m p b
    second-room = room-first b from_third from_second_lem

    module _ {q : ℕ} {n : List ℕ} (B : Appended m p b q n) where
      from-third : Room n q from_third
      from-third = room-then B from_third from_second_lem

      pub third-room : Room n q c
      third-room = room-first c from_fourth from-third

      module _ {r : ℕ} {o : List ℕ} (C : Appended n q c r o) where
        from-fourth : Room o r from_fourth
        from-fourth = room-then C from_fourth from-third

        pub fourth-room : Room o r d
        fourth-room = room-first d (newline ∷ []) from-fourth

        pub line-ends : {s : ℕ} {k : List ℕ} → Appended o r d s k → LineEnds l at (line_of a b c d) s k
        unfolding line_of
        line-ends {s} {k} D = record {
          room = omega (arith, (room-then D (newline ∷ []) from-fourth).room);
          long = appended-long D ∙ appended-long C ∙ appended-long B ∙ appended-long A;
          written = appended_then A (appended_then B (appended_then C (appended_then D (appended-byte k s newline))));
        }
