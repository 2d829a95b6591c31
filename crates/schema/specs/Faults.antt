-- The number of each fault, and what the answer of a judge says in the terms of document 01.
use Rattle.std.specs.Prelude.{ℕ, Result, Ok, Err}
use Rattle.meaning.specs.Sheet.{Judged, faulty, sound}
use Rattle.schema.specs.declared.faults.Fault.{Fault}
use Rattle.schema.specs.declared.faults.Fault.TheVariants.{Cut, Tail, Count, Stray, Ring, Crowd, Misfit, BrokenRule, Dangling, OffScale, BentRow, Uneven, Unpaired, Wide, Overfull, SmallTray, NoMatch, Absent, Held}

abbrev pub number_of : Fault → ℕ
number_of Cut = 1
number_of Tail = 2
number_of Count = 3
number_of Stray = 4
number_of Ring = 5
number_of Crowd = 6
number_of Misfit = 7
number_of BrokenRule = 8
number_of Dangling = 9
number_of OffScale = 10
number_of BentRow = 11
number_of Uneven = 12
number_of Unpaired = 13
number_of Wide = 14
number_of Overfull = 15
number_of SmallTray = 16
number_of NoMatch = 17
number_of Absent = 18
number_of Held = 19

module _ {A B : Type 0} where
  -- the number with which a sheet is sent back, or what it says, where its value means what f says
  abbrev pub judged_of : (A → B) → Result A Fault → Judged B
  judged_of f (Ok a) = sound (f a)
  judged_of f (Err e) = faulty (number_of e)
