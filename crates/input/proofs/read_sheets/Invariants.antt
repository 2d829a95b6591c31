-- `input::read_sheets` reads a sheet a turn, and what it put to the front is what it took from the reader.
use Rattle.std.proofs.Common.{take}
use Rattle.std.specs.Io.KnownBytes.{Consumes}
use Rattle.input.proofs.Reading.{ReadSoFar}
use Rattle.input.proofs.read_sheets.Given as goal

abbrev pub invariant-loop : goal.invariant-loop
invariant-loop g l = ReadSoFar l.n l.initial.into l.into l.at l.counter × Consumes (g.R.Read.remaining l.initial.reader) (g.R.Read.remaining l.reader) (take l.at l.into)
