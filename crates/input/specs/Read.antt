-- What has been read: sheets with their byte lengths, and no byte after them.
use Rattle.std.specs.Prelude.{ℕ, ◌+◌, ◌-◌, ◌≤◌, ◌≡◌, List, length, take, drop, Option}
use Rattle.std.specs.Io.KnownBytes.{Consumes}
use Rattle.meaning.specs.Program.{announced, frames}
use Rattle.text.specs.Framed.{max_frame_bytes}
use Rattle.input.specs.declared.Frame.{Frame}
use Rattle.input.specs.declared.Frame.TheVariants.{Whole, Cut}

-- `&xs[..n]` is in bounds and has n bytes; the second part follows from the first
abbrev pub IsPrefixLen : ℕ → List ℕ → Type 0
IsPrefixLen n xs = (n ≤ length xs) × (n ≡ length (take n xs))

-- where what was read ends
abbrev pub end_of : Frame → ℕ
end_of (Whole end) = end
end_of (Cut end) = end

-- the bytes read from a position on
abbrev pub read_to : List ℕ → ℕ → ℕ → List ℕ
read_to new at end = take (end - at) (drop at new)

-- at most one sheet with its byte length has been read from a position on
pub record ReadFrom (old : List ℕ) (at end : ℕ) (new : List ℕ) : Type 0 where
  pub before : take at new ≡ take at old
  pub onward : at ≤ end
  pub within : end ≤ at + max_frame_bytes
  pub no_more : end - at ≤ 2 + announced (read_to new at end)

-- and a whole one where the input has not ended
abbrev pub FrameRead : List ℕ → ℕ → Frame → List ℕ → Type 0
FrameRead old at (Whole end) new = ReadFrom old at end new × (end - at ≡ 2 + announced (read_to new at end))
FrameRead old at (Cut end) new = ReadFrom old at end new

-- the first r bytes have been read, and none of them stands after the nth sheet
pub record SheetsRead (n r : ℕ) (into : List ℕ) : Type 0 where
  pub counts : IsPrefixLen r into
  pub no_more : frames n (take r into) ≡ take r into

-- what a failed read leaves: the bytes that were read before it stand from a position on, and nothing before them changed
pub record BrokenOff (had left : Option (List ℕ)) (old : List ℕ) (at : ℕ) (new : List ℕ) : Type 0 where
  pub before : take at new ≡ take at old
  pub read : ℕ
  pub within : at + read ≤ length new
  pub bytes : Consumes had left (take read (drop at new))
