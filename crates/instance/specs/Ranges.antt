-- The list of kinds in an array.
use Rattle.std.specs.Prelude.{List, map}
use Rattle.meaning.specs.Formats as meaning
use Rattle.meaning.specs.Formats.{Kinds, from_to}
use Rattle.instance.specs.declared.kinds.Range.{Range}

abbrev pub range_of : Range → meaning.Range
range_of r = from_to r.0 r.1

abbrev pub kinds_of : List Range → Kinds
kinds_of l = map range_of l
