-- What the judges of three schemas and two mappings give together.
use Rattle.meaning.specs.Composition as meaning
use Rattle.schema.specs.Decoded.{schema_of}
use Rattle.mapping.specs.Decoded.{mapping_of}
use Rattle.compose.specs.declared.call.Composable.{Composable}
use Rattle.compose.specs.Composed.{AllSound}

abbrev pub composable_of : Composable → meaning.Composable
composable_of x = record { S = schema_of x.first; T = schema_of x.second; U = schema_of x.third; F = mapping_of x.first x.f; G = mapping_of x.second x.g }

-- judged schemas and mappings
abbrev pub IsSound : Composable → Type 0
IsSound x = AllSound x.first x.second x.third x.f x.g
