-- What the contracts of mappings say: decoded structs, the judge, the edges of a path.
pub mod Decoded
pub mod Judged
pub mod PathEdges
