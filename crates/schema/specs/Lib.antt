-- What the contracts of schemas say: faults, decoded structs, judges, counts of paths, heights.
pub mod Faults
pub mod Decoded
pub mod Counted
pub mod Heights
pub mod Judged
