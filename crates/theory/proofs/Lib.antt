-- The laws of these definitions, file by file.
pub mod Numbering
pub mod Schema
pub mod Order
pub mod Instance
pub mod Mapping
pub mod Sigma
pub mod Composition
pub mod SigmaComposite
pub mod Family
pub mod Pi
pub mod Query
pub mod Matching
pub mod Transposition
