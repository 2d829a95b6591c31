-- The definitions of source document 000, in the order in which it gives them; behind queries composites, which it uses without defining them.
pub mod Numbering
pub mod Schema
pub mod Instance
pub mod Mapping
pub mod Sigma
pub mod Pi
pub mod Query
pub mod Composition
pub mod Matching
pub mod Transposition
