-- What the contracts of paths say: numbers, the table of paths, walks, classes.
pub mod PathNumbers
pub mod Table
pub mod PathWalks
pub mod Chains
pub mod Classes
