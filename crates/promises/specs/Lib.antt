-- Every promise of the library, by demand and sentence.
pub mod Promises
