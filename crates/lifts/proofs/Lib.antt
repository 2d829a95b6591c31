-- Laws of evenness, lifts and joined rows.
pub mod Chains
pub mod Lifting
pub mod EvenPaths
pub mod Columns
pub mod EvenColumns
pub mod LiftPaths
pub mod EdgeLifts
pub mod JoinedRows
