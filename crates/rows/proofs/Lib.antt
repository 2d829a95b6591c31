-- Laws of numbers and columns in working arrays, of a row that stands in no table yet, and of the tables after a change.
pub mod Places
pub mod Joining
pub mod Holding
pub mod TakingOut
pub mod FromRow
pub mod Changing
