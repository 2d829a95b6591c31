-- Laws of changed tables, of Sigma of them, and of both trays.
pub mod Changing
pub mod Pushing
pub mod Trays
