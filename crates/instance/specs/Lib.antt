-- What the contracts of instances say: working arrays and what is stored in them, judges, tables.
pub mod Decoded
pub mod Ranges
pub mod Tested
pub mod Followed
pub mod Stored
pub mod Tables
