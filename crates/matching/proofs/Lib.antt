-- Laws of tables and their rows in one list, of the test of a matching, and of the turnings.
pub mod TableRows
pub mod Comparing
pub mod Copying
pub mod Placing
pub mod Transposing
