-- Laws of writing, and of the reader of a matching sheet.
pub mod Writing
pub mod MatchingSheets
