-- What the contracts of the calls say: answers, books, joins, matched sides, demand 3.
pub mod Answers
pub mod Books
pub mod Joins
pub mod Sides
pub mod Matched
pub mod Turnable
pub mod Demand3
pub mod Encoding
