-- What the contracts on a row in working arrays say: the row, the links followed from it, the columns after a change.
pub mod Row
pub mod Columns
pub mod Changed
