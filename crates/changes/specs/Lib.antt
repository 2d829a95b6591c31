-- What the contracts of the changes say: answers and trays, changed tables, both sheets.
pub mod Answers
pub mod Changed
