-- What the contracts of writing say: written sheets.
pub mod Written
