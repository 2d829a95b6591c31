-- What the contracts of Delta say: tables pulled back.
pub mod Pulled
