-- What the contracts of a query say: opened sheets, and the steps on decoded tables.
pub mod Opened
pub mod Steps
