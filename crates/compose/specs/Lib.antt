-- What the contracts of composing say: the composed images, the sheets opened, and mapping sheets as they are written.
pub mod Composed
pub mod Opened
pub mod Sheets
