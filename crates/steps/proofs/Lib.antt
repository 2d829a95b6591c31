-- Laws of steps in a row, of opened sheets, of trays and of texts.
pub mod Refusing
pub mod Opening
pub mod Running
pub mod Trays
pub mod Texts
pub mod Validity
