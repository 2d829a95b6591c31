-- What the text's contracts say: sheets in an input, pieces of text, rows, whole texts.
pub mod Framed
pub mod Appended
pub mod Rows
pub mod Written
