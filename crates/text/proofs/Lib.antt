-- Laws of the framing and of text written piece after piece.
pub mod SheetParts
pub mod Appending
pub mod Series
pub mod Digits
pub mod Pieces
pub mod Printing
pub mod TextLength
pub mod ArrayTexts
pub mod WholeText
