-- Laws of composing: images looked up and joined, mapping sheets field by field, what judged mappings have, and the sheets opened.
pub mod Joining
pub mod SheetFields
pub mod Composing
